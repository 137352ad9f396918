-- Items in a row, each added to what the earlier ones made.
use Rattle.std.proofs.Common.{◌≡◌, ◌<◌, Bool, true, false, List, [], ◌∷◌, ◌++◌, Option, Some, None, refl, sym, ◌∙◌, append_assoc, length}
use Rattle.std.proofs.lemmas.List.{append-nil}
use Rattle.kom_parse.specs.Lexemes.{Lexeme}
use Rattle.kom_parse.specs.Input.{Read, Refuse, Parser, first, loop}
use Rattle.kom_parse.specs.Rules.{onto, row_by, row_turn}
use Rattle.kom_parse.proofs.Laws.{IsReader, pure_reader, by_next_reader, then_give, Turned, loop_reader, loop_goes, loop_stops, loop_refuses, loop_shorter}

-- what all items make of a first state
abbrev pub all_added : {A S : Type 0} → (S → A → S) → S → List A → S
all_added add s [] = s
all_added add s (x ∷ xs) = all_added add (add s x) xs

-- a list to which items are added
pub onto_all : {A : Type 0} (xs ys : List A) → all_added onto xs ys ≡ xs ++ ys
onto_all xs [] = sym (append-nil xs)
onto_all xs (y ∷ ys) = onto_all (onto xs y) ys ∙ append_assoc xs (y ∷ []) ys

pub record RowFrom {A S : Type 0} (add : S → A → S) (Row : List Lexeme → List A → Type 0) (s : S) (t : List Lexeme) (z : S) : Type 0 where
  pub added : List A
  pub is : z ≡ all_added add s added
  pub spells : Row t added

module _ {A S : Type 0} (ends : Option Lexeme → Bool) (item : Parser A) (add : S → A → S) where
  pub row_end : (s : S) (after : List Lexeme) → ends (first after) ≡ true → loop (row_turn ends item add) s after ≡ Read s after
  unfolding row_turn
  row_end s after e = loop_stops (row_turn ends item add) s after after (rw e refl)

  pub row_next : (s : S) (x : A) (ts after : List Lexeme) → ends (first ts) ≡ false → item ts ≡ Read x after → row_turn ends item add s ts ≡ Read (Some (add s x)) after
  unfolding row_turn
  row_next s x ts after e e' = rw (e, e') refl

  pub row_stuck : (s : S) (ts after : List Lexeme) → ends (first ts) ≡ false → item ts ≡ Refuse after → loop (row_turn ends item add) s ts ≡ Refuse after
  unfolding row_turn
  row_stuck s ts after e e' = loop_refuses (row_turn ends item add) s ts after (rw (e, e') refl)

  module _ (Spells : List Lexeme → A → Type 0) (Row : List Lexeme → List A → Type 0)
      (end : Row [] []) (next : (t ts : List Lexeme) (x : A) (xs : List A) → Spells t x → Row ts xs → Row (t ++ ts) (x ∷ xs))
      (some : (t : List Lexeme) (x : A) → Spells t x → 0 < length t) (r : IsReader item Spells) where
    nothing : (s : S) → RowFrom add Row s [] s
    nothing s = record { added = []; is = refl; spells = end }

    turn_reader : (s : S) → IsReader (row_turn ends item add s) (Turned (RowFrom add Row) s)
    unfolding row_turn
    turn_reader s = by_next_reader _ (Turned (RowFrom add Row) s) (λ o. by_case (ends o)) where
      one : (t : List Lexeme) (x : A) → Spells t x → (u : List Lexeme) (z : S) → RowFrom add Row (add s x) u z → RowFrom add Row s (t ++ u) z
      one t x d u z w = record { added = x ∷ w.added; is = w.is; spells = next t u x w.added d w.spells }

      by_case : (b : Bool) → IsReader (row_by item add s b) (Turned (RowFrom add Row) s)
      by_case true = pure_reader (Turned (RowFrom add Row) s) None (nothing s)
      by_case false = then_give Spells (λ x. Some (add s x)) (Turned (RowFrom add Row) s) r (λ t x d. (some t x d, λ u z w. one t x d u z w))

    pub row_reader : (s : S) → IsReader (loop (row_turn ends item add) s) (RowFrom add Row s)
    row_reader s = loop_reader (row_turn ends item add) (RowFrom add Row) turn_reader nothing s

    pub row_goes : (s : S) (x : A) (ts after : List Lexeme) → ends (first ts) ≡ false → item ts ≡ Read x after
        → loop (row_turn ends item add) s ts ≡ loop (row_turn ends item add) (add s x) after
    row_goes s x ts after e e' = loop_goes (row_turn ends item add) (RowFrom add Row) turn_reader nothing s (add s x) ts after (row_next s x ts after e e')

    pub row_shorter : (s : S) (x : A) (ts after : List Lexeme) → ends (first ts) ≡ false → item ts ≡ Read x after → length after < length ts
    row_shorter s x ts after e e' = loop_shorter (row_turn ends item add) (RowFrom add Row) turn_reader nothing s (add s x) ts after (row_next s x ts after e e')
