-- Items with a token before each: what follows the first item of a list.
use Rattle.std.proofs.Common.{◌≡◌, ◌<◌, Bool, true, false, List, [], ◌∷◌, ◌++◌, Option, Some, None, refl, sym, ◌∙◌, ap, arith, append_assoc, length}
use Rattle.std.proofs.lemmas.List.{append-nil}
use Rattle.kom_parse.specs.Lexemes.{Lexeme}
use Rattle.kom_parse.specs.Input.{Read, Refuse, Parser, first, eat_if, loop}
use Rattle.kom_parse.specs.Rules.{onto, more_by, more}
use Rattle.kom_parse.proofs.Laws.{IsReader, pure_reader, then_give, eat_then, eat_takes, eat_misses, Turned, loop_reader, loop_goes, loop_stops, loop_refuses, loop_shorter}

-- items, each with a token that passes the test before it
pub data SpellsEach {A : Type 0} (between : Option Lexeme → Bool) (Spells : List Lexeme → A → Type 0) : List Lexeme → List A → Type 0 where
  no_more : SpellsEach between Spells [] []
  one_more : {l : Lexeme} {t ts : List Lexeme} {x : A} {xs : List A} → between (Some l) ≡ true → Spells t x → SpellsEach between Spells ts xs → SpellsEach between Spells (l ∷ (t ++ ts)) (x ∷ xs)

-- what is added to the items so far
pub record MoreFrom {A : Type 0} (between : Option Lexeme → Bool) (Spells : List Lexeme → A → Type 0) (xs : List A) (t : List Lexeme) (ys : List A) : Type 0 where
  pub added : List A
  pub is : ys ≡ xs ++ added
  pub spells : SpellsEach between Spells t added

module _ {A : Type 0} (between : Option Lexeme → Bool) (item : Parser A) where
  pub more_takes : (xs : List A) (x : A) (ts middle after : List Lexeme) → eat_if between ts ≡ Read true middle → item middle ≡ Read x after → more between item xs ts ≡ Read (Some (onto xs x)) after
  unfolding more
  more_takes xs x ts middle after e e' = rw (e, e') refl

  pub more_ends : (xs : List A) (ts after : List Lexeme) → eat_if between ts ≡ Read false after → loop (more between item) xs ts ≡ Read xs after
  unfolding more
  more_ends xs ts after e = loop_stops (more between item) xs ts after (rw e refl)

  pub more_refuses : (xs : List A) (ts middle after : List Lexeme) → eat_if between ts ≡ Read true middle → item middle ≡ Refuse after → loop (more between item) xs ts ≡ Refuse after
  unfolding more
  more_refuses xs ts middle after e e' = loop_refuses (more between item) xs ts after (rw (e, e') refl)

module _ {A : Type 0} (between : Option Lexeme → Bool) (none : between None ≡ false) (item : Parser A) (Spells : List Lexeme → A → Type 0) (r : IsReader item Spells) where
  nothing : (xs : List A) → MoreFrom between Spells xs [] xs
  nothing xs = record { added = []; is = sym (append-nil xs); spells = no_more }

  one : (l : Lexeme) (xs : List A) (t : List Lexeme) (x : A) → between (Some l) ≡ true → Spells t x → (u : List Lexeme) (ys : List A) → MoreFrom between Spells (onto xs x) u ys
      → MoreFrom between Spells xs (l ∷ (t ++ u)) ys
  one l xs t x b d u ys w = record { added = x ∷ w.added; is = w.is ∙ append_assoc xs (x ∷ []) w.added; spells = one_more b d w.spells }

  more_reader : (xs : List A) → IsReader (more between item xs) (Turned (MoreFrom between Spells) xs)
  unfolding more
  more_reader xs = eat_then between none (more_by item xs) (Turned (MoreFrom between Spells) xs)
      (λ l b. then_give Spells (λ x. Some (onto xs x)) (λ u o. Turned (MoreFrom between Spells) xs (l ∷ u) o) r
      (λ t x d. (omega arith, λ u ys w. one l xs t x b d u ys w)))
      (pure_reader (Turned (MoreFrom between Spells) xs) None (nothing xs))

  pub mores_reader : (xs : List A) → IsReader (loop (more between item) xs) (MoreFrom between Spells xs)
  mores_reader xs = loop_reader (more between item) (MoreFrom between Spells) more_reader nothing xs

  pub more_goes : (xs ys : List A) (ts after : List Lexeme) → more between item xs ts ≡ Read (Some ys) after → loop (more between item) xs ts ≡ loop (more between item) ys after
  more_goes = loop_goes (more between item) (MoreFrom between Spells) more_reader nothing

  more_shorter : (xs ys : List A) (ts after : List Lexeme) → more between item xs ts ≡ Read (Some ys) after → length after < length ts
  more_shorter = loop_shorter (more between item) (MoreFrom between Spells) more_reader nothing

  pub each_turns : (xs : List A) (x : A) (ts middle after : List Lexeme) → eat_if between ts ≡ Read true middle → item middle ≡ Read x after
      → loop (more between item) xs ts ≡ loop (more between item) (onto xs x) after
  each_turns xs x ts middle after e e' = more_goes xs (onto xs x) ts after (more_takes between item xs x ts middle after e e')

  pub each_shorter : (x : A) (ts middle after : List Lexeme) → eat_if between ts ≡ Read true middle → item middle ≡ Read x after → length after < length ts
  each_shorter x ts middle after e e' = more_shorter [] (x ∷ []) ts after (more_takes between item [] x ts middle after e e')

  -- what may stand behind an item
  module _ (Stops : Option Lexeme → Type 0) (at_between : (l : Lexeme) → between (Some l) ≡ true → Stops (Some l))
      (whole : (t : List Lexeme) (x : A) (after : List Lexeme) → Spells t x → Stops (first after) → item (t ++ after) ≡ Read x after) where
    -- the token before the next item, or what follows
    pub stops_before : (t : List Lexeme) (xs : List A) (after : List Lexeme) → SpellsEach between Spells t xs → Stops (first after) → Stops (first (t ++ after))
    stops_before t xs after no_more stops = stops
    stops_before t xs after (one_more {l = l} b d ds) stops = at_between l b

    pub each_whole : (t : List Lexeme) (zs : List A) → SpellsEach between Spells t zs → (xs : List A) (after : List Lexeme) → Stops (first after) → between (first after) ≡ false
        → loop (more between item) xs (t ++ after) ≡ Read (xs ++ zs) after
    each_whole t zs no_more xs after stops e = rw append-nil (more_ends between item xs after after (eat_misses between after e))
    each_whole t zs (one_more {l = l} {t = t'} {ts = ts} {x = x} {xs = xs'} b d ds) xs after stops e =
        let regroup : (t' ++ ts) ++ after ≡ t' ++ (ts ++ after) = append_assoc t' ts after in
        let ih = each_whole ts xs' ds (onto xs x) after stops e in
        rw regroup (each_turns xs x (l ∷ (t' ++ (ts ++ after))) (t' ++ (ts ++ after)) (ts ++ after)
        (eat_takes between l (t' ++ (ts ++ after)) b) (whole t' x (ts ++ after) d (stops_before ts xs' after ds stops))
        ∙ ih ∙ ap (λ ys. Read ys after) (append_assoc xs (x ∷ []) xs'))
