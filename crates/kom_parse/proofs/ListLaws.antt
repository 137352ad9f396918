-- Lists with commas between their items, and such lists in parentheses.
use Rattle.std.proofs.Common.{◌≡◌, ℕ, Bool, true, false, List, [], ◌∷◌, ◌++◌, Option, Some, refl, sym, subst, append_assoc}
use Rattle.std.specs.Prelude.{codes}
use Rattle.kom_text.specs.declared.token.TokenKind.TheVariants.{Sign}
use Rattle.kom_parse.specs.Lexemes.{Lexeme, sign_lexeme}
use Rattle.kom_parse.specs.Spelled.{SpellsMore, no_more as none_left, one_more as one_left, SpellsList, empty, items, SpellsParens, parens}
use Rattle.kom_parse.specs.Input.{Read, Parser, first}
use Rattle.kom_parse.specs.Rules.{closes, is_comma, list_by, list, in_parens}
use Rattle.kom_parse.proofs.Laws.{IsReader, bind, pure_reader, by_next_reader, wider}
use Rattle.kom_parse.proofs.Tokens.{exactly_then, exactly_reads, is_exactly-is}
use Rattle.kom_parse.proofs.BetweenLaws.{SpellsEach, no_more, one_more, MoreFrom, mores_reader, stops_before, each_whole}

-- a comma and a closing parenthesis
abbrev pub comma : ℕ → Lexeme
comma a = sign_lexeme (codes ",") a

abbrev pub closing : ℕ → Lexeme
closing a = sign_lexeme (codes ")") a

module _ {A : Type 0} (Spells : List Lexeme → A → Type 0) where
  from_each : {t : List Lexeme} {xs : List A} → SpellsEach is_comma Spells t xs → SpellsMore Spells t xs
  from_each no_more = none_left
  from_each (one_more {l = l} {t = t} {ts = ts} {x = x} {xs = xs} b d ds) =
      subst (λ y. SpellsMore Spells (y ∷ (t ++ ts)) (x ∷ xs)) (sym (is_exactly-is Sign (codes ",") l b)) (one_left d (from_each ds))

  to_each : {t : List Lexeme} {xs : List A} → SpellsMore Spells t xs → SpellsEach is_comma Spells t xs
  to_each none_left = no_more
  to_each (one_left d ds) = one_more refl d (to_each ds)

module _ {A : Type 0} (item : Parser A) (Spells : List Lexeme → A → Type 0) (r : IsReader item Spells) where
  pub list_reader : IsReader (list item) (SpellsList Spells)
  unfolding list
  list_reader = by_next_reader _ (SpellsList Spells) (λ o. by_case (closes o)) where
    all : (t : List Lexeme) (x : A) → Spells t x → (u : List Lexeme) (ys : List A) → MoreFrom is_comma Spells (x ∷ []) u ys → SpellsList Spells (t ++ u) ys
    all t x d u ys w = subst (λ ys. SpellsList Spells (t ++ u) ys) (sym w.is) (items d (from_each Spells w.spells))

    by_case : (b : Bool) → IsReader (list_by item b) (SpellsList Spells)
    by_case true = pure_reader (SpellsList Spells) [] empty
    by_case false = bind item _ Spells (SpellsList Spells) r (λ x t d.
        wider (MoreFrom is_comma Spells (x ∷ [])) (λ u ys. SpellsList Spells (t ++ u) ys) (mores_reader is_comma refl item Spells r (x ∷ [])) (λ u ys w. all t x d u ys w))

  pub parens_reader : IsReader (in_parens item) (SpellsParens Spells)
  unfolding in_parens
  parens_reader = exactly_then Sign (codes "(") _ (SpellsParens Spells) (λ a. bind (list item) _ (SpellsList Spells) _ list_reader (λ xs t d.
      exactly_then Sign (codes ")") _ (λ u ys. SpellsParens Spells (sign_lexeme (codes "(") a ∷ (t ++ u)) ys) (λ b.
      pure_reader (λ u ys. SpellsParens Spells (sign_lexeme (codes "(") a ∷ (t ++ closing b ∷ u)) ys) xs (parens a b d))))

  -- what may stand behind an item
  module _ (Stops : Option Lexeme → Type 0) (at_comma : (a : ℕ) → Stops (Some (comma a))) (at_closing : (a : ℕ) → Stops (Some (closing a)))
      (whole : (t : List Lexeme) (x : A) (after : List Lexeme) → Spells t x → Stops (first after) → item (t ++ after) ≡ Read x after) where
    stops_at_comma : (l : Lexeme) → is_comma (Some l) ≡ true → Stops (Some l)
    stops_at_comma l b = subst (λ y. Stops (Some y)) (sym (is_exactly-is Sign (codes ",") l b)) (at_comma l.at)

    -- no item begins with the parenthesis that ends the list
    module _ (begins : (t : List Lexeme) (x : A) (after : List Lexeme) → Spells t x → closes (first (t ++ after)) ≡ false) where
      pub list_whole : (a : ℕ) (t : List Lexeme) (xs : List A) (after : List Lexeme) → SpellsList Spells t xs → list item (t ++ closing a ∷ after) ≡ Read xs (closing a ∷ after)
      unfolding list
      list_whole a t xs after empty = refl
      list_whole a t xs after (items {t = t'} {ts = ts} {x = x} {xs = xs'} d ds) =
          let more' = to_each Spells ds in
          let regroup : (t' ++ ts) ++ closing a ∷ after ≡ t' ++ (ts ++ closing a ∷ after) = append_assoc t' ts (closing a ∷ after) in
          rw (
            regroup,
            begins t' x (ts ++ closing a ∷ after) d,
            whole t' x (ts ++ closing a ∷ after) d (stops_before is_comma refl item Spells r Stops stops_at_comma whole ts xs' (closing a ∷ after) more' (at_closing a)),
          ) (each_whole is_comma refl item Spells r Stops stops_at_comma whole ts xs' more' (x ∷ []) (closing a ∷ after) (at_closing a) refl)

      pub parens_whole : {t : List Lexeme} {xs : List A} → SpellsParens Spells t xs → (after : List Lexeme) → in_parens item (t ++ after) ≡ Read xs after
      unfolding in_parens
      parens_whole (parens a b {t = t} {xs = xs} d) after =
          rw (exactly_reads Sign (codes "(") a, append_assoc t (closing b ∷ []) after, list_whole b t xs after d, exactly_reads Sign (codes ")") b) refl
