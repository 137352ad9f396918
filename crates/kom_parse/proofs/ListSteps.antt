-- What methods that read lists need of the rules.
use Rattle.std.proofs.Common.{◌≡◌, ◌<◌, true, false, List, [], ◌∷◌, length, refl}
use Rattle.std.specs.Prelude.{codes}
use Rattle.kom_text.specs.declared.token.TokenKind.TheVariants.{Sign}
use Rattle.kom_parse.specs.Lexemes.{Lexeme}
use Rattle.kom_parse.specs.Input.{Read, Refuse, Parser, first, loop}
use Rattle.kom_parse.specs.Rules.{closes, is_comma, eat, onto, more, list}
use Rattle.kom_parse.proofs.Laws.{IsReader}
use Rattle.kom_parse.proofs.BetweenLaws.{more_ends, more_refuses, each_turns, each_shorter}

module _ {A : Type 0} (item : Parser A) where
  pub list_empty : (ts : List Lexeme) → closes (first ts) ≡ true → list item ts ≡ Read [] ts
  unfolding list
  list_empty ts e = rw e refl

  pub list_refuses : (ts after : List Lexeme) → closes (first ts) ≡ false → item ts ≡ Refuse after → list item ts ≡ Refuse after
  unfolding list
  list_refuses ts after e e' = rw (e, e') refl

  pub list_goes : (ts after : List Lexeme) (x : A) → closes (first ts) ≡ false → item ts ≡ Read x after → list item ts ≡ loop (more is_comma item) (x ∷ []) after
  unfolding list
  list_goes ts after x e e' = rw (e, e') refl

  pub commas_end : (xs : List A) (ts after : List Lexeme) → eat Sign (codes ",") ts ≡ Read false after → loop (more is_comma item) xs ts ≡ Read xs after
  unfolding eat
  commas_end xs ts after e = more_ends is_comma item xs ts after e

  pub commas_refuse : (xs : List A) (ts middle after : List Lexeme) → eat Sign (codes ",") ts ≡ Read true middle → item middle ≡ Refuse after → loop (more is_comma item) xs ts ≡ Refuse after
  unfolding eat
  commas_refuse xs ts middle after e e' = more_refuses is_comma item xs ts middle after e e'

  module _ (Spells : List Lexeme → A → Type 0) (r : IsReader item Spells) where
    pub commas_turn : (xs : List A) (x : A) (ts middle after : List Lexeme) → eat Sign (codes ",") ts ≡ Read true middle → item middle ≡ Read x after
        → loop (more is_comma item) xs ts ≡ loop (more is_comma item) (onto xs x) after
    unfolding eat
    commas_turn xs x ts middle after e e' = each_turns is_comma refl item Spells r xs x ts middle after e e'

    pub commas_shorter : (x : A) (ts middle after : List Lexeme) → eat Sign (codes ",") ts ≡ Read true middle → item middle ≡ Read x after → length after < length ts
    unfolding eat
    commas_shorter x ts middle after e e' = each_shorter is_comma refl item Spells r x ts middle after e e'
