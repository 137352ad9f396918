-- What the tokens of a text lead to, in the reader of a grammar.
use Rattle.std.proofs.Common.{◌≡◌, ℕ, ◌-◌, ◌≤◌, List, [], length, Option, Some, None, ◌∙◌, ap, subst, arith}
use Rattle.kom_text.specs.declared.token.Token.{Token}
use Rattle.kom_parse.specs.Lexemes.{Lexeme, lexemes}
use Rattle.kom_parse.specs.Input.{Read, Refuse, Parser}
use Rattle.kom_parse.proofs.Laws.{IsReader}
use Rattle.kom_parse.proofs.Covered.{length-lexemes}
use Rattle.kom_parse.proofs.Broken.{file_spelled, file_broken, file_left}
use Rattle.kom_files.specs.Files.{AreTokens, place_at, Breaks, not_begun, no_file, IsTreeOf}

module _ {A : Type 0} (file : Parser A) (Spells : List Lexeme → A → Type 0) (wrong : List Lexeme → Option ℕ) (reader : IsReader file Spells) (whole : (ts : List Lexeme) (x : A) → Spells ts x → file ts ≡ Read x [])
    (text : List ℕ) (ts : List Token) (cut : AreTokens text ts) where
  -- the header is refused
  pub breaks_header : (after : List Lexeme) → wrong (lexemes text ts) ≡ Some (length (lexemes text ts) - length after) → Breaks Spells wrong text 4 (place_at ts (length text) (length ts - length after))
  breaks_header after e =
      let same : length (lexemes text ts) ≡ length ts = length-lexemes text ts in
      subst (λ n. Breaks Spells wrong text 4 (place_at ts (length text) (n - length after))) same (not_begun ts (length (lexemes text ts) - length after) cut e)

  -- what follows it is refused
  pub no_file_left : (after : List Lexeme) → file (lexemes text ts) ≡ Refuse after → length after ≤ length ts
  no_file_left after e = omega (arith, file_left file Spells reader whole (lexemes text ts) after e, length-lexemes text ts)

  pub breaks_grammar : (after : List Lexeme) → wrong (lexemes text ts) ≡ None → file (lexemes text ts) ≡ Refuse after → Breaks Spells wrong text 5 (place_at ts (length text) (length ts - length after))
  breaks_grammar after fine e =
      let same : length (lexemes text ts) ≡ length ts = length-lexemes text ts in
      subst (λ n. Breaks Spells wrong text 5 (place_at ts (length text) (n - length after))) same
      (no_file ts (length (lexemes text ts) - length after) cut fine (file_broken file Spells reader whole (lexemes text ts) after e))

  pub is_tree : (tree : A) (after : List Lexeme) → after ≡ [] → file (lexemes text ts) ≡ Read tree after → IsTreeOf Spells text tree
  is_tree tree after end e = record {
    tokens = ts;
    cut = cut;
    spells = file_spelled file Spells reader whole (lexemes text ts) tree (e ∙ ap (λ a. Read tree a) end);
  }
