-- What the reader of a header gives is what the definition says of the first three tokens.
use Rattle.std.proofs.Common.{◌≡◌, ℕ, ◌+◌, ◌-◌, ◌≤◌, true, false, List, [], ◌∷◌, length, Option, Some, None, refl, sym, ◌∙◌, ap, arith, suc}
use Rattle.std.specs.Prelude.{codes}
use Rattle.kom_text.specs.declared.token.TokenKind.{TokenKind}
use Rattle.kom_text.specs.declared.token.TokenKind.TheVariants.{Word, Number, Sign}
use Rattle.kom_parse.specs.Lexemes.{Lexeme, word_lexeme, number_lexeme, sign_lexeme}
use Rattle.kom_parse.specs.Input.{Read, Refuse, first, rest, want}
use Rattle.kom_parse.specs.Rules.{is_exactly, exactly_in, exactly}
use Rattle.kom_parse.proofs.Laws.{IsReader, pure_reader}
use Rattle.kom_parse.proofs.Tokens.{exactly_then, exactly_reads}
use Rattle.kom_files.specs.Headers.{header, header_break}

-- where the token is there, or is not
pub data Found (kind : TokenKind) (bytes : List ℕ) (ts : List Lexeme) : Type 0 where
  there : (a : ℕ) → is_exactly kind bytes (first ts) ≡ true → exactly kind bytes ts ≡ Read a (rest ts) → length ts ≡ suc (length (rest ts)) → Found kind bytes ts
  missing : is_exactly kind bytes (first ts) ≡ false → exactly kind bytes ts ≡ Refuse ts → Found kind bytes ts

found : (kind : TokenKind) (bytes : List ℕ) (ts : List Lexeme) → Found kind bytes ts
unfolding exactly want
found kind bytes [] = missing refl refl
found kind bytes (t ∷ ts) = by_case (exactly_in kind bytes (Some t)) refl where
  by_case : (o : Option ℕ) → exactly_in kind bytes (Some t) ≡ o → Found kind bytes (t ∷ ts)
  by_case (Some a) e = there a (rw e refl) (rw e refl) refl
  by_case None e = missing (rw e refl) (rw e refl)

-- the header of a text
pub data SpellsHeader (word version : List ℕ) : List Lexeme → Unit {0} → Type 0 where
  headed_by : (a b c : ℕ) → SpellsHeader word version (word_lexeme word a ∷ number_lexeme version b ∷ sign_lexeme (codes ";") c ∷ []) tt

module _ (word version : List ℕ) where
  -- a header that is read, or the first of its tokens that is another
  data Headed (ts : List Lexeme) : Type 0 where
    good : (after : List Lexeme) → header word version ts ≡ Read tt after → header_break word version ts ≡ None → Headed ts
    bad : (k : ℕ) (after : List Lexeme) → header word version ts ≡ Refuse after → header_break word version ts ≡ Some k → length ts ≡ k + length after → Headed ts

  headed : (ts : List Lexeme) → Headed ts
  unfolding header
  headed ts = by_word (found Word word ts) (found Number version (rest ts)) (found Sign (codes ";") (rest (rest ts))) where
    by_word : Found Word word ts → Found Number version (rest ts) → Found Sign (codes ";") (rest (rest ts)) → Headed ts
    by_word (missing e r) y z = bad 0 ts (rw r refl) (rw e refl) (omega arith)
    by_word (there a e r l) (missing e' r') z = bad 1 (rest ts) (rw (r, r') refl) (rw (e, e') refl) (omega (arith, l))
    by_word (there a e r l) (there a' e' r' l') (missing e'' r'') = bad 2 (rest (rest ts)) (rw (r, r', r'') refl) (rw (e, e', e'') refl) (omega (arith, l, l'))
    by_word (there a e r l) (there a' e' r' l') (there a'' e'' r'' l'') = good (rest (rest (rest ts))) (rw (r, r', r'') refl) (rw (e, e', e'') refl)

  pub header_refused : (ts after : List Lexeme) → header word version ts ≡ Refuse after → header_break word version ts ≡ Some (length ts - length after)
  header_refused ts after e = by_case (headed ts) where
    by_case : Headed ts → header_break word version ts ≡ Some (length ts - length after)
    by_case (good other read fine) = absurd (let both : Read tt other ≡ Refuse after = sym read ∙ e in cc)
    by_case (bad k other refused broken counts) =
        let both : Refuse other ≡ Refuse after = sym refused ∙ e in
        let same : other ≡ after = cc in
        broken ∙ ap Some (omega (arith, counts, ap length same))

  pub header_fine : (ts : List Lexeme) (u : Unit {0}) (after : List Lexeme) → header word version ts ≡ Read u after → header_break word version ts ≡ None
  header_fine ts u after e = by_case (headed ts) where
    by_case : Headed ts → header_break word version ts ≡ None
    by_case (good other read fine) = fine
    by_case (bad k other refused broken counts) = absurd (let both : Refuse other ≡ Read u after = sym refused ∙ e in cc)

  pub header_left : (ts after : List Lexeme) → header word version ts ≡ Refuse after → length after ≤ length ts
  header_left ts after e = by_case (headed ts) where
    by_case : Headed ts → length after ≤ length ts
    by_case (good other read fine) = absurd (let both : Read tt other ≡ Refuse after = sym read ∙ e in cc)
    by_case (bad k other refused broken counts) =
        let both : Refuse other ≡ Refuse after = sym refused ∙ e in
        let same : other ≡ after = cc in
        omega (arith, counts, ap length same)

  pub header_reader : IsReader (header word version) (SpellsHeader word version)
  unfolding header
  header_reader = exactly_then Word word _ (SpellsHeader word version) (λ a.
      exactly_then Number version _ (λ u x. SpellsHeader word version (word_lexeme word a ∷ u) x) (λ b.
      exactly_then Sign (codes ";") _ (λ u x. SpellsHeader word version (word_lexeme word a ∷ number_lexeme version b ∷ u) x) (λ c.
      pure_reader (λ u x. SpellsHeader word version (word_lexeme word a ∷ number_lexeme version b ∷ sign_lexeme (codes ";") c ∷ u) x) tt (headed_by a b c))))

  pub header_whole : (a b c : ℕ) (after : List Lexeme) → header word version (word_lexeme word a ∷ number_lexeme version b ∷ sign_lexeme (codes ";") c ∷ after) ≡ Read tt after
  unfolding header
  header_whole a b c after = rw (exactly_reads Word word a, exactly_reads Number version b, exactly_reads Sign (codes ";") c) refl
