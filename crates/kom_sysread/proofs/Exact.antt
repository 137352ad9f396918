-- What the reader of files gives is what the grammar and the rules say.
use Rattle.std.proofs.Common.{◌≡◌, ℕ, ◌-◌, ◌≤◌, Bool, true, false, List, [], ◌∷◌, length, Option, Some, None, refl, sym, ◌∙◌, ap, subst, arith, ◌⊎◌, inl, inr, ◌+◌, suc}
use Rattle.std.specs.Prelude.{codes}
use Rattle.kom_system.specs.declared.parts.Parts.{Parts}
use Rattle.kom_text.specs.declared.token.Token.{Token}
use Rattle.kom_text.specs.declared.token.TokenKind.{TokenKind}
use Rattle.kom_text.specs.declared.token.TokenKind.TheVariants.{Word, Number, Sign}
use Rattle.kom_parse.specs.Lexemes.{Lexeme, lexemes}
use Rattle.kom_parse.specs.Input.{Read, Refuse, first, rest, want, eat_if}
use Rattle.kom_parse.specs.Rules.{is_exactly, exactly_in, exactly, eat}
use Rattle.kom_parse.proofs.Covered.{length-lexemes}
use Rattle.kom_parse.proofs.Broken.{file_spelled, file_broken, file_left}
use Rattle.kom_grammar.specs.Files.{SpellsFile}
use Rattle.kom_sysread.specs.Answers.{AreTokens, place_at, is_version, header_break, Breaks, not_begun, no_file, IsTreeOf}
use Rattle.kom_sysread.specs.Reading.{no_decls, version, header, decls, file}
use Rattle.kom_sysread.proofs.FileReads.{file_reader}
use Rattle.kom_sysread.proofs.FileWhole.{file_whole}

-- ---- the header

-- where the token is there, or is not
exactly_by : (kind : TokenKind) (bytes : List ℕ) (ts : List Lexeme) → ((is_exactly kind bytes (first ts) ≡ true) × ((a : ℕ) × (exactly kind bytes ts ≡ Read a (rest ts)))) ⊎ ((is_exactly kind bytes (first ts) ≡ false) × (exactly kind bytes ts ≡ Refuse ts))
unfolding exactly want
exactly_by kind bytes ts = by_case (exactly_in kind bytes (first ts)) refl where
  by_case : (o : Option ℕ) → exactly_in kind bytes (first ts) ≡ o
      → ((is_exactly kind bytes (first ts) ≡ true) × ((a : ℕ) × (exactly kind bytes ts ≡ Read a (rest ts)))) ⊎ ((is_exactly kind bytes (first ts) ≡ false) × (exactly kind bytes ts ≡ Refuse ts))
  by_case (Some a) e = inl (rw e refl, (a, rw e refl))
  by_case None e = inr (rw e refl, rw e refl)

version_by_first : (ts : List Lexeme)
    → ((is_version (first ts) ≡ true) × ((two : Bool) × (version ts ≡ Read two (rest ts)))) ⊎ ((is_version (first ts) ≡ false) × (version ts ≡ Refuse ts))
unfolding version eat eat_if
version_by_first ts = by_one (is_exactly Number (codes "1") (first ts)) refl (exactly_by Number (codes "2") ts) where
  by_one : (one : Bool) → is_exactly Number (codes "1") (first ts) ≡ one
      → ((is_exactly Number (codes "2") (first ts) ≡ true) × ((a : ℕ) × (exactly Number (codes "2") ts ≡ Read a (rest ts)))) ⊎ ((is_exactly Number (codes "2") (first ts) ≡ false) × (exactly Number (codes "2") ts ≡ Refuse ts))
      → ((is_version (first ts) ≡ true) × ((two : Bool) × (version ts ≡ Read two (rest ts)))) ⊎ ((is_version (first ts) ≡ false) × (version ts ≡ Refuse ts))
  by_one true e k = inl (rw e refl, (false, rw e refl))
  by_one false e (inl k) = inl (rw (e, k.0) refl, (true, rw (e, k.1.1) refl))
  by_one false e (inr k) = inr (rw (e, k.0) refl, rw (e, k.1) refl)

-- a header that is read, or the first of its tokens that is another
data Headed (ts : List Lexeme) : Type 0 where
  good : (two : Bool) (after : List Lexeme) → header ts ≡ Read two after → header_break ts ≡ None → Headed ts
  bad : (k : ℕ) (after : List Lexeme) → header ts ≡ Refuse after → header_break ts ≡ Some k → length ts ≡ k + length after → Headed ts

one_gone : (test : Option Lexeme → Bool) (ts : List Lexeme) → test None ≡ false → test (first ts) ≡ true → length ts ≡ suc (length (rest ts))
one_gone test [] none e = absurd (let both : false ≡ true = sym none ∙ e in cc)
one_gone test (t ∷ ts) none e = refl

headed : (ts : List Lexeme) → Headed ts
unfolding header
headed ts = by_word (exactly_by Word (codes "system") ts) (version_by_first (rest ts)) (exactly_by Sign (codes ";") (rest (rest ts))) where
  by_word : ((is_exactly Word (codes "system") (first ts) ≡ true) × ((a : ℕ) × (exactly Word (codes "system") ts ≡ Read a (rest ts)))) ⊎ ((is_exactly Word (codes "system") (first ts) ≡ false) × (exactly Word (codes "system") ts ≡ Refuse ts))
      → ((is_version (first (rest ts)) ≡ true) × ((two : Bool) × (version (rest ts) ≡ Read two (rest (rest ts))))) ⊎ ((is_version (first (rest ts)) ≡ false) × (version (rest ts) ≡ Refuse (rest ts)))
      → ((is_exactly Sign (codes ";") (first (rest (rest ts))) ≡ true) × ((a : ℕ) × (exactly Sign (codes ";") (rest (rest ts)) ≡ Read a (rest (rest (rest ts)))))) ⊎ ((is_exactly Sign (codes ";") (first (rest (rest ts))) ≡ false) × (exactly Sign (codes ";") (rest (rest ts)) ≡ Refuse (rest (rest ts))))
      → Headed ts
  by_word (inr a) b c = bad 0 ts (rw (a.1) refl) (rw (a.0) refl) (omega arith)
  by_word (inl a) (inr b) c =
      bad 1 (rest ts) (rw (a.1.1, b.1) refl) (rw (a.0, b.0) refl) (omega (arith, one_gone (is_exactly Word (codes "system")) ts refl (a.0)))
  by_word (inl a) (inl b) (inr c) =
      bad 2 (rest (rest ts)) (rw (a.1.1, b.1.1, c.1) refl) (rw (a.0, b.0, c.0) refl)
      (omega (arith, one_gone (is_exactly Word (codes "system")) ts refl (a.0), one_gone is_version (rest ts) refl (b.0)))
  by_word (inl a) (inl b) (inl c) = good (b.1.0) (rest (rest (rest ts))) (rw (a.1.1, b.1.1, c.1.1) refl) (rw (a.0, b.0, c.0) refl)

pub header_refused : (ts after : List Lexeme) → header ts ≡ Refuse after → header_break ts ≡ Some (length ts - length after)
header_refused ts after e = by_case (headed ts) where
  by_case : Headed ts → header_break ts ≡ Some (length ts - length after)
  by_case (good two other read fine) = absurd (let both : Read two other ≡ Refuse after = sym read ∙ e in cc)
  by_case (bad k other refused broken counts) =
      let both : Refuse other ≡ Refuse after = sym refused ∙ e in
      let same : other ≡ after = cc in
      broken ∙ ap Some (omega (arith, counts, ap length same))

pub header_fine : (ts : List Lexeme) (two : Bool) (after : List Lexeme) → header ts ≡ Read two after → header_break ts ≡ None
header_fine ts two after e = by_case (headed ts) where
  by_case : Headed ts → header_break ts ≡ None
  by_case (good two' other read fine) = fine
  by_case (bad k other refused broken counts) = absurd (let both : Refuse other ≡ Read two after = sym refused ∙ e in cc)

header_left : (ts after : List Lexeme) → header ts ≡ Refuse after → length after ≤ length ts
header_left ts after e = by_case (headed ts) where
  by_case : Headed ts → length after ≤ length ts
  by_case (good two other read fine) = absurd (let both : Read two other ≡ Refuse after = sym read ∙ e in cc)
  by_case (bad k other refused broken counts) =
      let both : Refuse other ≡ Refuse after = sym refused ∙ e in
      let same : other ≡ after = cc in
      omega (arith, counts, ap length same)

-- ---- the answers of a text

file_is : (end : ℕ) (ts : List Lexeme) (two : Bool) (middle : List Lexeme) → header ts ≡ Read two middle → file end ts ≡ decls two (no_decls two end) middle
unfolding file
file_is end ts two middle e = rw e refl

module _ (text : List ℕ) (ts : List Token) (cut : AreTokens text ts) where
  pub not_begun_left : (after : List Lexeme) → header (lexemes text ts) ≡ Refuse after → length after ≤ length ts
  not_begun_left after e = omega (arith, header_left (lexemes text ts) after e, length-lexemes text ts)

  pub breaks_header : (after : List Lexeme) → header (lexemes text ts) ≡ Refuse after → Breaks text 4 (place_at ts (length text) (length ts - length after))
  breaks_header after e =
      let same : length (lexemes text ts) ≡ length ts = length-lexemes text ts in
      subst (λ n. Breaks text 4 (place_at ts (length text) (n - length after))) same (not_begun ts (length (lexemes text ts) - length after) cut (header_refused (lexemes text ts) after e))

  module _ (two : Bool) (middle after : List Lexeme) (begun : header (lexemes text ts) ≡ Read two middle) where
    pub no_file_left : decls two (no_decls two (length text)) middle ≡ Refuse after → length after ≤ length ts
    no_file_left e =
        omega (
          arith,
          file_left (file (length text)) (SpellsFile (length text)) (file_reader (length text)) (file_whole (length text)) (lexemes text ts) after (file_is (length text) (lexemes text ts) two middle begun ∙ e),
          length-lexemes text ts,
        )

    pub breaks_grammar : decls two (no_decls two (length text)) middle ≡ Refuse after → Breaks text 5 (place_at ts (length text) (length ts - length after))
    breaks_grammar e =
        let same : length (lexemes text ts) ≡ length ts = length-lexemes text ts in
        subst (λ n. Breaks text 5 (place_at ts (length text) (n - length after))) same (no_file ts (length (lexemes text ts) - length after) cut (header_fine (lexemes text ts) two middle begun)
        (file_broken (file (length text)) (SpellsFile (length text)) (file_reader (length text)) (file_whole (length text)) (lexemes text ts) after (file_is (length text) (lexemes text ts) two middle begun ∙ e)))

    pub is_tree : (tree : Parts) → after ≡ [] → decls two (no_decls two (length text)) middle ≡ Read tree after → IsTreeOf text tree
    is_tree tree end e = record {
      tokens = ts;
      cut = cut;
      spells = file_spelled (file (length text)) (SpellsFile (length text)) (file_reader (length text)) (file_whole (length text)) (lexemes text ts) tree
          (file_is (length text) (lexemes text ts) two middle begun ∙ e ∙ ap (λ a. Read tree a) end);
    }

-- a file has its header
pub file_headed : (end : ℕ) (ts : List Lexeme) (tree : Parts) → SpellsFile end ts tree → header_break ts ≡ None
unfolding file
file_headed end ts tree d = by_case (headed ts) where
  refuses : (after : List Lexeme) → header ts ≡ Refuse after → file end ts ≡ Refuse after
  refuses after e = rw e refl

  by_case : Headed ts → header_break ts ≡ None
  by_case (good two other read fine) = fine
  by_case (bad k other refused broken counts) =
      absurd (let both : Refuse other ≡ Read tree [] = sym (refuses other refused) ∙ file_whole end ts tree d in cc)
