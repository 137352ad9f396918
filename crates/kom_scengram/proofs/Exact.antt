-- What the reader of scenarios gives is what the grammar and the rules say.
use Rattle.std.proofs.Common.{◌≡◌, ℕ, ◌-◌, ◌≤◌, List, [], length, refl, ◌∙◌}
use Rattle.kom_text.specs.declared.token.Token.{Token}
use Rattle.kom_parse.specs.Lexemes.{Lexeme, lexemes}
use Rattle.kom_parse.specs.Input.{Read, Refuse}
use Rattle.kom_parse.proofs.Covered.{length-lexemes}
use Rattle.kom_files.specs.declared.file.FileRead.{FileRead}
use Rattle.kom_files.specs.Files.{AreTokens, place_at, Breaks, IsTreeOf, IsAnswer, Gives, Refuses}
use Rattle.kom_files.proofs.Texts as texts
use Rattle.kom_files.proofs.Headers as headers
use Rattle.kom_files.proofs.Once as once
use Rattle.std.specs.Prelude.{codes}
use Rattle.std.proofs.Common.{arith}
use Rattle.kom_scengram.specs.declared.parts.ScenarioParts.{ScenarioParts}
use Rattle.kom_scengram.specs.Grammar.{SpellsFile}
use Rattle.kom_scengram.specs.Reading.{header, header_break, body, file}
use Rattle.kom_scengram.proofs.Readers.{file_reader}
use Rattle.kom_scengram.proofs.Whole.{file_whole, file_headed}

file_is : (ts : List Lexeme) (u : Unit {0}) (middle : List Lexeme) → header ts ≡ Read u middle → file ts ≡ body middle
unfolding file
file_is ts u middle e = rw e refl

module _ (text : List ℕ) (ts : List Token) (cut : AreTokens text ts) where
  pub not_begun_left : (after : List Lexeme) → header (lexemes text ts) ≡ Refuse after → length after ≤ length ts
  not_begun_left after e = omega (arith, headers.header_left (codes "scenario") (codes "1") (lexemes text ts) after e, length-lexemes text ts)

  pub breaks_header : (after : List Lexeme) → header (lexemes text ts) ≡ Refuse after → Breaks SpellsFile header_break text 4 (place_at ts (length text) (length ts - length after))
  breaks_header after e = texts.breaks_header file SpellsFile header_break file_reader file_whole text ts cut after (headers.header_refused (codes "scenario") (codes "1") (lexemes text ts) after e)

  module _ (u : Unit {0}) (middle after : List Lexeme) (begun : header (lexemes text ts) ≡ Read u middle) where
    pub no_file_left : body middle ≡ Refuse after → length after ≤ length ts
    no_file_left e = texts.no_file_left file SpellsFile header_break file_reader file_whole text ts cut after (file_is (lexemes text ts) u middle begun ∙ e)

    pub breaks_grammar : body middle ≡ Refuse after → Breaks SpellsFile header_break text 5 (place_at ts (length text) (length ts - length after))
    breaks_grammar e = texts.breaks_grammar file SpellsFile header_break file_reader file_whole text ts cut after
        (headers.header_fine (codes "scenario") (codes "1") (lexemes text ts) u middle begun) (file_is (lexemes text ts) u middle begun ∙ e)

    pub is_tree : (tree : ScenarioParts) → after ≡ [] → body middle ≡ Read tree after → IsTreeOf SpellsFile text tree
    is_tree tree end e = texts.is_tree file SpellsFile header_break file_reader file_whole text ts cut tree after end (file_is (lexemes text ts) u middle begun ∙ e)

module _ (text : List ℕ) where
  pub gives_all : (result : FileRead ScenarioParts) (tree : ScenarioParts) → IsAnswer SpellsFile header_break text result → IsTreeOf SpellsFile text tree → Gives result tree
  gives_all = once.gives_all text file SpellsFile header_break file_reader file_whole file_headed

  pub refuses_all : (result : FileRead ScenarioParts) (rule at : ℕ) → IsAnswer SpellsFile header_break text result → Breaks SpellsFile header_break text rule at → Refuses result rule at
  refuses_all = once.refuses_all text file SpellsFile header_break file_reader file_whole file_headed
