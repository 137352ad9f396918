-- The header of a file: a word, a version and a semicolon.
use Rattle.std.specs.Prelude.{ℕ, List, Option, Some, None, codes, if◌then◌else◌}
use Rattle.kom_text.specs.declared.token.TokenKind.TheVariants.{Word, Number, Sign}
use Rattle.kom_parse.specs.Lexemes.{Lexeme}
use Rattle.kom_parse.specs.Input.{Parser, ◌>>◌, pure, first, rest}
use Rattle.kom_parse.specs.Rules.{exactly, is_exactly}

-- how it is read
unfoldable pub header : List ℕ → List ℕ → Parser (Unit {0})
header word version = do
  exactly Word word
  exactly Number version
  exactly Sign (codes ";")
  pure tt

-- which of the first three tokens is not that of the header, or missing
abbrev pub header_break : List ℕ → List ℕ → List Lexeme → Option ℕ
header_break word version ts =
    if is_exactly Word word (first ts)
    then (if is_exactly Number version (first (rest ts)) then (if is_exactly Sign (codes ";") (first (rest (rest ts))) then None else Some 2) else Some 1)
    else Some 0
