-- What the reader of system files answers.
use Rattle.std.specs.Prelude.{◌≡◌, ℕ, Bool, ◌||◌, if◌then◌else◌, List, [], length, slice_get, Option, Some, None, codes}
use Rattle.kom_system.specs.declared.parts.Parts.{Parts as Tree}
use Rattle.kom_text.specs.declared.token.Token.{Token}
use Rattle.kom_text.specs.declared.token.TokenKind.TheVariants.{Word, Number, Sign}
use Rattle.kom_text.specs.declared.token.Tokens.TheVariants.{BadByte, NumberTooBig}
use Rattle.kom_text.specs.Answers.{IsReadTo, IsAnswer as IsTokenized}
use Rattle.kom_parse.specs.Lexemes.{Lexeme, lexemes}
use Rattle.kom_parse.specs.Input.{first, rest}
use Rattle.kom_parse.specs.Rules.{is_exactly}
use Rattle.kom_parse.specs.Spelled.{IsBrokenAt}
use Rattle.kom_grammar.specs.Files.{SpellsFile}
use Rattle.kom_sysread.specs.declared.text.PartsRead.{PartsRead}
use Rattle.kom_sysread.specs.declared.text.PartsRead.TheVariants.{Parts, Refused, Memory}

-- all tokens of a text, none of them a number that is too big
abbrev pub AreTokens : List ℕ → List Token → Type 0
AreTokens text ts = IsReadTo text [] ts None (length text)

abbrev pub from_or : ℕ → Option Token → ℕ
from_or end None = end
from_or end (Some t) = t.from

-- the place of a token by its number, or of the end of the text where there is none
abbrev pub place_at : List Token → ℕ → ℕ → ℕ
place_at ts end k = from_or end (slice_get ts k)

abbrev pub is_version : Option Lexeme → Bool
is_version o = is_exactly Number (codes "1") o || is_exactly Number (codes "2") o

-- which of the first three tokens is not that of a header, or missing; none in a file
abbrev pub header_break : List Lexeme → Option ℕ
header_break ts =
    if is_exactly Word (codes "system") (first ts)
    then (if is_version (first (rest ts)) then (if is_exactly Sign (codes ";") (first (rest (rest ts))) then None else Some 2) else Some 1)
    else Some 0

-- the least rule that a text breaks, of those that speak of its bytes and tokens, and the place
pub data Breaks (text : List ℕ) : (rule at : ℕ) → Type 0 where
  bad_byte : (at : ℕ) → IsTokenized text (BadByte at) → Breaks text 2 at
  number_too_big : (at : ℕ) → IsTokenized text (NumberTooBig at) → Breaks text 3 at
  not_begun : (ts : List Token) (k : ℕ) → AreTokens text ts → header_break (lexemes text ts) ≡ Some k → Breaks text 4 (place_at ts (length text) k)
  no_file : (ts : List Token) (k : ℕ) → AreTokens text ts → header_break (lexemes text ts) ≡ None → IsBrokenAt (SpellsFile (length text)) (lexemes text ts) k
      → Breaks text 5 (place_at ts (length text) k)

-- the tokens of the text spell this tree
pub record IsTreeOf (text : List ℕ) (tree : Tree) : Type 0 where
  pub tokens : List Token
  pub cut : AreTokens text tokens
  pub spells : SpellsFile (length text) (lexemes text tokens) tree

abbrev pub IsAnswer : List ℕ → PartsRead → Type 0
IsAnswer text (Parts tree) = IsTreeOf text tree
IsAnswer text (Refused rule at) = Breaks text rule at
IsAnswer text Memory = Unit {0}

-- this tree, unless memory ran out
abbrev pub Gives : PartsRead → Tree → Type 0
Gives (Parts found) tree = found ≡ tree
Gives (Refused rule at) tree = ⊥
Gives Memory tree = Unit {0}

-- refused by this rule at this place, unless memory ran out
abbrev pub Refuses : PartsRead → (rule at : ℕ) → Type 0
Refuses (Parts found) rule at = ⊥
Refuses (Refused found place) rule at = (found ≡ rule) × (place ≡ at)
Refuses Memory rule at = Unit {0}
