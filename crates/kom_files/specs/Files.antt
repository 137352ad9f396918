-- When a text is a file of a grammar, and which rule it breaks of those that every format has.
use Rattle.std.specs.Prelude.{◌≡◌, ℕ, List, [], length, slice_get, Option, Some, None}
use Rattle.kom_text.specs.declared.token.Token.{Token}
use Rattle.kom_text.specs.declared.token.Tokens.TheVariants.{BadByte, NumberTooBig}
use Rattle.kom_text.specs.Answers.{IsReadTo, IsAnswer as IsTokenized}
use Rattle.kom_parse.specs.Lexemes.{Lexeme, lexemes}
use Rattle.kom_parse.specs.Spelled.{IsBrokenAt}
use Rattle.kom_files.specs.declared.file.FileRead.{FileRead}
use Rattle.kom_files.specs.declared.file.FileRead.TheVariants.{Tree, Refused, Memory}

-- all tokens of a text, none of them a number that is too big
abbrev pub AreTokens : List ℕ → List Token → Type 0
AreTokens text ts = IsReadTo text [] ts None (length text)

abbrev pub from_or : ℕ → Option Token → ℕ
from_or end None = end
from_or end (Some t) = t.from

-- the place of a token by its number, or of the end of the text where there is none
abbrev pub place_at : List Token → ℕ → ℕ → ℕ
place_at ts end k = from_or end (slice_get ts k)

-- The least rule that a text breaks, of those that speak of its bytes and tokens, and the place;
-- `Spells` is the grammar, and `wrong` says which token of the header is not there.
pub data Breaks {A : Type 0} (Spells : List Lexeme → A → Type 0) (wrong : List Lexeme → Option ℕ) (text : List ℕ) : (rule at : ℕ) → Type 0 where
  bad_byte : (at : ℕ) → IsTokenized text (BadByte at) → Breaks Spells wrong text 2 at
  number_too_big : (at : ℕ) → IsTokenized text (NumberTooBig at) → Breaks Spells wrong text 3 at
  not_begun : (ts : List Token) (k : ℕ) → AreTokens text ts → wrong (lexemes text ts) ≡ Some k → Breaks Spells wrong text 4 (place_at ts (length text) k)
  no_file : (ts : List Token) (k : ℕ) → AreTokens text ts → wrong (lexemes text ts) ≡ None → IsBrokenAt Spells (lexemes text ts) k
      → Breaks Spells wrong text 5 (place_at ts (length text) k)

module _ {A : Type 0} (Spells : List Lexeme → A → Type 0) where
  -- the tokens of the text spell this tree
  pub record IsTreeOf (text : List ℕ) (tree : A) : Type 0 where
    pub tokens : List Token
    pub cut : AreTokens text tokens
    pub spells : Spells (lexemes text tokens) tree

  abbrev pub IsAnswer : (List Lexeme → Option ℕ) → List ℕ → FileRead A → Type 0
  IsAnswer wrong text (Tree tree) = IsTreeOf text tree
  IsAnswer wrong text (Refused rule at) = Breaks Spells wrong text rule at
  IsAnswer wrong text Memory = Unit {0}

-- this tree, unless memory ran out
abbrev pub Gives : {A : Type 0} → FileRead A → A → Type 0
Gives (Tree found) tree = found ≡ tree
Gives (Refused rule at) tree = ⊥
Gives Memory tree = Unit {0}

-- refused by this rule at this place, unless memory ran out
abbrev pub Refuses : {A : Type 0} → FileRead A → (rule at : ℕ) → Type 0
Refuses (Tree found) rule at = ⊥
Refuses (Refused found place) rule at = (found ≡ rule) × (place ≡ at)
Refuses Memory rule at = Unit {0}
