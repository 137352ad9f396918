-- The rules of one token, and lists and rows of what a rule reads.
use Rattle.std.specs.Prelude.{ℕ, pos, Bool, true, false, ◌&&◌, List, [], ◌∷◌, ◌++◌, Option, Some, None, is_some, codes, bytes_eq, option_and_then, if◌then◌else◌}
use Rattle.kom_text.specs.declared.token.TokenKind.{TokenKind}
use Rattle.kom_text.specs.declared.token.TokenKind.TheVariants.{Word, Number, Sign}
use Rattle.kom_text.specs.Numbers.{decimal}
use Rattle.kom_system.specs.declared.parts.Spot.{Spot}
use Rattle.kom_parse.specs.declared.numeral.Numeral.{Numeral}
use Rattle.kom_parse.specs.declared.numeral.WordAt.{WordAt}
use Rattle.kom_parse.specs.Lexemes.{Lexeme}
use Rattle.kom_parse.specs.Input.{Parser, ◌>>=◌, ◌>>◌, pure, by_next, want, eat_if, loop}

abbrev pub is_kind : TokenKind → TokenKind → Bool
is_kind Word Word = true
is_kind Number Number = true
is_kind Sign Sign = true
is_kind _ _ = false

-- ---- one token

-- the place of the next token, where it is of this kind and has these bytes
abbrev pub exactly_in : TokenKind → List ℕ → Option Lexeme → Option ℕ
exactly_in kind bytes None = None
exactly_in kind bytes (Some l) = if is_kind l.kind kind && bytes_eq l.bytes bytes then Some l.at else None

abbrev pub is_exactly : TokenKind → List ℕ → Option Lexeme → Bool
is_exactly kind bytes o = is_some (exactly_in kind bytes o)

-- the bytes of the next token, where it is a sign
abbrev pub sign_in : Option Lexeme → Option (List ℕ)
sign_in None = None
sign_in (Some l) = if is_kind l.kind Sign then Some l.bytes else None

-- the next token, where it is a word that passes the test
abbrev pub name_in : (List ℕ → Bool) → Option Lexeme → Option Spot
name_in test None = None
name_in test (Some l) = if is_kind l.kind Word && test l.bytes then Some (record { name = l.bytes; at = l.at }) else None

-- a word of the text as a name
abbrev pub spot_of : WordAt → Spot
spot_of w = record { name = w.bytes.now; at = w.at }

-- every word passes
abbrev pub any : List ℕ → Bool
any bytes = true

-- the next token, where it is a number
abbrev pub number_in : Option Lexeme → Option Numeral
number_in None = None
number_in (Some l) = if is_kind l.kind Number then Some (record { value = pos (decimal l.bytes); at = l.at }) else None

-- a step gives the place of its token
unfoldable pub exactly : TokenKind → List ℕ → Parser ℕ
exactly kind bytes = want (exactly_in kind bytes)

unfoldable pub name : (List ℕ → Bool) → Parser Spot
name test = want (name_in test)

unfoldable pub number : Parser Numeral
number = want number_in

-- takes the token, if it comes next, and says whether it did
unfoldable pub eat : TokenKind → List ℕ → Parser Bool
eat kind bytes = eat_if (is_exactly kind bytes)

-- what stands behind the first of these words that equals the bytes
abbrev pub by_bytes : {A : Type 0} → List ℕ → List (List ℕ × A) → Option A
by_bytes bytes [] = None
by_bytes bytes (x ∷ xs) = if bytes_eq bytes x.0 then Some x.1 else by_bytes bytes xs

-- what the next token stands for, where it is one of these words
abbrev pub word_among : {A : Type 0} → List (List ℕ × A) → Option Lexeme → Option A
word_among words o = option_and_then (λ (n : Spot). by_bytes n.name words) (name_in any o)

-- ---- items with a token between them

abbrev pub onto : {A : Type 0} → List A → A → List A
onto xs x = xs ++ x ∷ []

abbrev pub more_by : {A : Type 0} → Parser A → List A → Bool → Parser (Option (List A))
more_by item xs true = item >>= (λ x. pure (Some (onto xs x)))
more_by item xs false = pure None

-- one more item, if the token between comes
unfoldable pub more : {A : Type 0} → (Option Lexeme → Bool) → Parser A → List A → Parser (Option (List A))
more between item xs = eat_if between >>= more_by item xs

-- ---- lists with commas between their items, in parentheses

abbrev pub closes : Option Lexeme → Bool
closes o = is_exactly Sign (codes ")") o

abbrev pub is_comma : Option Lexeme → Bool
is_comma o = is_exactly Sign (codes ",") o

abbrev pub list_by : {A : Type 0} → Parser A → Bool → Parser (List A)
list_by item true = pure []
list_by item false = item >>= (λ x. loop (more is_comma item) (x ∷ []))

unfoldable pub list : {A : Type 0} → Parser A → Parser (List A)
list item = by_next (λ o. list_by item (closes o))

unfoldable pub in_parens : {A : Type 0} → Parser A → Parser (List A)
in_parens item = do
  exactly Sign (codes "(")
  xs ← list item
  exactly Sign (codes ")")
  pure xs

-- ---- items in a row, up to what ends it: each is added to what the earlier ones made

abbrev pub row_by : {A S : Type 0} → Parser A → (S → A → S) → S → Bool → Parser (Option S)
row_by item add s true = pure None
row_by item add s false = item >>= (λ x. pure (Some (add s x)))

unfoldable pub row_turn : {A S : Type 0} → (Option Lexeme → Bool) → Parser A → (S → A → S) → S → Parser (Option S)
row_turn ends item add s = by_next (λ o. row_by item add s (ends o))
