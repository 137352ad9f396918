-- The tokens of a text by what they are spelled with.
use Rattle.std.specs.Prelude.{◌≡◌, ℕ, ◌≤◌, true, List, [], ◌∷◌, length, slice_range}
use Rattle.kom_text.specs.declared.token.Token.{Token}
use Rattle.kom_text.specs.declared.token.TokenKind.{TokenKind}
use Rattle.kom_text.specs.declared.token.TokenKind.TheVariants.{Word, Number, Sign}
use Rattle.kom_text.specs.Pieces.{is_number}
use Rattle.kom_text.specs.Numbers.{decimal, greatest}

-- a token: its kind, its bytes, and the place of its first byte in the text
pub record Lexeme : Type 0 where
  pub kind : TokenKind
  pub bytes : List ℕ
  pub at : ℕ

abbrev pub lexeme : List ℕ → Token → Lexeme
lexeme text t = record { kind = t.kind; bytes = slice_range text t.from t.until; at = t.from }

abbrev pub lexemes : List ℕ → List Token → List Lexeme
lexemes text [] = []
lexemes text (t ∷ ts) = lexeme text t ∷ lexemes text ts

-- a word, a sign and a number as a rule names them
abbrev pub word_lexeme : List ℕ → ℕ → Lexeme
word_lexeme bytes at = record { kind = Word; bytes = bytes; at = at }

abbrev pub sign_lexeme : List ℕ → ℕ → Lexeme
sign_lexeme bytes at = record { kind = Sign; bytes = bytes; at = at }

abbrev pub number_lexeme : List ℕ → ℕ → Lexeme
number_lexeme bytes at = record { kind = Number; bytes = bytes; at = at }

-- what `tokens` makes sure of: each token lies in the text, and a number is not too big
abbrev pub IsFine : TokenKind → List ℕ → Type 0
IsFine Number bytes = (is_number bytes ≡ true) × (decimal bytes ≤ greatest)
IsFine _ bytes = Unit {0}

abbrev pub AreTokensOf : List ℕ → List Token → Type 0
AreTokensOf text [] = Unit {0}
AreTokensOf text (t ∷ ts) = (t.from ≤ t.until) × (t.until ≤ length text) × IsFine t.kind (slice_range text t.from t.until) × AreTokensOf text ts
