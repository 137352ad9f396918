-- Tokens as they are written, each with a blank behind it, and as they are read.
use Rattle.std.specs.Prelude.{◌≡◌, ℕ, ◌+◌, Bool, not, ◌&&◌, List, [], ◌∷◌, ◌++◌, length, Some, None}
use Rattle.kom_text.specs.declared.token.Token.{Token}
use Rattle.kom_text.specs.declared.token.TokenKind.{TokenKind}
use Rattle.kom_text.specs.Pieces.{Piece, is_blank, is_piece}
use Rattle.kom_text.specs.Answers.{is_too_big, IsReadTo}
use Rattle.kom_parse.specs.Lexemes.{Lexeme, lexemes}

-- a token with its kind and its bytes, and the byte behind it
pub record Written : Type 0 where
  pub kind : TokenKind
  pub bytes : List ℕ
  pub behind : ℕ

abbrev pub piece_of : Written → Piece
piece_of t = record { kind = Some t.kind; bytes = t.bytes }

-- the bytes are a token of the kind, no number too big, and a blank stands behind them
abbrev pub can_stand : Written → Bool
can_stand t = is_piece (piece_of t) && (not (is_too_big (piece_of t)) && is_blank t.behind)

abbrev pub text_of : List Written → List ℕ
text_of [] = []
text_of (t ∷ ts) = t.bytes ++ t.behind ∷ text_of ts

-- the tokens as they are read, the first of which begins at a place
abbrev pub placed : ℕ → List Written → List Lexeme
placed at [] = []
placed at (t ∷ ts) = record { kind = t.kind; bytes = t.bytes; at = at } ∷ placed (at + length t.bytes + 1) ts

-- the whole text has these tokens and no others
pub record AreReadAs (text : List ℕ) (read : List Lexeme) : Type 0 where
  pub tokens : List Token
  pub cut : IsReadTo text [] tokens None (length text)
  pub lexemes_are : lexemes text tokens ≡ read
