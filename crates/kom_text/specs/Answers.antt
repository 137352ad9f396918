-- What `tokens` answers.
use Rattle.std.specs.Prelude.{◌≡◌, ℕ, ◌+◌, ◌<◌, Bool, true, false, ◌&&◌, nat_lt, if◌then◌else◌, List, [], ◌∷◌, ◌++◌, length, Option, Some, None}
use Rattle.kom_text.specs.declared.token.Token.{Token}
use Rattle.kom_text.specs.declared.token.TokenKind.{TokenKind}
use Rattle.kom_text.specs.declared.token.TokenKind.TheVariants.{Number}
use Rattle.kom_text.specs.declared.token.Tokens.{Tokens}
use Rattle.kom_text.specs.declared.token.Tokens.TheVariants as answer
use Rattle.kom_text.specs.Pieces.{Piece, IsCut, IsBad}
use Rattle.kom_text.specs.Numbers.{decimal, greatest}

abbrev pub token_of : ℕ → Piece → Option TokenKind → List Token
token_of at p None = []
token_of at p (Some kind) = record { kind = kind; from = at; until = at + length p.bytes } ∷ []

-- the tokens among pieces, the first of which begins at a place
abbrev pub tokens_from : ℕ → List Piece → List Token
tokens_from at [] = []
tokens_from at (p ∷ ps) = token_of at p p.kind ++ tokens_from (at + length p.bytes) ps

-- where pieces end, the first of which begins at a place
abbrev pub end_from : ℕ → List Piece → ℕ
end_from at [] = at
end_from at (p ∷ ps) = end_from (at + length p.bytes) ps

abbrev pub is_number_kind : Option TokenKind → Bool
is_number_kind (Some Number) = true
is_number_kind _ = false

abbrev pub is_too_big : Piece → Bool
is_too_big p = is_number_kind p.kind && nat_lt greatest (decimal p.bytes)

-- the place of the first number that is too big, after a piece at a place
abbrev pub too_big_after : Option ℕ → Piece → ℕ → Option ℕ
too_big_after (Some n) p at = Some n
too_big_after None p at = if is_too_big p then Some at else None

-- the place of the first number that is too big
abbrev pub too_big_from : ℕ → List Piece → Option ℕ
too_big_from at [] = None
too_big_from at (p ∷ ps) = if is_too_big p then Some at else too_big_from (at + length p.bytes) ps

-- pieces up to the rest of a text: their tokens, the place of the first number that is too big, and where they end
pub record IsReadTo (text rest : List ℕ) (found : List Token) (too_big : Option ℕ) (end : ℕ) : Type 0 where
  pub pieces : List Piece
  pub cut : IsCut pieces text rest
  pub found_is : found ≡ tokens_from 0 pieces
  pub too_big_is : too_big ≡ too_big_from 0 pieces
  pub end_is : end ≡ end_from 0 pieces

abbrev pub IsAnswer : List ℕ → Tokens → Type 0
IsAnswer text (answer.List ts) = IsReadTo text [] ts.items None (length text)
IsAnswer text (answer.BadByte at) = (rest : List ℕ) × (ts : List Token) × (n : Option ℕ) × IsReadTo text rest ts n at × (at < length text) × IsBad rest
IsAnswer text (answer.NumberTooBig at) = (ts : List Token) × IsReadTo text [] ts (Some at) (length text)
IsAnswer text answer.Memory = Unit {0}
