-- What a text is made of: tokens, blanks and comments, the longest each time.
use Rattle.std.specs.Prelude.{◌≡◌, ℕ, ◌≤◌, Bool, true, false, not, ◌&&◌, ◌||◌, ◌==◌, List, [], ◌∷◌, ◌++◌, length, Option, Some, None, codes}
use Rattle.std.specs.List.{list_any, list_all}
use Rattle.std.specs.Char.{is_ascii_digit, is_ascii_alphabetic}
use Rattle.kom_text.specs.declared.token.TokenKind.{TokenKind}
use Rattle.kom_text.specs.declared.token.TokenKind.TheVariants.{Word, Number, Sign}

-- ---- bytes

abbrev pub is_byte_of : List ℕ → ℕ → Bool
is_byte_of bytes b = list_any (λ c. c == b) bytes

-- space, tab, carriage return and newline
abbrev pub is_blank : ℕ → Bool
is_blank b = b == 32 || b == 9 || b == 13 || b == 10

abbrev pub is_word_start : ℕ → Bool
is_word_start b = is_ascii_alphabetic b || b == 95

abbrev pub is_word_byte : ℕ → Bool
is_word_byte b = is_word_start b || is_ascii_digit b

abbrev pub is_not_newline : ℕ → Bool
is_not_newline b = not (b == 10)

-- the signs of one byte
abbrev pub is_sign_byte : ℕ → Bool
is_sign_byte b = is_byte_of (codes "{}(),;:.=<>+-*/%!") b

-- the signs of two bytes: == != <= >= && ||
abbrev pub is_sign_pair : ℕ → ℕ → Bool
is_sign_pair b c = (c == 61 && is_byte_of (codes "=!<>") b) || (b == 38 && c == 38) || (b == 124 && c == 124)

-- ---- pieces

-- a word: a letter or `_`, then letters, digits and `_`
abbrev pub is_word : List ℕ → Bool
is_word [] = false
is_word (b ∷ bs) = is_word_start b && list_all is_word_byte bs

-- a number: a run of decimal digits
abbrev pub is_number : List ℕ → Bool
is_number [] = false
is_number (b ∷ bs) = is_ascii_digit b && list_all is_ascii_digit bs

abbrev pub is_sign : List ℕ → Bool
is_sign [] = false
is_sign (b ∷ []) = is_sign_byte b
is_sign (b ∷ c ∷ []) = is_sign_pair b c
is_sign (b ∷ c ∷ d ∷ bs) = false

-- a blank, or a comment: `#` and bytes that are no newline
abbrev pub is_gap : List ℕ → Bool
is_gap [] = false
is_gap (b ∷ bs) = (b == 35 && list_all is_not_newline bs) || (is_blank b && length bs == 0)

-- a part of a text: a token of a kind, or a blank or a comment
pub record Piece : Type 0 where
  pub kind : Option TokenKind
  pub bytes : List ℕ

abbrev pub is_spelled : Option TokenKind → List ℕ → Bool
is_spelled (Some Word) bs = is_word bs
is_spelled (Some Number) bs = is_number bs
is_spelled (Some Sign) bs = is_sign bs
is_spelled None bs = is_gap bs

abbrev pub is_piece : Piece → Bool
is_piece p = is_spelled p.kind p.bytes

-- ---- a text in pieces

-- no piece at the front of the text has more than n bytes
abbrev pub IsLongest : ℕ → List ℕ → Type 0
IsLongest n text = (q : Piece) (rest : List ℕ) → is_piece q ≡ true → text ≡ q.bytes ++ rest → length q.bytes ≤ n

-- the text is these pieces, the longest possible each time, and then the rest
abbrev pub IsCut : List Piece → List ℕ → List ℕ → Type 0
IsCut [] text rest = text ≡ rest
IsCut (p ∷ ps) text rest = (after : List ℕ) × (text ≡ p.bytes ++ after) × (is_piece p ≡ true) × IsLongest (length p.bytes) text × IsCut ps after rest

-- no piece begins here
abbrev pub IsBad : List ℕ → Type 0
IsBad text = IsLongest 0 text
