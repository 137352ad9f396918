-- The piece at the front of a text, by its first bytes.
use Rattle.std.specs.Prelude.{◌≡◌, ℕ, ◌+◌, ◌≤◌, ◌==◌, Bool, true, false, if◌then◌else◌, List, [], ◌∷◌, length, Option, Some, None, take}
use Rattle.std.specs.Char.{is_ascii_digit}
use Rattle.kom_text.specs.declared.token.TokenKind.{TokenKind}
use Rattle.kom_text.specs.declared.token.TokenKind.TheVariants.{Word, Number, Sign}
use Rattle.kom_text.specs.declared.piece.Found.{Found}
use Rattle.kom_text.specs.declared.piece.Run.{Run}
use Rattle.kom_text.specs.declared.piece.Run.TheVariants as run
use Rattle.kom_text.specs.Pieces.{is_blank, is_word_start, is_word_byte, is_not_newline, is_sign_byte, is_sign_pair, is_spelled, IsLongest}
use Rattle.kom_text.specs.Places.{lead}

abbrev pub is_in : Run → ℕ → Bool
is_in run.Word = is_word_byte
is_in run.Digits = is_ascii_digit
is_in run.Comment = is_not_newline

abbrev pub is_pair : ℕ → List ℕ → Bool
is_pair b [] = false
is_pair b (c ∷ cs) = is_sign_pair b c

abbrev pub of_len : Option TokenKind → ℕ → Option Found
of_len kind n = Some (record { kind = kind; len = n })

abbrev pub found : ℕ → List ℕ → Option Found
found b after =
    if is_blank b then of_len None 1
    else (if b == 35 then of_len None (1 + lead is_not_newline after)
    else (if is_word_start b then of_len (Some Word) (1 + lead is_word_byte after)
    else (if is_ascii_digit b then of_len (Some Number) (1 + lead is_ascii_digit after)
    else (if is_pair b after then of_len (Some Sign) 2
    else (if is_sign_byte b then of_len (Some Sign) 1
    else None)))))

-- the piece is the longest at the front of the text, or there is none
abbrev pub IsFirst : List ℕ → Option Found → Type 0
IsFirst text None = IsLongest 0 text
IsFirst text (Some f) = (1 ≤ f.len) × (f.len ≤ length text) × (is_spelled f.kind (take f.len text) ≡ true) × IsLongest f.len text
