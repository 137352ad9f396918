-- How the texts are written, part by part.
use Rattle.std.specs.Prelude.{◌≡◌, ℕ, ◌+◌, ◌==◌, length, ◌<◌, ◌≤◌, if◌then◌else◌, List, [], ◌∷◌, ◌++◌, Option, Some, None, decimal}
use Rattle.kom_make.specs.declared.fill.Place.{Place}
use Rattle.kom_make.specs.declared.fill.Place.TheVariants.{Line, Load}
use Rattle.kom_make.specs.declared.fill.Numbered.{Numbered}
use Rattle.kom_make.specs.Texts.{is_word_byte, words, lines}

abbrev pub spelled : Option Numbered → Option (List ℕ)
spelled None = None
spelled (Some w) = Some (w.name.now ++ decimal w.number)

abbrev pub IsSmall : Place → Type 0
IsSmall (Line n i) = (1 ≤ n) × (n ≤ 30) × (i < n)
IsSmall (Load n) = (1 ≤ n) × (n ≤ 30)

-- how many bytes at the front are of a word
abbrev pub run_len : List ℕ → ℕ
run_len [] = 0
run_len (b ∷ bs) = if is_word_byte b then 1 + run_len bs else 0

-- a text begins with this whole word or other byte, and the rest follows
pub record IsPart (text word after : List ℕ) : Type 0 where
  pub words_are : words text ≡ word ∷ words after
  pub fewer : length after < length text

-- how many bytes the first line of a text has, its newline included
abbrev pub line_len : List ℕ → ℕ
line_len [] = 0
line_len (b ∷ bs) = if b == 10 then 1 else 1 + line_len bs

-- a text begins with this line, and the rest follows
pub record IsLine (text line after : List ℕ) : Type 0 where
  pub lines_are : lines text ≡ line ∷ lines after
  pub fewer : length after < length text
