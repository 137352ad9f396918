-- When written tokens spell something again.
use Rattle.std.specs.Prelude.{◌≡◌, ℕ, true, false, List, [], ◌∷◌, Some}
use Rattle.std.specs.List.{list_all}
use Rattle.kom_text.specs.Pieces.{is_spelled}
use Rattle.kom_text.specs.Answers.{is_too_big}
use Rattle.kom_parse.specs.Lexemes.{Lexeme}
use Rattle.kom_system.specs.declared.parts.Parts.{Parts}
use Rattle.kom_grammar.specs.Files.{SpellsFile}
use Rattle.kom_written.specs.Unplaced.{unplaced}
use Rattle.kom_spaced.specs.Spaced.{Written, can_stand, placed}

-- a token of a text: its bytes are of its kind, and no number too big
pub record IsSound (l : Lexeme) : Type 0 where
  pub spelled : is_spelled (Some l.kind) l.bytes ≡ true
  pub small : is_too_big (record { kind = Some l.kind; bytes = l.bytes }) ≡ false

abbrev pub AreSound : List Lexeme → Type 0
AreSound [] = Unit {0}
AreSound (l ∷ ls) = IsSound l × AreSound ls

-- The tokens can stand, and wherever they begin they spell a value that is the same but for what
-- `same` drops.
pub record IsAgain {A : Type 0} (Spells : List Lexeme → A → Type 0) (same : A → A) (ts : List Written) (x : A) : Type 0 where
  pub stand : list_all can_stand ts ≡ true
  pub spell : (at : ℕ) → (y : A) × Spells (placed at ts) y × (same y ≡ same x)

-- The tokens can stand, and wherever the text ends they spell a tree that is the same but for its places.
pub record IsFileAgain (ts : List Written) (P : Parts) : Type 0 where
  pub stand : list_all can_stand ts ≡ true
  pub spell : (end : ℕ) → (Q : Parts) × SpellsFile end (placed 0 ts) Q × (unplaced Q ≡ unplaced P)
