-- When a text is a system file, and what the reader answers.
use Rattle.std.specs.Prelude.{◌≡◌, ℕ, List, Some, None}
use Rattle.kom_text.specs.Places.{line_of, column_of}
use Rattle.kom_system.specs.Contents.{Contents}
use Rattle.kom_system.specs.declared.parts.Parts.{Parts}
use Rattle.kom_rules.specs.Broken.{broken_rule}
use Rattle.kom_sysread.specs.Answers.{Breaks, IsTreeOf}
use Rattle.kom_resolve.specs.Resolved.{resolved}
use Rattle.kom_sysfile.specs.declared.tree.Checked.{Checked}
use Rattle.kom_sysfile.specs.declared.tree.Checked.TheVariants as checked
use Rattle.kom_sysfile.specs.declared.text.SystemRead.{SystemRead}
use Rattle.kom_sysfile.specs.declared.text.SystemRead.TheVariants as answer

-- ---- of a syntax tree

-- the system that the tree stands for where it breaks no rule, else the broken rule with the least
-- number, at its first place
abbrev pub IsChecked : Parts → Checked → Type 0
IsChecked P (checked.System s) = (broken_rule P ≡ None) × (s ≡ resolved P)
IsChecked P (checked.Rule number at) = broken_rule P ≡ Some (record { number = number; at = at })
IsChecked P checked.Memory = Unit {0}

-- ---- of a text

module _ (text : List ℕ) where
  -- the text breaks no rule, and this is the system that it stands for
  pub record IsSystem (s : Contents) : Type 0 where
    pub tree : Parts
    pub spelled : IsTreeOf text tree
    pub unbroken : broken_rule tree ≡ None
    pub value : s ≡ resolved tree

  -- the least rule that the text breaks, and the place where it breaks it first
  pub data BreaksRule : (rule at : ℕ) → Type 0 where
    in_the_text : (rule at : ℕ) → Breaks text rule at → BreaksRule rule at
    in_the_tree : (rule at : ℕ) (tree : Parts) → IsTreeOf text tree → broken_rule tree ≡ Some (record { number = rule; at = at }) → BreaksRule rule at

  -- a refusal names the rule, and the line and the column of the place
  pub record IsRefusal (rule line column : ℕ) : Type 0 where
    pub at : ℕ
    pub breaks : BreaksRule rule at
    pub line_is : line ≡ line_of text at
    pub column_is : column ≡ column_of text at

  abbrev pub IsAnswer : SystemRead → Type 0
  IsAnswer (answer.System s) = IsSystem s
  IsAnswer (answer.Refused rule line column) = IsRefusal rule line column
  IsAnswer answer.Memory = Unit {0}

-- this system, unless memory ran out
abbrev pub Gives : SystemRead → Contents → Type 0
Gives (answer.System found) s = found ≡ s
Gives (answer.Refused rule line column) s = ⊥
Gives answer.Memory s = Unit {0}

-- refused by this rule at this place, unless memory ran out
abbrev pub Refuses : SystemRead → (rule line column : ℕ) → Type 0
Refuses (answer.System found) rule line column = ⊥
Refuses (answer.Refused r l k) rule line column = (r ≡ rule) × (l ≡ line) × (k ≡ column)
Refuses answer.Memory rule line column = Unit {0}
