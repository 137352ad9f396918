-- When a text is a scenario of a system, and what the reader answers.
use Rattle.std.specs.Prelude.{◌≡◌, ℕ, List, Some, None}
use Rattle.kom_text.specs.Places.{line_of, column_of}
use Rattle.kom_files.specs.Files.{Breaks, IsTreeOf}
use Rattle.kom_system.specs.Contents.{Contents}
use Rattle.kom_scengram.specs.declared.parts.ScenarioParts.{ScenarioParts}
use Rattle.kom_scengram.specs.Grammar.{SpellsFile}
use Rattle.kom_scengram.specs.Reading.{header_break}
use Rattle.kom_scenario.specs.declared.tree.Scene.{Scene}
use Rattle.kom_scenario.specs.declared.read.ScenarioRead.{ScenarioRead}
use Rattle.kom_scenario.specs.declared.read.ScenarioRead.TheVariants as answer
use Rattle.kom_scenario.specs.Scenes.{scene_of}
use Rattle.kom_scenario.specs.Rules.{broken}

module _ (c : Contents) (text : List ℕ) where
  -- the text is a scenario of the system: it breaks no rule, and this is its value
  pub record IsScenario (z : Scene) : Type 0 where
    pub tree : ScenarioParts
    pub spelled : IsTreeOf SpellsFile text tree
    pub unbroken : broken c tree ≡ None
    pub value : z ≡ scene_of c tree

  -- the least rule that the text breaks, and the place where it breaks it first
  pub data BreaksRule : (rule at : ℕ) → Type 0 where
    in_the_text : (rule at : ℕ) → Breaks SpellsFile header_break text rule at → BreaksRule rule at
    in_the_tree : (rule at : ℕ) (tree : ScenarioParts) → IsTreeOf SpellsFile text tree → broken c tree ≡ Some (rule, at) → BreaksRule rule at

  -- a refusal names the rule, and the line and the column of the place
  pub record IsRefusal (rule line column : ℕ) : Type 0 where
    pub at : ℕ
    pub breaks : BreaksRule rule at
    pub line_is : line ≡ line_of text at
    pub column_is : column ≡ column_of text at

  abbrev pub IsAnswer : ScenarioRead → Type 0
  IsAnswer (answer.Scenario z) = IsScenario z
  IsAnswer (answer.Refused rule line column) = IsRefusal rule line column
  IsAnswer answer.Memory = Unit {0}

-- this scenario, unless memory ran out
abbrev pub Gives : ScenarioRead → Scene → Type 0
Gives (answer.Scenario found) z = found ≡ z
Gives (answer.Refused rule line column) z = ⊥
Gives answer.Memory z = Unit {0}

-- refused by this rule at this place, unless memory ran out
abbrev pub Refuses : ScenarioRead → (rule line column : ℕ) → Type 0
Refuses (answer.Scenario found) rule line column = ⊥
Refuses (answer.Refused r l k) rule line column = (r ≡ rule) × (l ≡ line) × (k ≡ column)
Refuses answer.Memory rule line column = Unit {0}
