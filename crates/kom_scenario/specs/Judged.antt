-- What is found of the tree of a file.
use Rattle.std.specs.Prelude.{◌≡◌, Some, None}
use Rattle.kom_system.specs.Contents.{Contents}
use Rattle.kom_scengram.specs.declared.parts.ScenarioParts.{ScenarioParts}
use Rattle.kom_scenario.specs.declared.judge.Judged.{Judged}
use Rattle.kom_scenario.specs.declared.judge.Judged.TheVariants.{Scene, Broken}
use Rattle.kom_scenario.specs.Scenes.{scene_of}
use Rattle.kom_scenario.specs.Rules.{broken}

abbrev pub IsJudged : Contents → ScenarioParts → Judged → Type 0
IsJudged c t (Scene z) = (broken c t ≡ None) × (z ≡ scene_of c t)
IsJudged c t (Broken rule at) = broken c t ≡ Some (rule, at)
