-- What the scenario file of a name comes to, for a system.
use Rattle.std.specs.Prelude.{◌≡◌, ◌<◌, ◌≤◌, ℕ, List, length, Option, Some}
use Rattle.kom_record.specs.declared.plan.Plan.{Plan}
use Rattle.kom_record.specs.Plans.{PlanFits}
use Rattle.kom_system.specs.Contents.{Contents}
use Rattle.kom_scenario.specs.declared.tree.Scene.{Scene}
use Rattle.kom_scenario.specs.Answers.{IsScenario, IsRefusal}
use Rattle.kom_expand.specs.Expansion.{IsExpansion}
use Rattle.kom_loading.specs.Loading.{file_limit}
use Rattle.kom_loading.specs.declared.scenario.Planned.{Planned}
use Rattle.kom_loading.specs.declared.scenario.Planned.TheVariants as planned

module _ (system : Contents) where
  -- a text within the limit that breaks no rule, and the plan of the scenario that it is
  pub record IsPlanOf (text : List ℕ) (plan : Plan) : Type 0 where
    pub short : length text ≤ file_limit
    pub scene : Scene
    pub accepted : IsScenario system text scene
    pub expanded : IsExpansion scene plan

  -- the least rule that a text breaks, with the line and the column where it breaks it first; a text
  -- over the limit breaks the first rule at its beginning
  pub data IsRefusedFor (text : List ℕ) : (rule line column : ℕ) → Type 0 where
    too_long : file_limit < length text → IsRefusedFor text 1 1 1
    breaks : (rule line column : ℕ) → length text ≤ file_limit → IsRefusal system text rule line column → IsRefusedFor text rule line column

  -- what is found of a text; a text within the limit is no fault
  abbrev pub IsReadFor : List ℕ → Planned → Type 0
  IsReadFor text (planned.Plan plan) = IsPlanOf text plan
  IsReadFor text (planned.Refused rule line column) = IsRefusedFor text rule line column
  IsReadFor text planned.ShelfFault = ⊥
  IsReadFor text planned.Memory = Unit {0}

  -- what is found of a file, where its bytes are told
  abbrev pub IsPlanned : Planned → Option (List ℕ) → Type 0
  IsPlanned (planned.Plan plan) file = (text : List ℕ) → file ≡ Some text → IsPlanOf text plan
  IsPlanned (planned.Refused rule line column) file = (text : List ℕ) → file ≡ Some text → IsRefusedFor text rule line column
  IsPlanned planned.ShelfFault file = Unit {0}
  IsPlanned planned.Memory file = Unit {0}

  -- a plan that is found fits the system
  abbrev pub Fits : Planned → Type 0
  Fits (planned.Plan plan) = PlanFits system.declarations plan
  Fits (planned.Refused rule line column) = Unit {0}
  Fits planned.ShelfFault = Unit {0}
  Fits planned.Memory = Unit {0}
