-- What is found on the way to an answer.
use Rattle.std.specs.Prelude.{◌≡◌, ℕ, Bool, List, Option, codes, string_bytes}
use Rattle.std.specs.Arc.{arc_value}
use Rattle.kom_system.specs.Contents.{Contents}
use Rattle.kom_record.specs.declared.plan.Plan.{Plan}
use Rattle.kom_record.specs.Plans.{PlanFits}
use Rattle.kom_loading.specs.Loading.{Stands, refusal_line}
use Rattle.kom_loading.specs.Scenarios.{IsPlanOf}
use Rattle.kom_loading.specs.declared.system.Loaded.{Loaded}
use Rattle.kom_loading.specs.declared.system.Loaded.TheVariants as loaded
use Rattle.kom_loading.specs.declared.scenario.Planned.{Planned}
use Rattle.kom_loading.specs.declared.scenario.Planned.TheVariants as planned
use Rattle.kompics.specs.declared.command.Form.{Form}
use Rattle.kompics.specs.declared.answer.Answer.{Answer}
use Rattle.kompics.specs.declared.answer.Answer.TheVariants as answer
use Rattle.kompics.specs.Runs.{Drive, IsRan}
use Rattle.kompics.specs.Top.{text_in, Told}

-- the answer of a file of this kind that breaks a rule
abbrev pub Refuses : List ℕ → (rule line column : ℕ) → Answer → Type 0
Refuses kind rule line column answer.NoCommand = ⊥
Refuses kind rule line column (answer.Text text) = ⊥
Refuses kind rule line column (answer.Refused text) = string_bytes text ≡ refusal_line kind rule line column
Refuses kind rule line column (answer.Run run) = ⊥
Refuses kind rule line column answer.ShelfFault = ⊥
Refuses kind rule line column answer.Memory = Unit {0}

-- the answer where no system was found
abbrev pub IsNoSystem : Loaded → Answer → Type 0
IsNoSystem (loaded.System system) a = ⊥
IsNoSystem (loaded.Refused rule line column) a = Refuses (codes "system") rule line column a
IsNoSystem loaded.ShelfFault a = a ≡ answer.ShelfFault
IsNoSystem loaded.Memory a = a ≡ answer.Memory

-- the answer where no plan was found
abbrev pub IsNoPlan : Planned → Answer → Type 0
IsNoPlan (planned.Plan plan) a = ⊥
IsNoPlan (planned.Refused rule line column) a = Refuses (codes "scenario") rule line column a
IsNoPlan planned.ShelfFault a = a ≡ answer.ShelfFault
IsNoPlan planned.Memory a = a ≡ answer.Memory

-- the answer of a system that is to be written in a form
abbrev pub IsText : Form → Contents → Answer → Type 0
IsText form system answer.NoCommand = ⊥
IsText form system (answer.Text text) = text.items ≡ text_in form system
IsText form system (answer.Refused line) = ⊥
IsText form system (answer.Run run) = ⊥
IsText form system answer.ShelfFault = ⊥
IsText form system answer.Memory = Unit {0}

-- the system and the plan that texts stand for, where they are told
pub record AreOf (st zt : Option (List ℕ)) (S : Contents) (Z : Plan) : Type 0 where
  pub system : Told st (λ text. Stands text S)
  pub plan : Told zt (λ text. IsPlanOf S text Z)
  pub fits : PlanFits S.declarations Z

-- the answer of a system and a plan that are to be run by this drive
abbrev pub IsOfRun : Drive → Contents → Plan → Bool → Answer → Type 0
IsOfRun drive S Z brief answer.NoCommand = ⊥
IsOfRun drive S Z brief (answer.Text text) = ⊥
IsOfRun drive S Z brief (answer.Refused line) = ⊥
IsOfRun drive S Z brief (answer.Run run) = (arc_value run.system ≡ S) × (run.plan ≡ Z) × (run.brief ≡ brief) × IsRan drive S.declarations Z run.ran
IsOfRun drive S Z brief answer.ShelfFault = ⊥
IsOfRun drive S Z brief answer.Memory = Unit {0}
