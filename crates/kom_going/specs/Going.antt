-- When events are to go out by the newest entry of a record.
use Rattle.std.specs.Prelude.{◌≡◌, ℕ, List, ◌∷◌, map, Option}
use Rattle.kom_lang.specs.Declarations.{Declarations}
use Rattle.kom_system.specs.WellFormed.{IsDeclared}
use Rattle.kom_record.specs.declared.plan.Plan.{Plan}
use Rattle.kom_record.specs.declared.entry.Outcome.{Outcome}
use Rattle.kom_record.specs.declared.entry.Entry.TheVariants.{Did}
use Rattle.kom_record.specs.Entries.{History}
use Rattle.kom_record.specs.Legal.{IsLegal}
use Rattle.kom_record.specs.Plans.{PlanFits}
use Rattle.kom_record.specs.Time.{outgoing_of}
use Rattle.kom_env.specs.Outside.{Outside}
use Rattle.kom_times.specs.Following.{Follows}
use Rattle.kom_entering.specs.declared.lists.Going.{Going}
use Rattle.kom_entering.specs.Lists.{going_of}

-- the newest entry of the legal record R is a Did by which these go out, and the environment stands
-- for the record before it
pub record AreToGo (S : Declarations) (Z : Plan) (R : History) (goings : List Going) (u : Outside) : Type 0 where
  pub earlier : History
  pub w : ℕ
  pub c : ℕ
  pub took : ℕ
  pub outcome : Outcome
  pub to : Option ℕ
  pub places : List ℕ
  pub record_is : R ≡ Did w c took outcome to places ∷ earlier
  pub declared : IsDeclared S
  pub fits : PlanFits S Z
  pub legal : IsLegal S Z R
  pub goings_are : goings ≡ map going_of (outgoing_of S earlier (Did w c took outcome to places))
  pub follows : Follows S Z earlier u

abbrev pub WillGo : History → List Going → Outside → Type 0
WillGo R goings u = ∥ ((S : Declarations) × (Z : Plan) × AreToGo S Z R goings u) ∥₁
