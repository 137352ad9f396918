-- How many instances, channels, effects and entries a run can have.
use Rattle.std.specs.Prelude.{◌≤◌, ℕ, ◌+◌, ◌*◌, List, ◌++◌, length}
use Rattle.std.specs.List.{sum_by}
use Rattle.kom_lang.specs.Declarations.{Declarations, kind_of}
use Rattle.kom_system.specs.WellFormed.{IsDeclared}
use Rattle.kom_record.specs.declared.plan.Plan.{Plan}
use Rattle.kom_record.specs.Entries.{Act, History, acts, in_hand}
use Rattle.kom_record.specs.Instances.{Instance, born, depth_limit, tree}
use Rattle.kom_record.specs.Channels.{channels}
use Rattle.kom_record.specs.Legal.{IsLegal}
use Rattle.kom_record.specs.Plans.{PlanFits}

-- how many channels these instances have
abbrev pub channel_count : Declarations → List Instance → ℕ
channel_count S is = sum_by (λ i. length (kind_of S i.kind).channels) is

-- the creation of one instance makes at most 1,000 instances and as many channels
abbrev pub TreesAreSmall : Type 0
TreesAreSmall = (S : Declarations) (n : ℕ) (i : Instance) → IsDeclared S
    → (length (tree depth_limit S n i) ≤ 1000) × (channel_count S (tree depth_limit S n i) ≤ 1000)

-- so many effects make at most a thousand times as many, beside those of the root's tree and ports
pub record FewAfter (S : Declarations) (done : List Act) : Type 0 where
  pub instances : length (born S done) ≤ 1000 + 1000 * length done
  pub channels_few : length (channels S done) ≤ 1016 + 1000 * length done

abbrev pub InstancesAreFew : Type 0
InstancesAreFew = (S : Declarations) (done : List Act) → IsDeclared S → FewAfter S done

-- 32 effects for each step; those of the jobs in hand are still to come
abbrev pub ActsAreBounded : Type 0
ActsAreBounded = (S : Declarations) (Z : Plan) (P : History) → IsLegal S Z P → length (acts P) + 32 * length (in_hand P) ≤ 32 * Z.steps

-- with so many effects at most there are few enough for numbers of 32 bits; `mine` are some effects of the handlings in hand
pub record HasNumbers (S : Declarations) (done : List Act) : Type 0 where
  pub instances : length (born S done) ≤ 3200001000
  pub channels_few : length (channels S done) ≤ 3200001016

abbrev pub NumbersAreEnough : Type 0
NumbersAreEnough = (S : Declarations) (Z : Plan) (P : History) (mine : List Act) → IsDeclared S → PlanFits S Z → IsLegal S Z P → length mine ≤ 32 * length (in_hand P) → HasNumbers S (mine ++ acts P)

-- a Took and a Did for each step, and a Moved for each instant; the Did of a job in hand is still to come
abbrev pub RecordsAreShort : Type 0
RecordsAreShort = (S : Declarations) (Z : Plan) (P : History) → IsLegal S Z P → length P + length (in_hand P) ≤ 2 * Z.steps + Z.instants
