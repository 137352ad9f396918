-- The laws of who is told of a fault, read off the state.
use Rattle.std.specs.Prelude.{◌≡◌, ℕ, Bool, true, false, List, [], slice_get, is_some}
use Rattle.std.specs.List.{find}
use Rattle.std.specs.Option.{option_map_or}
use Rattle.kom_lang.specs.Declarations.{Declarations}
use Rattle.kom_record.specs.declared.plan.Plan.{Plan}
use Rattle.kom_record.specs.Entries.{History, acts}
use Rattle.kom_record.specs.Instances.{alive, ancestry_of, born}
use Rattle.kom_record.specs.Bodies.{nearest}
use Rattle.kom_record.specs.Legal.{IsLegal}
use Rattle.kom_refine.specs.Points.{Point, StandsAt, acts_at, start_of}
use Rattle.kom_refine.specs.States.{State}

-- the ancestry of an instance by the state
abbrev pub line_of : State → ℕ → List (ℕ × ℕ)
line_of m c = option_map_or (λ n. n.ancestry) (slice_get m.nodes c) []

-- a fault handler of the component is subscribed
abbrev pub catches_by : State → ℕ → Bool
catches_by m c = option_map_or (λ r. r.catches) (m.controls c) false

-- a living component has its control row and its body in the state
pub record IsThere (S : Declarations) (p : Point) (m : State) (c : ℕ) : Type 0 where
  pub row : is_some (m.controls c) ≡ true
  pub body : is_some (m.bodies c) ≡ true

abbrev pub LivingAreThere : Type 0
LivingAreThere = (S : Declarations) (p : Point) (m : State) (c : ℕ) → StandsAt S p m → alive S (acts_at p) c ≡ true → IsThere S p m c

abbrev pub LinesByState : Type 0
LinesByState = (S : Declarations) (p : Point) (m : State) (c : ℕ) → StandsAt S p m → ancestry_of S (born S (acts_at p)) c ≡ line_of m c

-- who is told of a fault of a living component is the first in its line whose row catches faults
abbrev pub NearestByState : Type 0
NearestByState = (S : Declarations) (Z : Plan) (P : History) (m : State) (c : ℕ)
    → IsLegal S Z P → StandsAt S (start_of P) m → alive S (acts P) c ≡ true → nearest S P c ≡ find (λ q. catches_by m q.0) (line_of m c)
