-- How the parts of each state hold together.
use Rattle.std.specs.Prelude.{◌≡◌, ◌<◌, ℕ, Bool, true, false, if◌then◌else◌, List, ◌∷◌, length, Some, None, is_some}
use Rattle.std.specs.Option.{option_map, option_map_or}
use Rattle.kom_base.specs.declared.numbers.Dir.{Dir}
use Rattle.kom_record.specs.Channels.{Channel, Environment, Own}
use Rattle.kom_numbers.specs.Numbering.{channel_at, leads_out}
use Rattle.kom_refine.specs.Points.{receiver_of}
use Rattle.kom_refine.specs.States.{State}
use Rattle.kom_state.specs.Parts.{Parts, state_of}
use Rattle.kom_state.specs.Readings.{ancestry_at}

-- the channel is of the environment, or of a living instance
abbrev pub is_of_living : State → Channel → Bool
is_of_living m (Environment q) = true
is_of_living m (Own c k) = m.living c

-- Who lives was created, sits in a slot of a living parent that was created before, and has a body and
-- a control row; nobody else has. The living channels are those of the ports of the root and of living
-- instances, and each direction that does not lead out has a queue whose receiver the channel says.
pub record HoldsTogether (v : Parts) : Type 0 where
  pub made : (c : ℕ) → (state_of v).living c ≡ true → c < length (state_of v).nodes
  pub childless : (c s : ℕ) → (state_of v).living c ≡ false → (state_of v).child c s ≡ None
  pub occupant : (c s d : ℕ) → (state_of v).child c s ≡ Some d → ((state_of v).living d ≡ true) × ((rest : List (ℕ × ℕ)) × (ancestry_at (state_of v) d ≡ (c, s) ∷ rest))
  pub seated : (c s d : ℕ) (rest : List (ℕ × ℕ)) → (state_of v).living d ≡ true → ancestry_at (state_of v) d ≡ (c, s) ∷ rest → (state_of v).child c s ≡ Some d
  pub lines : (c s d : ℕ) (rest : List (ℕ × ℕ)) → ancestry_at (state_of v) d ≡ (c, s) ∷ rest → (c < d) × (rest ≡ ancestry_at (state_of v) c)
  pub bodies : (c : ℕ) → is_some ((state_of v).bodies c) ≡ (state_of v).living c
  pub controls : (c : ℕ) → is_some ((state_of v).controls c) ≡ (state_of v).living c
  pub links_living : (x : ℕ) → is_some ((state_of v).links x) ≡ option_map_or (is_of_living (state_of v)) (channel_at v.numbers x) false
  pub receivers : (x : ℕ) (d : Dir) → option_map (λ q. q.receiver) ((state_of v).queues x d) ≡ (if leads_out v.numbers x d then None else option_map (receiver_of d) ((state_of v).links x))
  pub numbered : length v.numbers.counts ≡ length (state_of v).nodes
