-- Whether a component has something to do, read off the state.
use Rattle.std.specs.Prelude.{◌≡◌, ℕ, Bool, false, ◌&&◌, ◌||◌, Option, Some, None, is_some}
use Rattle.std.specs.Option.{option_map_or}
use Rattle.kom_base.specs.declared.numbers.Dir.{Dir}
use Rattle.kom_base.specs.Lists.{first}
use Rattle.kom_refine.specs.Firsts.{Front, front_for}
use Rattle.kom_refine.specs.States.{ControlRow, Queue, State}

-- a control item waits, or the component is active and there is a front that it may take
abbrev pub has_work : ControlRow → Option Front → Bool
has_work r f = is_some (first r.items) || (r.active && is_some f)

-- a component that is there has something to do
abbrev pub may_run : Option ControlRow → Option Front → Bool
may_run row f = option_map_or (λ r. has_work r f) row false

-- c has the same to do in both states, whatever it is: the same control row, and in each direction an
-- event to take in both or in neither
pub record HasSameWork (m n : State) (c : ℕ) : Type 0 where
  pub row : n.controls c ≡ m.controls c
  pub fronts : (x : ℕ) (d : Dir) → is_some (front_for c (n.queues x d)) ≡ is_some (front_for c (m.queues x d))

-- nobody receives what waits in the queue but others than c
abbrev pub IsNotReceiver : ℕ → Option Queue → Type 0
IsNotReceiver c None = Unit {0}
IsNotReceiver c (Some q) = q.receiver ≡ Some c → ⊥
