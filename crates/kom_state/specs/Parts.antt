-- The parts of a run's state, and the state that they are.
use Rattle.std.specs.Prelude.{ℕ, Bool, if◌then◌else◌, List, map, min, Option, None, is_some}
use Rattle.std.specs.Option.{option_map}
use Rattle.kom_base.specs.declared.numbers.Dir.{Dir}
use Rattle.kom_lang.specs.Declarations.{Declarations}
use Rattle.kom_tree.specs.Forest as forest
use Rattle.kom_wiring.specs.declared.link.Link as wiring
use Rattle.kom_wiring.specs.Wires.{Wires, link_of}
use Rattle.kom_queues.specs.declared.slot.Slot.{Slot}
use Rattle.kom_queues.specs.Waiting.{Waiting}
use Rattle.kom_queues.specs.Slots.{slot_of, queue_of, spare_of}
use Rattle.kom_life.specs.declared.row.Row.{Row}
use Rattle.kom_life.specs.Rows as rows
use Rattle.kom_numbers.specs.Numbering.{Numbering, IsNumbered, leads_out}
use Rattle.kom_refine.specs.States.{Node, Link, Queue, ControlRow, State}
use Rattle.kom_state.specs.Shelves.{Shelf, body_at}

-- the instances; the channels, and for how many more there is room; the queues, the control rows and
-- the bodies, with their room; and the numbers of the channels
pub record Parts : Type 0 where
  pub tree : forest.Forest
  pub wires : Wires
  pub slots : List (ℕ × Slot)
  pub rows : List Row
  pub bodies : Shelf
  pub numbers : Numbering

-- ---- what the parts are as parts of a state

abbrev pub node_seen : forest.Instance → Node
node_seen i = record { kind = i.kind; ancestry = i.line }

abbrev pub link_seen : wiring.Link → Link
link_seen l = record { plus = l.plus; minus = l.minus; held = l.held }

abbrev pub queue_seen : Waiting → Queue
queue_seen w = record { numbers = w.numbers; receiver = w.aim }

abbrev pub row_seen : rows.Living → ControlRow
row_seen l = record { items = l.controls; active = l.active; catches = l.catches }

-- a direction that leads to the environment has no queue
abbrev pub queue_in : Bool → Option Waiting → Option Queue
queue_in out q = if out then None else option_map queue_seen q

-- the state of the run
unfoldable pub state_of : Parts → State
state_of v = record {
  nodes = map node_seen v.tree.instances;
  living = λ c. forest.is_alive v.tree.instances c;
  child = λ c s. forest.occupant v.tree.instances c s;
  links = λ x. option_map link_seen (link_of v.wires.links x);
  queues = λ x d. queue_in (leads_out v.numbers x d) (queue_of v.slots x d);
  controls = λ c. option_map row_seen (rows.living_of v.rows c);
  bodies = λ c. body_at v.bodies.bodies c;
}

-- the channels are numbered as those of the system whose components these are
unfoldable pub IsOf : Declarations → Parts → Type 0
IsOf S v = IsNumbered S (map (λ n. n.kind) (state_of v).nodes) v.numbers

-- ---- room

-- for how many more instances there is room
unfoldable pub instance_spare : Parts → ℕ
instance_spare v = min v.tree.spare (min v.bodies.spare v.numbers.spare)

-- for how many more channels there is room
unfoldable pub channel_spare : Parts → ℕ
channel_spare v = v.wires.spare

-- for how many more control items of c there is room
unfoldable pub control_spare : Parts → ℕ → ℕ
control_spare v c = rows.spare_of v.rows c

-- there is room for a control row of c, or it has one
unfoldable pub has_row : Parts → ℕ → Bool
has_row v c = rows.has_room v.rows c

-- for how many more numbers a direction has room
unfoldable pub queue_spare : Parts → ℕ → Dir → ℕ
queue_spare v x d = spare_of v.slots x d

-- there is room for the queues of x, or it has them
unfoldable pub has_queues : Parts → ℕ → Bool
has_queues v x = is_some (slot_of v.slots x)
