-- The control items that a handling puts, read off the state.
use Rattle.std.specs.Prelude.{◌≡◌, ◌≤◌, ◌<◌, ◌+◌, ◌==◌, ℕ, Bool, true, false, List, [], length, Option, Some, None, IfSome}
use Rattle.std.specs.List.{list_any, flat_map, enumerate_from}
use Rattle.std.specs.Option.{option_map, option_map_or, option_and_then}
use Rattle.kom_base.specs.Lists.{first}
use Rattle.kom_lang.specs.Declarations.{Declarations}
use Rattle.kom_lang.specs.declared.body.Body.{Body}
use Rattle.kom_lang.specs.declared.body.Effect.{Effect}
use Rattle.kom_lang.specs.declared.body.Effect.TheVariants as effect
use Rattle.kom_record.specs.declared.plan.Plan.{Plan}
use Rattle.kom_record.specs.declared.item.Control.{Control as ControlItem}
use Rattle.kom_record.specs.declared.item.Control.TheVariants.{Start, Stop, Fault, Dump, Dumped}
use Rattle.kom_record.specs.declared.item.Item.{Item}
use Rattle.kom_record.specs.declared.item.Item.TheVariants.{Control}
use Rattle.kom_record.specs.Entries.{History, acts}
use Rattle.kom_record.specs.Instances.{alive}
use Rattle.kom_record.specs.Bodies.{nearest}
use Rattle.kom_record.specs.Controls.{fault_in, put_by_item}
use Rattle.kom_record.specs.Legal.{IsLegal}
use Rattle.kom_refine.specs.Points.{Point, StandsAt, start_of}
use Rattle.kom_refine.specs.States.{State}
use Rattle.kom_refine.specs.Steps.{ArePut, IsEffect}
use Rattle.kom_state.specs.Parts.{Parts, control_spare}
use Rattle.kom_state.specs.Readings.{ancestry_at}
use Rattle.kom_state.specs.Steps.{to_one}

-- ---- who is told of a fault

-- it is an ancestor of c, or nobody
abbrev pub is_above : State → ℕ → Option (ℕ × ℕ) → Bool
is_above m c told = option_map_or (λ q. list_any (λ a. a.0 == q.0) (ancestry_at m c)) told true

-- it is who is told of a fault of c after each legal record for which the state stands
abbrev pub IsTold : State → ℕ → Option (ℕ × ℕ) → Type 0
IsTold m c told = (S : Declarations) (Z : Plan) (P : History) → IsLegal S Z P → StandsAt S (start_of P) m → alive S (acts P) c ≡ true → told ≡ nearest S P c

-- ---- one item for one component

-- the items for d, where at most one is put
abbrev pub items_for : Option (ℕ × ControlItem) → ℕ → List ControlItem
items_for None d = []
items_for (Some a) d = to_one a.0 a.1 d

-- there is room for so many items of each receiver
abbrev pub HasRoomFor : ℕ → Option (ℕ × ControlItem) → Parts → Type 0
HasRoomFor n a v = IfSome a (λ a. n ≤ control_spare v a.0)

-- the item for the component in a slot of c, if one is there
abbrev pub to_child_in : State → ℕ → ℕ → ControlItem → Option (ℕ × ControlItem)
to_child_in m c s k = option_map (λ d. (d, k)) (m.child c s)

-- ---- what follows from the item

-- the item for each child in the slots of c
abbrev pub to_children_in : State → ℕ → List (Option ℕ) → ControlItem → ℕ → List ControlItem
to_children_in m c slots k d = flat_map (λ s. items_for (to_child_in m c s.0 k) d) (enumerate_from 0 slots)

-- the answer to a Dump, for the parent
abbrev pub dumped_in : State → ℕ → Body → Item → Option (ℕ × ControlItem)
dumped_in m c b (Control Dump) = option_map (λ q. (q.0, Dumped q.1 b.vars)) (first (ancestry_at m c))
dumped_in m c b item = None

-- what the handling of an item by c puts to d, whatever the handlers do
abbrev pub following : State → ℕ → Body → Item → ℕ → List ControlItem
following m c b (Control Start) d = to_children_in m c b.slots Start d
following m c b (Control Stop) d = to_children_in m c b.slots Stop d
following m c b item d = items_for (dumped_in m c b item) d

-- there is room for so many items of each child
abbrev pub HasRoomForChildren : ℕ → State → ℕ → List (Option ℕ) → Parts → Type 0
HasRoomForChildren n m c slots v = (s d : ℕ) → s < length slots → m.child c s ≡ Some d → n ≤ control_spare v d

-- there is room for so many items of each component to which something follows
abbrev pub HasRoomToFollow : ℕ → State → ℕ → Body → Item → Parts → Type 0
HasRoomToFollow n m c b (Control Start) v = HasRoomForChildren n m c b.slots v
HasRoomToFollow n m c b (Control Stop) v = HasRoomForChildren n m c b.slots v
HasRoomToFollow n m c b item v = HasRoomFor n (dumped_in m c b item) v

-- it is what follows from the item after each record for which the state stands
abbrev pub FollowsFrom : ℕ → Body → Item → State → State → Type 0
FollowsFrom c b item m n = (S : Declarations) (P : History) → StandsAt S (start_of P) m → ArePut (λ d. put_by_item S P d c b item) m n

-- ---- what an effect puts

-- it changes neither channels nor instances
abbrev pub leaves_structure : Effect → Bool
leaves_structure (effect.Hold k) = false
leaves_structure (effect.Resume k) = false
leaves_structure (effect.Plug k e place) = false
leaves_structure (effect.Unplug k e) = false
leaves_structure (effect.Create slot kind birth) = false
leaves_structure (effect.Destroy slot) = false
leaves_structure e = true

-- the item that is escalated, for who is told of it
abbrev pub escalated_to : Item → Option (ℕ × ℕ) → Option (ℕ × ControlItem)
escalated_to item told = option_and_then (λ n. option_map (λ q. (q.0, Fault q.1 n)) told) (fault_in item)

-- which item an effect of a handling of an item by c puts, and to whom
abbrev pub put_in : State → ℕ → Item → Option (ℕ × ℕ) → Effect → Option (ℕ × ControlItem)
put_in m c item told (effect.Start s) = to_child_in m c s Start
put_in m c item told (effect.Stop s) = to_child_in m c s Stop
put_in m c item told (effect.Dump s) = to_child_in m c s Dump
put_in m c item told effect.Escalate = escalated_to item told
put_in m c item told e = None

-- it is the effect at each point for which the state stands and before whose entry that one is told
-- of a fault of c
abbrev pub IsEffectAt : ℕ → Item → Option (ℕ × ℕ) → Effect → State → State → Type 0
IsEffectAt c item told e m n = (S : Declarations) (p : Point) → StandsAt S p m → told ≡ nearest S p.before c → IsEffect S p c item e m n

-- ---- room

-- room for one control item less of each component, at most
abbrev pub TakesOneAtMost : Parts → Parts → Type 0
TakesOneAtMost m n = (d : ℕ) → control_spare m d ≤ control_spare n d + 1
