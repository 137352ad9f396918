-- When a plan fits a system, and when a job is well formed.
use Rattle.std.specs.Prelude.{◌≡◌, ◌≤◌, ◌<◌, ℕ, Bool, true, false, ◌&&◌, ◌==◌, nat_lt, nat_le, not, if◌then◌else◌, IsTrue, List, [], ◌∷◌, length, map, slice_get, Some, None}
use Rattle.std.specs.List.{list_any, list_all}
use Rattle.std.specs.Option.{option_map_or, option_and_then}
use Rattle.kom_base.specs.declared.numbers.Dir.{Dir}
use Rattle.kom_base.specs.declared.numbers.Dir.TheVariants.{Plus, Minus}
use Rattle.kom_base.specs.declared.values.Event.{Event}
use Rattle.kom_events.specs.Kin.{attributes}
use Rattle.kom_events.specs.Ports.{passes}
use Rattle.kom_lang.specs.Declarations.{Declarations, kind_of, handler_of, is_init}
use Rattle.kom_lang.specs.declared.kind.Place.{Place}
use Rattle.kom_lang.specs.declared.kind.PortDecl.{PortDecl}
use Rattle.kom_lang.specs.declared.stmt.On.{On}
use Rattle.kom_lang.specs.declared.stmt.On.TheVariants as on
use Rattle.kom_lang.specs.declared.body.Body.{Body}
use Rattle.kom_lang.specs.declared.body.Wire.{Wire}
use Rattle.kom_record.specs.declared.item.Control.TheVariants.{Init}
use Rattle.kom_record.specs.declared.item.Item.{Item}
use Rattle.kom_record.specs.declared.item.Item.TheVariants.{Control, Arrival}
use Rattle.kom_record.specs.declared.plan.Plan.{Plan}

-- ---- plans

-- the direction in which events come in from outside at a port
abbrev pub inward : PortDecl → Dir
inward p = if p.provided then Minus else Plus

-- the event has a type of the system, and as many values as that type has attributes
abbrev pub is_of_its_type : Declarations → Event → Bool
is_of_its_type S event = nat_lt event.kind (length S.events) && (length event.values == attributes S.events event.kind)

-- the event comes in from outside at port q of the root
unfoldable pub comes_in_at : Declarations → ℕ → Event → Bool
comes_in_at S q event =
    option_map_or (λ p. passes S.events S.ports p.port (inward p) event.kind) (slice_get (kind_of S S.root.kind).ports q) false
    && is_of_its_type S event

-- no number is greater than the next
abbrev pub does_not_fall : List ℕ → Bool
does_not_fall [] = true
does_not_fall (t ∷ []) = true
does_not_fall (t ∷ u ∷ ts) = nat_le t u && does_not_fall (u ∷ ts)

-- The plan fits the system: its numbers are within their limits, and its raises stand in order of
-- time and come in at ports of the root. (The root's ports and the environment channels have the
-- same numbers.)
pub record PlanFits (S : Declarations) (Z : Plan) : Type 0 where
  pub some_step : 1 ≤ Z.steps
  pub steps : Z.steps ≤ 100_000
  pub some_instant : 1 ≤ Z.instants
  pub instants : Z.instants ≤ 100_000
  pub pair : Z.lo ≤ Z.hi
  pub greatest : Z.hi ≤ 1_000_000_000
  pub raises : length Z.raises ≤ 2_000_000_000
  pub in_order : IsTrue (does_not_fall (map (λ r. r.time) Z.raises))
  pub times : IsTrue (list_all (λ r. nat_lt r.time 4_611_686_018_427_387_905) Z.raises)
  pub come_in : IsTrue (list_all (λ r. comes_in_at S r.chan r.event) Z.raises)

-- ---- jobs

-- the place names a port of the component itself, or a port of the child in a slot that is filled
abbrev pub is_place_in : Declarations → Body → Place → Bool
is_place_in S b p =
    elim p.slot [
      | None ↦ nat_lt p.port (length (kind_of S b.kind).ports)
      | Some s ↦ option_map_or (λ k. nat_lt p.port (length (kind_of S k).ports)) (option_and_then (λ o. o) (slice_get b.slots s)) false
    ]

abbrev pub is_wire_in : Declarations → Body → Wire → Bool
is_wire_in S b w = option_map_or (is_place_in S b) w.plus true && option_map_or (is_place_in S b) w.minus true

-- an init handler with so many parameters
abbrev pub is_init_of : ℕ → On → Bool
is_init_of n (on.Init names) = length names == n
is_init_of n o = false

abbrev pub item_fits : Declarations → ℕ → Item → Bool
item_fits S kind (Control (Init vs)) = list_any (λ h. is_init_of (length vs) h.on) (kind_of S kind).handlers
item_fits S kind (Control k) = true
item_fits S kind (Arrival x d n port side event back) = nat_lt port (length (kind_of S kind).ports) && is_of_its_type S event

-- A job is well formed: all numbers in its body and its item are in range. The body has as many
-- variables, slots and channels as its type declares, is subscribed to handlers of its type other
-- than init, and its channels are plugged at ports that are there.
pub record IsWellFormedJob (S : Declarations) (b : Body) (item : Item) : Type 0 where
  pub kind : b.kind < length S.kinds
  pub vars : length b.vars ≡ length (kind_of S b.kind).vars
  pub slots : length b.slots ≡ length (kind_of S b.kind).slots
  pub wires : length b.wires ≡ length (kind_of S b.kind).channels
  pub subs : IsTrue (list_all (λ h. option_map_or (λ x. not (is_init x.on)) (handler_of (kind_of S b.kind) h) false) b.subs)
  pub children : IsTrue (list_all (λ s. option_map_or (λ k. nat_lt k (length S.kinds)) s true) b.slots)
  pub places : IsTrue (list_all (is_wire_in S b) b.wires)
  pub some_depth : 1 ≤ b.depth
  pub depth : b.depth ≤ 16
  pub fitting : IsTrue (item_fits S b.kind item)
