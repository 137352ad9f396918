-- What is declared, by name, does not depend on places.
use Rattle.std.proofs.Common.{◌≡◌, ℕ, List, [], ◌∷◌, ◌++◌, map, length, reverse, Option, Some, None, slice_get, refl, ap, ◌∙◌}
use Rattle.std.specs.Prelude.{slice_index_or, unwrap_or}
use Rattle.std.specs.List.{flat_map}
use Rattle.std.specs.Option.{option_map, option_and_then}
use Rattle.std.proofs.lemmas.List.{length-map}
use Rattle.kom_base.specs.Lists.{find_map, either}
use Rattle.kom_events.specs.declared.event_types.EventRow.{EventRow}
use Rattle.kom_events.specs.declared.port_types.PortRow.{PortRow}
use Rattle.kom_events.specs.Kin.{ancestors}
use Rattle.kom_system.specs.Fitting.{built_in_events, built_in_ports}
use Rattle.kom_system.specs.declared.parts.Spot.{Spot}
use Rattle.kom_system.specs.declared.parts.OnPart.{OnPart}
use Rattle.kom_system.specs.declared.parts.OnPart.TheVariants as on
use Rattle.kom_system.specs.declared.parts.ChildPart.{ChildPart}
use Rattle.kom_system.specs.declared.parts.SlotPart.{SlotPart}
use Rattle.kom_system.specs.declared.parts.ComponentPart.{ComponentPart}
use Rattle.kom_system.specs.declared.parts.EventPart.{EventPart}
use Rattle.kom_system.specs.declared.parts.PortTypePart.{PortTypePart}
use Rattle.kom_system.specs.declared.parts.Parts.{Parts}
use Rattle.kom_rules.specs.Names.{Name, names_of, number_in}
use Rattle.kom_rules.specs.Spaces.{built_in_event_names, built_in_port_names, built_in_attributes, port_spots, var_spots, slot_spots, channel_spots, handler_spots, event_names, port_type_names, component_names, event_number, port_type_number, component_number, event_row, event_rows, port_row, port_rows, own_attributes, attribute_names, component_named, port_named, slot_named, channel_named, handler_named, parameters, is_init, init_parameters, arity, type_in}
use Rattle.kom_written.specs.Unplaced.{spot, spots, on_part, handler_part, child_part, port_part, slot_part, var_part, channel_part, component_part, event_part, port_type_part, unplaced}
use Rattle.kom_unplaced.proofs.Lists.{got, mapped_same, option_same, names_same, spots_same}

-- ---- of one component type

pub port_names_same : (c : ComponentPart) → names_of (port_spots (component_part c)) ≡ names_of (port_spots c)
port_names_same c = names_same (λ p. p.name) (λ p. p.name) port_part c.ports (λ p. refl)

pub var_names_same : (c : ComponentPart) → names_of (var_spots (component_part c)) ≡ names_of (var_spots c)
var_names_same c = names_same (λ p. p.name) (λ p. p.name) var_part c.vars (λ p. refl)

pub slot_names_same : (c : ComponentPart) → names_of (slot_spots (component_part c)) ≡ names_of (slot_spots c)
slot_names_same c = names_same (λ p. p.name) (λ p. p.name) slot_part c.slots (λ p. refl)

pub channel_names_same : (c : ComponentPart) → names_of (channel_spots (component_part c)) ≡ names_of (channel_spots c)
channel_names_same c = names_same (λ p. p.name) (λ p. p.name) channel_part c.channels (λ p. refl)

pub handler_names_same : (c : ComponentPart) → names_of (handler_spots (component_part c)) ≡ names_of (handler_spots c)
handler_names_same c = names_same (λ p. p.name) (λ p. p.name) handler_part c.handlers (λ p. refl)

pub port_named_same : (c : ComponentPart) (s : Spot) → port_named (component_part c) (spot s) ≡ option_map port_part (port_named c s)
port_named_same c s = ap (λ ns. slice_get (map port_part c.ports) (number_in ns s.name)) (port_names_same c) ∙ got port_part c.ports (number_in (names_of (port_spots c)) s.name)

pub slot_named_same : (c : ComponentPart) (s : Spot) → slot_named (component_part c) (spot s) ≡ option_map slot_part (slot_named c s)
slot_named_same c s = ap (λ ns. slice_get (map slot_part c.slots) (number_in ns s.name)) (slot_names_same c) ∙ got slot_part c.slots (number_in (names_of (slot_spots c)) s.name)

pub channel_named_same : (c : ComponentPart) (s : Spot) → channel_named (component_part c) (spot s) ≡ option_map channel_part (channel_named c s)
channel_named_same c s = ap (λ ns. slice_get (map channel_part c.channels) (number_in ns s.name)) (channel_names_same c) ∙ got channel_part c.channels (number_in (names_of (channel_spots c)) s.name)

pub handler_named_same : (c : ComponentPart) (s : Spot) → handler_named (component_part c) (spot s) ≡ option_map handler_part (handler_named c s)
handler_named_same c s = ap (λ ns. slice_get (map handler_part c.handlers) (number_in ns s.name)) (handler_names_same c) ∙ got handler_part c.handlers (number_in (names_of (handler_spots c)) s.name)

pub parameters_same : (o : OnPart) → names_of (parameters (on_part o)) ≡ names_of (parameters o)
parameters_same (on.Event kind port) = refl
parameters_same (on.Init names) = spots_same names
parameters_same on.Start = refl
parameters_same on.Stop = refl
parameters_same (on.Fault slot n) = refl
parameters_same (on.Dumped slot) = refl

pub is_init_same : (o : OnPart) → is_init (on_part o) ≡ is_init o
is_init_same (on.Event kind port) = refl
is_init_same (on.Init names) = refl
is_init_same on.Start = refl
is_init_same on.Stop = refl
is_init_same (on.Fault slot n) = refl
is_init_same (on.Dumped slot) = refl

count_same : (o : OnPart) → init_parameters (on_part o) ≡ init_parameters o
count_same (on.Event kind port) = refl
count_same (on.Init names) = ap Some (length-map names spot)
count_same on.Start = refl
count_same on.Stop = refl
count_same (on.Fault slot n) = refl
count_same (on.Dumped slot) = refl

found_same : {X Y Z : Type 0} (f : Y → Option Z) (g : X → Option Z) (part : X → Y) (xs : List X) → ((x : X) → f (part x) ≡ g x) → find_map f (map part xs) ≡ find_map g xs
found_same f g part [] h = refl
found_same f g part (x ∷ xs) h = ap (λ o. either o (find_map f (map part xs))) (h x) ∙ ap (either (g x)) (found_same f g part xs h)

pub arity_same : (c : ComponentPart) → arity (component_part c) ≡ arity c
arity_same c = ap (λ o. unwrap_or o 0) (found_same (λ h. init_parameters h.on) (λ h. init_parameters h.on) handler_part c.handlers (λ h. count_same h.on))

-- ---- of a file

module _ (P : Parts) where
  pub event_names_same : event_names (unplaced P) ≡ event_names P
  event_names_same = ap (λ ns. built_in_event_names ++ ns) (names_same (λ e. e.name) (λ e. e.name) event_part P.events (λ e. refl))

  pub port_type_names_same : port_type_names (unplaced P) ≡ port_type_names P
  port_type_names_same = ap (λ ns. built_in_port_names ++ ns) (names_same (λ t. t.name) (λ t. t.name) port_type_part P.ports (λ t. refl))

  pub component_names_same : component_names (unplaced P) ≡ component_names P
  component_names_same = names_same (λ c. c.name) (λ c. c.name) component_part P.components (λ c. refl)

  pub event_number_same : (s : Spot) → event_number (unplaced P) (spot s) ≡ event_number P s
  event_number_same s = ap (λ ns. number_in ns s.name) event_names_same

  pub port_type_number_same : (s : Spot) → port_type_number (unplaced P) (spot s) ≡ port_type_number P s
  port_type_number_same s = ap (λ ns. number_in ns s.name) port_type_names_same

  pub component_number_same : (s : Spot) → component_number (unplaced P) (spot s) ≡ component_number P s
  component_number_same s = ap (λ ns. number_in ns s.name) component_names_same

  abbrev made_event_row : Option ℕ → ℕ → EventRow
  made_event_row p n = record { parent = p; own = n }

  abbrev made_port_row : List ℕ → List ℕ → PortRow
  made_port_row ps ms = record { plus = ps; minus = ms }

  event_row_same : (e : EventPart) → event_row (unplaced P) (event_part e) ≡ event_row P e
  event_row_same e =
      ap (λ p. made_event_row p (length (spots e.attrs))) (option_same (event_number (unplaced P)) (event_number P) spot e.parent event_number_same)
      ∙ ap (λ n. made_event_row (option_map (event_number P) e.parent) n) (length-map e.attrs spot)

  pub event_rows_same : event_rows (unplaced P) ≡ event_rows P
  event_rows_same = ap (λ rs. built_in_events ++ rs) (mapped_same (event_row (unplaced P)) (event_row P) event_part P.events event_row_same)

  port_row_same : (t : PortTypePart) → port_row (unplaced P) (port_type_part t) ≡ port_row P t
  port_row_same t =
      ap (λ ps. made_port_row ps (map (event_number (unplaced P)) (spots t.minus))) (mapped_same (event_number (unplaced P)) (event_number P) spot t.plus event_number_same)
      ∙ ap (λ ms. made_port_row (map (event_number P) t.plus) ms) (mapped_same (event_number (unplaced P)) (event_number P) spot t.minus event_number_same)

  pub port_rows_same : port_rows (unplaced P) ≡ port_rows P
  port_rows_same = ap (λ rs. built_in_ports ++ rs) (mapped_same (port_row (unplaced P)) (port_row P) port_type_part P.ports port_row_same)

  own_attributes_same : own_attributes (unplaced P) ≡ own_attributes P
  own_attributes_same = ap (λ ns. built_in_attributes ++ ns) (mapped_same (λ (e : EventPart). names_of e.attrs) (λ (e : EventPart). names_of e.attrs) event_part P.events (λ e. spots_same e.attrs))

  abbrev gathered : List (List Name) → List EventRow → ℕ → List Name
  gathered own rows k = flat_map (λ a. slice_index_or own a []) (reverse (ancestors (length rows) rows k))

  pub attribute_names_same : (k : ℕ) → attribute_names (unplaced P) k ≡ attribute_names P k
  attribute_names_same k = ap (λ own. gathered own (event_rows (unplaced P)) k) own_attributes_same ∙ ap (λ rows. gathered (own_attributes P) rows k) event_rows_same

  pub component_named_same : (s : Spot) → component_named (unplaced P) (spot s) ≡ option_map component_part (component_named P s)
  component_named_same s = ap (slice_get (map component_part P.components)) (component_number_same s) ∙ got component_part P.components (component_number P s)

  pub type_in_same : (s : SlotPart) → type_in (unplaced P) (slot_part s) ≡ option_map component_part (type_in P s)
  type_in_same s = by s.child where
    by : (o : Option ChildPart) → option_and_then (λ child. component_named (unplaced P) child.kind) (option_map child_part o) ≡ option_map component_part (option_and_then (λ child. component_named P child.kind) o)
    by None = refl
    by (Some child) = component_named_same child.kind
