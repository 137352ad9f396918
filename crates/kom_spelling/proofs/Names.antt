-- A name is found again by its number.
use Rattle.std.proofs.Common.{◌≡◌, ℕ, zero, suc, ◌+◌, ◌<◌, ◌≤◌, Bool, true, false, not, ◌||◌, cond, List, [], ◌∷◌, ◌++◌, map, length, Option, Some, None, slice_get, bytes_eq, refl, sym, ap, ◌∙◌, arith}
use Rattle.std.specs.Prelude.{slice_index_or}
use Rattle.std.specs.Option.{option_map_or}
use Rattle.std.proofs.lemmas.Slice.Eq.{bytes_eq-Decides}
use Rattle.std.proofs.lemmas.List.FromFn.{get_or-map-range_with_len}
use Rattle.kom_lang.specs.Declarations.{no_kind}
use Rattle.kom_system.specs.declared.parts.Spot.{Spot}
use Rattle.kom_system.specs.declared.parts.ComponentPart.{ComponentPart}
use Rattle.kom_system.specs.declared.parts.Parts.{Parts}
use Rattle.kom_record.specs.Trace.{port_name, slot_name, channel_name}
use Rattle.kom_rules.specs.Names.{Name, names_of, number_in, is_among, unknown}
use Rattle.kom_rules.specs.Spaces.{event_names, port_type_names, component_names, event_number, port_type_number, component_number, event_rows, attribute_names, port_spots, var_spots, slot_spots, channel_spots, handler_spots}
use Rattle.kom_rules.specs.Declaring.{unknown_event, unknown_port_type, unknown_component, unknown_port, unknown_slot, unknown_channel, unknown_handler}
use Rattle.kom_resolve.specs.Resolved.{resolved, kind_value, port_value, var_value, slot_value, channel_value, handler_value, port_number, slot_number, channel_number, handler_number}
use Rattle.kom_sysprint.specs.Canonical.{name_at, var_name, handler_name, attr_name, kind_name}
use Rattle.kom_accept.proofs.Lists.{known}
use Rattle.kom_accept.proofs.Kept.{Keeps}
use Rattle.kom_accept.proofs.Events.{number_known_event}

-- in a list of names
pub name_found : (names : List Name) (n : Name) → is_among names n ≡ true → name_at names (number_in names n) ≡ n
name_found [] n h = absurd cc
name_found (x ∷ names) n h = by (bytes_eq n x) refl (name_found names n) h where
  by : (b : Bool) → bytes_eq n x ≡ b → (is_among names n ≡ true → name_at names (number_in names n) ≡ n) → b || is_among names n ≡ true → name_at (x ∷ names) (cond (not b) (1 + number_in names n) 0) ≡ n
  by true e more h = sym ((bytes_eq-Decides n x).0 e)
  by false e more h = let one : 1 + number_in names n ≡ suc (number_in names n) = omega arith in ap (name_at (x ∷ names)) one ∙ more h

-- among things that have names
pub part_found : {X Y : Type 0} (spot : X → Spot) (value : X → Y) (name : Y → Name) → ((x : X) → name (value x) ≡ (spot x).name) → (xs : List X) (n : Name) → is_among (names_of (map spot xs)) n ≡ true
    → option_map_or name (slice_get (map value xs) (number_in (names_of (map spot xs)) n)) [] ≡ n
part_found spot value name same [] n h = absurd cc
part_found {X = X} {Y = Y} spot value name same (x ∷ xs) n h = by (bytes_eq n (spot x).name) refl (part_found spot value name same xs n) h where
  at : ℕ → Name
  at k = option_map_or name (slice_get (value x ∷ map value xs) k) []

  by : (b : Bool) → bytes_eq n (spot x).name ≡ b → (is_among (names_of (map spot xs)) n ≡ true → option_map_or name (slice_get (map value xs) (number_in (names_of (map spot xs)) n)) [] ≡ n)
      → b || is_among (names_of (map spot xs)) n ≡ true → at (cond (not b) (1 + number_in (names_of (map spot xs)) n) 0) ≡ n
  by true e more h = same x ∙ sym ((bytes_eq-Decides n (spot x).name).0 e)
  by false e more h = let one : 1 + number_in (names_of (map spot xs)) n ≡ suc (number_in (names_of (map spot xs)) n) = omega arith in ap at one ∙ more h

pub member_found : {X Y : Type 0} (spot : X → Spot) (value : X → Y) (name : Y → Name) (d : Y) → ((x : X) → name (value x) ≡ (spot x).name) → (xs : List X) (n : Name) → is_among (names_of (map spot xs)) n ≡ true
    → name (slice_index_or (map value xs) (number_in (names_of (map spot xs)) n) d) ≡ n
member_found spot value name d same [] n h = absurd cc
member_found {X = X} {Y = Y} spot value name d same (x ∷ xs) n h = by (bytes_eq n (spot x).name) refl (member_found spot value name d same xs n) h where
  at : ℕ → Name
  at k = name (slice_index_or (value x ∷ map value xs) k d)

  by : (b : Bool) → bytes_eq n (spot x).name ≡ b → (is_among (names_of (map spot xs)) n ≡ true → name (slice_index_or (map value xs) (number_in (names_of (map spot xs)) n) d) ≡ n)
      → b || is_among (names_of (map spot xs)) n ≡ true → at (cond (not b) (1 + number_in (names_of (map spot xs)) n) 0) ≡ n
  by true e more h = same x ∙ sym ((bytes_eq-Decides n (spot x).name).0 e)
  by false e more h = let one : 1 + number_in (names_of (map spot xs)) n ≡ suc (number_in (names_of (map spot xs)) n) = omega arith in ap at one ∙ more h

pub among_either : (xs ys : List Name) (n : Name) → is_among (xs ++ ys) n ≡ true → is_among xs n ≡ false → is_among ys n ≡ true
among_either [] ys n h k = h
among_either (x ∷ xs) ys n h k = by (bytes_eq n x) (among_either xs ys n) h k where
  by : (b : Bool) → (is_among (xs ++ ys) n ≡ true → is_among xs n ≡ false → is_among ys n ≡ true) → b || is_among (xs ++ ys) n ≡ true → b || is_among xs n ≡ false → is_among ys n ≡ true
  by true more h k = absurd cc
  by false more h k = more h k

module _ (P : Parts) (K : Keeps P) where
  pub event_found : (s : Spot) → unknown_event P s ≡ [] → name_at (event_names P) (event_number P s) ≡ s.name
  event_found s u = name_found (event_names P) s.name (known (event_names P) s u)

  pub port_type_found : (s : Spot) → unknown_port_type P s ≡ [] → name_at (port_type_names P) (port_type_number P s) ≡ s.name
  port_type_found s u = name_found (port_type_names P) s.name (known (port_type_names P) s u)

  pub kind_found : (s : Spot) → unknown_component P s ≡ [] → kind_name (resolved P) (component_number P s) ≡ s.name
  kind_found s u = member_found (λ c. c.name) (kind_value P) (λ k. k.name) no_kind (λ c. refl) P.components s.name (known (component_names P) s u)

  -- the names of the attributes of an event type that is declared
  pub attributes_at : (k : ℕ) → k < length (event_rows P) → slice_index_or (resolved P).attr_names k [] ≡ attribute_names P k
  attributes_at k less = get_or-map-range_with_len (attribute_names P) 0 (length (event_rows P)) k k [] less (omega arith)

  pub attribute_found : (kind : Spot) (n : Name) → unknown_event P kind ≡ [] → is_among (attribute_names P (event_number P kind)) n ≡ true
      → attr_name (resolved P) (event_number P kind) (number_in (attribute_names P (event_number P kind)) n) ≡ n
  attribute_found kind n u h =
      ap (λ ns. name_at ns (number_in (attribute_names P (event_number P kind)) n)) (attributes_at (event_number P kind) (number_known_event P K kind u))
      ∙ name_found (attribute_names P (event_number P kind)) n h

module _ (P : Parts) (c : ComponentPart) where
  pub var_found : (n : Name) → is_among (names_of (var_spots c)) n ≡ true → var_name (kind_value P c) (number_in (names_of (var_spots c)) n) ≡ n
  var_found n h = part_found (λ v. v.name) var_value (λ v. v.name) (λ v. refl) c.vars n h

  pub port_found : (s : Spot) → unknown_port c s ≡ [] → port_name (kind_value P c) (port_number c s) ≡ s.name
  port_found s u = part_found (λ p. p.name) (port_value P) (λ p. p.name) (λ p. refl) c.ports s.name (known (names_of (port_spots c)) s u)

  pub slot_found : (s : Spot) → unknown_slot c s ≡ [] → slot_name (kind_value P c) (slot_number c s) ≡ s.name
  slot_found s u = part_found (λ p. p.name) (slot_value P) (λ p. p.name) (λ p. refl) c.slots s.name (known (names_of (slot_spots c)) s u)

  pub channel_found : (s : Spot) → unknown_channel c s ≡ [] → channel_name (kind_value P c) (channel_number c s) ≡ s.name
  channel_found s u = part_found (λ p. p.name) (channel_value P c) (λ p. p.name) (λ p. refl) c.channels s.name (known (names_of (channel_spots c)) s u)

  pub handler_found : (s : Spot) → unknown_handler c s ≡ [] → handler_name (kind_value P c) (handler_number c s) ≡ s.name
  handler_found s u = part_found (λ p. p.name) (handler_value P c) (λ p. p.name) (λ p. refl) c.handlers s.name (known (names_of (handler_spots c)) s u)
