-- How many declarations a syntax tree has that breaks no rule.
use Rattle.std.proofs.Common.{◌≡◌, ℕ, ◌+◌, ◌≤◌, true, List, [], ◌++◌, map, length, Some, slice_get, nat_le, arith}
use Rattle.std.specs.List.{flat_map}
use Rattle.std.proofs.lemmas.Bool.{le-leb}
use Rattle.std.proofs.lemmas.List.{length-map}
use Rattle.kom_system.specs.declared.parts.Spot.{Spot}
use Rattle.kom_system.specs.declared.parts.PortTypePart.{PortTypePart}
use Rattle.kom_system.specs.declared.parts.HandlerPart.{HandlerPart}
use Rattle.kom_system.specs.declared.parts.ComponentPart.{ComponentPart}
use Rattle.kom_system.specs.declared.parts.Parts.{Parts}
use Rattle.kom_rules.specs.Spaces.{event_spots, port_type_spots, component_spots, port_type_names, port_rows, port_row, port_spots, var_spots, slot_spots, channel_spots, handler_spots}
use Rattle.kom_rules.specs.Declaring.{over, over_in_component, init_parameters_of}
use Rattle.kom_resolve.specs.Counted.{IsCounted, has_short_lists}
use Rattle.kom_accept.proofs.Lists.{first_empty, second_empty, none_at, not_over, both, all_by_number}
use Rattle.kom_accept.proofs.Kept.{Keeps}
use Rattle.kom_accept.proofs.Events.{names_long, rows_long, few_events, names_few, own_few}

module _ (P : Parts) (K : Keeps P) where
  behind_events : over 128 (port_type_spots P) ++ (over 128 (component_spots P) ++ (flat_map (λ t. over 64 t.plus ++ over 64 t.minus) P.ports ++ flat_map over_in_component P.components)) ≡ []
  behind_events = second_empty (over 256 (event_spots P)) _ K.few

  behind_ports : over 128 (component_spots P) ++ (flat_map (λ t. over 64 t.plus ++ over 64 t.minus) P.ports ++ flat_map over_in_component P.components) ≡ []
  behind_ports = second_empty (over 128 (port_type_spots P)) _ behind_events

  behind_components : flat_map (λ t. over 64 t.plus ++ over 64 t.minus) P.ports ++ flat_map over_in_component P.components ≡ []
  behind_components = second_empty (over 128 (component_spots P)) _ behind_ports

  pub few_port_types : length P.ports ≤ 128
  few_port_types = let spots = not_over 128 (port_type_spots P) (first_empty (over 128 (port_type_spots P)) _ behind_events) in let long = length-map P.ports (λ t. t.name) in omega (arith, spots, long)

  pub few_components : length P.components ≤ 128
  few_components = let spots = not_over 128 (component_spots P) (first_empty (over 128 (component_spots P)) _ behind_ports) in let long = length-map P.components (λ c. c.name) in omega (arith, spots, long)

  pub few_listed : (k : ℕ) (t : PortTypePart) → slice_get P.ports k ≡ Some t → (length t.plus ≤ 64) × (length t.minus ≤ 64)
  few_listed k t h =
      let none = none_at (λ x. over 64 x.plus ++ over 64 x.minus) P.ports k t (first_empty (flat_map (λ x. over 64 x.plus ++ over 64 x.minus) P.ports) _ behind_components) h in
      (not_over 64 t.plus (first_empty (over 64 t.plus) (over 64 t.minus) none), not_over 64 t.minus (second_empty (over 64 t.plus) (over 64 t.minus) none))

  pub port_rows_long : length (port_rows P) ≡ 2 + length P.ports
  port_rows_long = let declared = length-map P.ports (port_row P) in omega (arith, declared)

  pub port_names_long : length (port_type_names P) ≡ length (port_rows P)
  port_names_long =
      let declared = length-map P.ports (port_row P) in
      let spots = length-map P.ports (λ t. t.name) in
      let names = length-map (port_type_spots P) (λ s. s.name) in
      omega (arith, declared, spots, names)

pub record HasFew (c : ComponentPart) : Type 0 where
  pub ports : length c.ports ≤ 16
  pub vars : length c.vars ≤ 64
  pub slots : length c.slots ≤ 32
  pub channels : length c.channels ≤ 64
  pub handlers : length c.handlers ≤ 64
  pub parameters : (k : ℕ) (h : HandlerPart) → slice_get c.handlers k ≡ Some h → length (init_parameters_of h.on) ≤ 8

few_of : {X : Type 0} (limit : ℕ) (name : X → Spot) (xs : List X) → over limit (map name xs) ≡ [] → length xs ≤ limit
few_of limit name xs e = let spots = not_over limit (map name xs) e in let long = length-map xs name in omega (arith, spots, long)

few_lists : (c : ComponentPart) → over_in_component c ≡ [] → HasFew c
few_lists c e =
    let vars = second_empty (over 16 (port_spots c)) _ e in
    let slots = second_empty (over 64 (var_spots c)) _ vars in
    let channels = second_empty (over 32 (slot_spots c)) _ slots in
    let handlers = second_empty (over 64 (channel_spots c)) _ channels in
    let parameters = second_empty (over 64 (handler_spots c)) (flat_map (λ h. over 8 (init_parameters_of h.on)) c.handlers) handlers in
    record {
      ports = few_of 16 (λ p. p.name) c.ports (first_empty (over 16 (port_spots c)) _ e);
      vars = few_of 64 (λ v. v.name) c.vars (first_empty (over 64 (var_spots c)) _ vars);
      slots = few_of 32 (λ s. s.name) c.slots (first_empty (over 32 (slot_spots c)) _ slots);
      channels = few_of 64 (λ k. k.name) c.channels (first_empty (over 64 (channel_spots c)) _ channels);
      handlers = few_of 64 (λ h. h.name) c.handlers (first_empty (over 64 (handler_spots c)) _ handlers);
      parameters = λ k h there. not_over 8 (init_parameters_of h.on) (none_at (λ x. over 8 (init_parameters_of x.on)) c.handlers k h parameters there);
    }

pub few_inside : (P : Parts) → Keeps P → (k : ℕ) (c : ComponentPart) → slice_get P.components k ≡ Some c → HasFew c
few_inside P K k c h = few_lists c (none_at over_in_component P.components k c (second_empty (flat_map (λ t. over 64 t.plus ++ over 64 t.minus) P.ports) (flat_map over_in_component P.components) (behind_components P K)) h)

short_lists : (c : ComponentPart) → HasFew c → has_short_lists c ≡ true
short_lists c h =
    both (nat_le (length c.ports) 255) _ (le-leb (length c.ports) 255 (omega (arith, h.ports)))
    (both (nat_le (length c.vars) 255) _ (le-leb (length c.vars) 255 (omega (arith, h.vars)))
    (both (nat_le (length c.slots) 255) _ (le-leb (length c.slots) 255 (omega (arith, h.slots)))
    (both (nat_le (length c.channels) 255) (nat_le (length c.handlers) 255) (le-leb (length c.channels) 255 (omega (arith, h.channels))) (le-leb (length c.handlers) 255 (omega (arith, h.handlers))))))

pub counted : (P : Parts) → Keeps P → IsCounted P
counted P K = record {
  events = omega (arith, names_long P, rows_long P, few_events P K);
  port_types = omega (arith, port_names_long P K, port_rows_long P K, few_port_types P K);
  components = omega (arith, few_components P K);
  own = all_by_number (λ e. nat_le (length e.attrs) 255) P.events (λ j e h. le-leb (length e.attrs) 255 (omega (arith, own_few P K j e h)));
  attributes = λ k. omega (arith, names_few P K k);
  inside = all_by_number has_short_lists P.components (λ k c h. short_lists c (few_inside P K k c h));
}
