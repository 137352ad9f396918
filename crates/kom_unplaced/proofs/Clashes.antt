-- Names that clash, without places.
use Rattle.std.proofs.Common.{◌≡◌, List, [], ◌∷◌, ◌++◌, map, length, filter, refl, sym, ap, ◌∙◌}
use Rattle.std.specs.Prelude.{max}
use Rattle.std.specs.List.{flat_map}
use Rattle.std.proofs.lemmas.List.{length-map}
use Rattle.kom_system.specs.declared.parts.Spot.{Spot}
use Rattle.kom_system.specs.declared.parts.StmtPart.{StmtPart}
use Rattle.kom_system.specs.declared.parts.StmtPart.TheOpen.{Let}
use Rattle.kom_system.specs.declared.parts.OnPart.{OnPart}
use Rattle.kom_system.specs.declared.parts.OnPart.TheVariants as on
use Rattle.kom_system.specs.declared.parts.HandlerPart.{HandlerPart}
use Rattle.kom_system.specs.declared.parts.ComponentPart.{ComponentPart}
use Rattle.kom_system.specs.declared.parts.EventPart.{EventPart}
use Rattle.kom_system.specs.declared.parts.PortTypePart.{PortTypePart}
use Rattle.kom_system.specs.declared.parts.Parts.{Parts}
use Rattle.kom_rules.specs.Names as names
use Rattle.kom_rules.specs.Names.{names_of, is_among, at_if, unknown}
use Rattle.kom_rules.specs.Walks.{One, max_levels}
use Rattle.kom_written.specs.Unplaced.{spot, on_part, handler_part, port_part, slot_part, var_part, channel_part, component_part, event_part, port_type_part, unplaced}
use Rattle.kom_unplaced.proofs.Lists.{AsMany, nothing, one, both, each}
use Rattle.kom_unplaced.proofs.Exprs.{one_part, statements_same}
use Rattle.std.proofs.lemmas.List.{map-append, nil_from_length}
use Rattle.kom_rules.specs.Names.{same}
use Rattle.kom_rules.specs.Spaces.{event_spots, port_type_spots, component_spots, port_spots, var_spots, slot_spots, channel_spots, handler_spots, item_spots, parameters, built_in_event_names, built_in_port_names}
use Rattle.kom_rules.specs.Names.{with_name}
use Rattle.kom_rules.specs.Declaring.{one_by_one, clashes, let_clashes, clashes_in, built_in}
use Rattle.kom_unplaced.specs.Clashing.{clashing}
use Rattle.kom_unplaced.proofs.Declaring.{filter_length}

-- ---- the names of a space

pub spots_moved : {X Y : Type 0} (new : Y → Spot) (old : X → Spot) (part : X → Y) (xs : List X) → ((x : X) → new (part x) ≡ spot (old x)) → map new (map part xs) ≡ map spot (map old xs)
spots_moved new old part [] h = refl
spots_moved new old part (x ∷ xs) h = ap (λ y. y ∷ map new (map part xs)) (h x) ∙ ap (λ ys. spot (old x) ∷ ys) (spots_moved new old part xs h)

pub event_spots_moved : (P : Parts) → event_spots (unplaced P) ≡ map spot (event_spots P)
event_spots_moved P = spots_moved (λ (x : EventPart). x.name) (λ (x : EventPart). x.name) event_part P.events (λ x. refl)

pub port_type_spots_moved : (P : Parts) → port_type_spots (unplaced P) ≡ map spot (port_type_spots P)
port_type_spots_moved P = spots_moved (λ (x : PortTypePart). x.name) (λ (x : PortTypePart). x.name) port_type_part P.ports (λ x. refl)

pub component_spots_moved : (P : Parts) → component_spots (unplaced P) ≡ map spot (component_spots P)
component_spots_moved P = spots_moved (λ (x : ComponentPart). x.name) (λ (x : ComponentPart). x.name) component_part P.components (λ x. refl)

joined : (a b : List Spot) {a' b' : List Spot} → a' ≡ map spot a → b' ≡ map spot b → a' ++ b' ≡ map spot (a ++ b)
joined a b {a' = a'} {b' = b'} e f = ap (λ z. z ++ b') e ∙ ap (λ z. map spot a ++ z) f ∙ sym (map-append spot a b)

pub item_spots_moved : (c : ComponentPart) → item_spots (component_part c) ≡ map spot (item_spots c)
item_spots_moved c =
    joined (port_spots c) (var_spots c ++ (slot_spots c ++ (channel_spots c ++ handler_spots c))) (spots_moved (λ p. p.name) (λ p. p.name) port_part c.ports (λ p. refl))
    (joined (var_spots c) (slot_spots c ++ (channel_spots c ++ handler_spots c)) (spots_moved (λ p. p.name) (λ p. p.name) var_part c.vars (λ p. refl))
    (joined (slot_spots c) (channel_spots c ++ handler_spots c) (spots_moved (λ p. p.name) (λ p. p.name) slot_part c.slots (λ p. refl))
    (joined (channel_spots c) (handler_spots c) (spots_moved (λ p. p.name) (λ p. p.name) channel_part c.channels (λ p. refl)) (spots_moved (λ p. p.name) (λ p. p.name) handler_part c.handlers (λ p. refl)))))

-- ---- clashes

module _ (c : ComponentPart) where
  meets_same : (s : Spot) → AsMany (map (λ (d : Spot). max 0 d.at) (filter (same s.name) (item_spots (component_part c)))) (map (λ (d : Spot). max s.at d.at) (filter (same s.name) (item_spots c)))
  meets_same s = record {
    same = length-map (filter (same s.name) (item_spots (component_part c))) (λ (d : Spot). max 0 d.at)
        ∙ ap (λ ss. length (filter (same s.name) ss)) (item_spots_moved c) ∙ filter_length (same s.name) (same s.name) spot (item_spots c) (λ x. refl)
        ∙ sym (length-map (filter (same s.name) (item_spots c)) (λ (d : Spot). max s.at d.at));
  }

  clashes_same : (scope : List names.Name) (s : Spot) → AsMany (clashes (component_part c) scope (spot s)) (clashes c scope s)
  clashes_same scope s = both (one _ _ refl) (meets_same s)

  let_same : (scope : List names.Name) (below : List StmtPart → List StmtPart) (s : One) → AsMany (let_clashes (component_part c) scope (one_part below s)) (let_clashes c scope s)
  let_same scope below (Let n x) = clashes_same scope n
  let_same scope below _ = nothing

  parameters_same : (scope : List names.Name) (ss : List Spot) → AsMany (flat_map (λ x. clashes (component_part c) x.scope x.name) (one_by_one scope (map spot ss))) (flat_map (λ x. clashes c x.scope x.name) (one_by_one scope ss))
  parameters_same scope [] = nothing
  parameters_same scope (s ∷ ss) = both (clashes_same scope s) (parameters_same (with_name scope s.name) ss)

  parameters_moved : (o : OnPart) → parameters (on_part o) ≡ map spot (parameters o)
  parameters_moved (on.Event kind port) = refl
  parameters_moved (on.Init ns) = refl
  parameters_moved on.Start = refl
  parameters_moved on.Stop = refl
  parameters_moved (on.Fault slot n) = refl
  parameters_moved (on.Dumped slot) = refl

  first_same : (o : OnPart) → AsMany (flat_map (λ x. clashes (component_part c) x.scope x.name) (one_by_one [] (parameters (on_part o)))) (flat_map (λ x. clashes c x.scope x.name) (one_by_one [] (parameters o)))
  first_same o = record { same = ap (λ ss. length (flat_map (λ x. clashes (component_part c) x.scope x.name) (one_by_one [] ss))) (parameters_moved o) ∙ (parameters_same [] (parameters o)).same }

  in_handler : (h : HandlerPart) → AsMany (clashes_in (component_part c) (handler_part h)) (clashes_in c h)
  in_handler h = both (first_same h.on) (statements_same (λ x. let_clashes (component_part c) x.scope x.stmt) (λ x. let_clashes c x.scope x.stmt) let_same max_levels h)

built_in_same : (ns : List names.Name) (new old : List Spot) → new ≡ map spot old → AsMany (built_in ns new) (built_in ns old)
built_in_same ns new old e = record { same = ap (λ ss. length (built_in ns ss)) e ∙ (each (λ s. at_if (is_among ns s.name) s.at) (λ s. at_if (is_among ns s.name) s.at) spot old (λ s. one _ _ refl)).same }

clashing_same : (P : Parts) → AsMany (clashing (unplaced P)) (clashing P)
clashing_same P =
    both (built_in_same built_in_event_names (event_spots (unplaced P)) (event_spots P) (event_spots_moved P))
    (both (built_in_same built_in_port_names (port_type_spots (unplaced P)) (port_type_spots P) (port_type_spots_moved P)) (each _ _ component_part P.components (λ c. each _ _ handler_part c.handlers (in_handler c))))

pub no_clashes : (P Q : Parts) → unplaced P ≡ unplaced Q → clashing P ≡ [] → clashing Q ≡ []
no_clashes P Q e none = nil_from_length (clashing Q) (sym ((clashing_same Q).same) ∙ ap (λ R. length (clashing R)) (sym e) ∙ (clashing_same P).same ∙ ap length none)
