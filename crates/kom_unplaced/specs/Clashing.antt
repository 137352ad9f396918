-- Rule 6 but for names that are repeated in their space: a built-in name that is declared, and a
-- parameter or `let` name that is in scope or in the space of its component type.
use Rattle.std.specs.Prelude.{ℕ, List, ◌++◌}
use Rattle.std.specs.List.{flat_map}
use Rattle.kom_system.specs.declared.parts.ComponentPart.{ComponentPart}
use Rattle.kom_system.specs.declared.parts.Parts.{Parts}
use Rattle.kom_rules.specs.Spaces.{built_in_event_names, built_in_port_names, event_spots, port_type_spots}
use Rattle.kom_rules.specs.Declaring.{built_in, clashes_in}

abbrev pub clashing : Parts → List ℕ
clashing P =
    built_in built_in_event_names (event_spots P)
    ++ (built_in built_in_port_names (port_type_spots P) ++ flat_map (λ (c : ComponentPart). flat_map (clashes_in c) c.handlers) P.components)
