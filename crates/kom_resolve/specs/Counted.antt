-- The syntax trees in which the numbers of a system suffice.
use Rattle.std.specs.Prelude.{◌≡◌, ◌≤◌, ℕ, Bool, true, ◌&&◌, nat_le, length}
use Rattle.std.specs.List.{list_all}
use Rattle.kom_system.specs.declared.parts.ComponentPart.{ComponentPart}
use Rattle.kom_system.specs.declared.parts.Parts.{Parts}
use Rattle.kom_rules.specs.Spaces.{event_names, port_type_names, attribute_names}

-- no kind of declaration of a component type needs more than a byte for its numbers
abbrev pub has_short_lists : ComponentPart → Bool
has_short_lists c =
    nat_le (length c.ports) 255
    && (nat_le (length c.vars) 255
    && (nat_le (length c.slots) 255
    && (nat_le (length c.channels) 255 && nat_le (length c.handlers) 255)))

pub record IsCounted (P : Parts) : Type 0 where
  pub events : length (event_names P) ≤ 65535
  pub port_types : length (port_type_names P) ≤ 65535
  pub components : length P.components ≤ 65535
  pub own : list_all (λ e. nat_le (length e.attrs) 255) P.events ≡ true
  pub attributes : (k : ℕ) → length (attribute_names P k) ≤ 255
  pub inside : list_all has_short_lists P.components ≡ true
