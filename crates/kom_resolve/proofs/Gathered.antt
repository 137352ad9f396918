-- The declarations that are gathered are those of the system that a tree stands for.
use Rattle.std.proofs.Common.{◌≡◌, ℕ, List, map, ap, ◌∙◌, length}
use Rattle.std.specs.List.{range_with_len}
use Rattle.kom_events.specs.declared.event_types.EventRow.{EventRow}
use Rattle.kom_events.specs.declared.port_types.PortRow.{PortRow}
use Rattle.kom_lang.specs.declared.kind.Kind.{Kind}
use Rattle.kom_lang.specs.declared.kind.Child.{Child}
use Rattle.kom_system.specs.Contents.{Contents}
use Rattle.kom_system.specs.declared.parts.Parts.{Parts}
use Rattle.kom_rules.specs.Names.{Name}
use Rattle.kom_rules.specs.Spaces.{event_rows, port_rows, event_names, port_type_names, attribute_names}
use Rattle.kom_resolve.specs.Resolved.{resolved, kind_value, root_value}

abbrev of_parts : ℕ → List EventRow → List Name → List (List Name) → List PortRow → List Name → List Kind → Child → Contents
of_parts version events names attrs ports port_names kinds root = record {
  declarations = record { events = events; ports = ports; kinds = kinds; root = root };
  event_names = names;
  attr_names = attrs;
  port_names = port_names;
  version = version;
}

pub gathered : (P : Parts) (events : List EventRow) (names : List Name) (attrs : List (List Name)) (ports : List PortRow) (port_names : List Name) (kinds : List Kind) (root : Child)
    → events ≡ event_rows P → names ≡ event_names P → attrs ≡ map (attribute_names P) (range_with_len 0 (length (event_rows P))) → ports ≡ port_rows P → port_names ≡ port_type_names P → kinds ≡ map (kind_value P) P.components → root ≡ root_value P
    → of_parts P.version events names attrs ports port_names kinds root ≡ resolved P
gathered P events names attrs ports port_names kinds root a b c d e f g =
    ap (λ x. of_parts P.version x names attrs ports port_names kinds root) a
    ∙ ap (λ x. of_parts P.version (event_rows P) x attrs ports port_names kinds root) b
    ∙ ap (λ x. of_parts P.version (event_rows P) (event_names P) x ports port_names kinds root) c
    ∙ ap (λ x. of_parts P.version (event_rows P) (event_names P) (map (attribute_names P) (range_with_len 0 (length (event_rows P)))) x port_names kinds root) d
    ∙ ap (λ x. of_parts P.version (event_rows P) (event_names P) (map (attribute_names P) (range_with_len 0 (length (event_rows P)))) (port_rows P) x kinds root) e
    ∙ ap (λ x. of_parts P.version (event_rows P) (event_names P) (map (attribute_names P) (range_with_len 0 (length (event_rows P)))) (port_rows P) (port_type_names P) x root) f
    ∙ ap (λ x. of_parts P.version (event_rows P) (event_names P) (map (attribute_names P) (range_with_len 0 (length (event_rows P)))) (port_rows P) (port_type_names P) (map (kind_value P) P.components) x) g
