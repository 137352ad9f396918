use Rattle.std.proofs.Common.{◌∙◌, ap, sym}
use Rattle.kom_system.specs.declared.parts.Spot.{Spot}
use Rattle.kom_system.specs.declared.parts.PortTypePart.{PortTypePart}
use Rattle.kom_rules.specs.Names.{is_among, at_if, first_place}
use Rattle.kom_rules.specs.Spaces.{built_in_port_names}
use Rattle.kom_spaces.proofs.Noted.{flat_map_over}
use Rattle.kom_spaces.proofs.twice.first_built_in_port.Goals as goal

pub returns : goal.returns
returns c = c.first_of.ensures ∙ ap first_place (sym (flat_map_over (λ (s : Spot). at_if (is_among built_in_port_names s.name) s.at) (λ (x : PortTypePart). x.name) c.args.ports.now))
