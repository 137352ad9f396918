use Rattle.std.proofs.Common.{◌≡◌, take}
use Rattle.std.specs.List.{flat_map, enumerate_from}
use Rattle.kom_rules.specs.Names.{first_place, at_if}
use Rattle.kom_rules.specs.Spaces.{attribute_names}
use Rattle.kom_rules.specs.Declaring.{has_wrong_attributes}
use Rattle.kom_ancestors.proofs.attributes.wrong_attributes.Given as goal

abbrev pub invariant-loop-number : goal.invariant-loop-number
invariant-loop-number l = l.first ≡ first_place (flat_map (λ x. at_if (has_wrong_attributes (attribute_names l.parts x.0)) x.1.name.at) (enumerate_from 4 (take l.number l.part-items)))
