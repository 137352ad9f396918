use Rattle.std.proofs.Common.{◌≡◌, take}
use Rattle.std.specs.List.{flat_map}
use Rattle.kom_rules.specs.Names.{first_place}
use Rattle.kom_walks.proofs.places.first_of.Given as goal

abbrev pub invariant-loop-item : goal.invariant-loop-item
invariant-loop-item g l = l.first ≡ first_place (flat_map (g.S.Of.places l.says) (take l.item-index l.items))
