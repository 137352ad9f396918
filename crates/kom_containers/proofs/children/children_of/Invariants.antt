use Rattle.std.proofs.Common.{◌≡◌, map, take}
use Rattle.std.specs.List.{filter_map}
use Rattle.kom_rules.specs.Fitting.{child_number}
use Rattle.kom_containers.proofs.children.children_of.Given as goal

abbrev pub invariant-loop-part : goal.invariant-loop-part
invariant-loop-part l = l.table ≡ map (λ c. filter_map (child_number l.parts) c.slots) (take l.part-index l.part-items)
