use Rattle.std.proofs.Common.{◌≡◌, take}
use Rattle.std.specs.List.{filter_map}
use Rattle.kom_rules.specs.Fitting.{child_number}
use Rattle.kom_containers.proofs.children.children_in.Given as goal

abbrev pub invariant-loop-slot : goal.invariant-loop-slot
invariant-loop-slot l = l.list ≡ filter_map (child_number l.parts) (take l.slot-index l.slot-items)
