use Rattle.std.proofs.Common.{◌≡◌, ◌||◌, ◌==◌, false, map, take, slice_index_or}
use Rattle.std.specs.List.{list_any}
use Rattle.kom_containers.proofs.below.one_level_further.Given as goal

abbrev pub invariant-loop-list : goal.invariant-loop-list
invariant-loop-list l = l.table ≡ map (list_any (λ c. c == l.number || slice_index_or l.below c false)) (take l.list-index l.children)
