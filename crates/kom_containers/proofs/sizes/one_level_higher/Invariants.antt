use Rattle.std.proofs.Common.{◌≡◌, ◌+◌, map, take, slice_index_or}
use Rattle.kom_lang.specs.Declarations.{greatest}
use Rattle.kom_containers.proofs.sizes.one_level_higher.Given as goal

abbrev pub invariant-loop-list : goal.invariant-loop-list
invariant-loop-list l = l.table ≡ map (λ below. 1 + greatest (map (λ c. slice_index_or l.heights c 0) below)) (take l.list-index l.children)
