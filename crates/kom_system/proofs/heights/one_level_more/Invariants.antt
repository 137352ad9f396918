use Rattle.std.proofs.Common.{◌≡◌, ◌+◌, map, take, slice_index_or}
use Rattle.kom_lang.specs.Declarations.{child_height, greatest}
use Rattle.kom_system.proofs.heights.one_level_more.Given as goal

abbrev pub invariant-loop-kind : goal.invariant-loop-kind
invariant-loop-kind l = l.table ≡ map (λ kind. 1 + greatest (map (child_height (λ c. slice_index_or l.below c 0)) kind.slots)) (take l.kind-index l.kind-items)
