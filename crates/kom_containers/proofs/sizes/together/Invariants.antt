use Rattle.std.proofs.Common.{◌≡◌, ◌+◌, min, take, slice_index_or, sum_by}
use Rattle.kom_containers.proofs.sizes.together.Given as goal

abbrev pub invariant-loop-child : goal.invariant-loop-child
invariant-loop-child l = l.total ≡ min (l.own + sum_by (λ c. slice_index_or l.totals c 0) (take l.child-index l.children)) 1001
