use Rattle.std.proofs.Common.{◌≡◌, ◌++◌, [], map, take}
use Rattle.kom_ancestors.proofs.passed.Steps.one.Given as goal

abbrev pub invariant-loop-list : goal.invariant-loop-list
invariant-loop-list l = l.names ≡ map (λ list. take 9 (take 9 [] ++ list)) (take l.list-index l.own)
