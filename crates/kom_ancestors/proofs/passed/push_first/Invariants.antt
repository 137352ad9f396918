use Rattle.std.proofs.Common.{◌≡◌, ◌++◌, take}
use Rattle.kom_ancestors.proofs.passed.push_first.Given as goal

abbrev pub invariant-loop-name : goal.invariant-loop-name
invariant-loop-name l = l.list ≡ take 9 (l.initial.list ++ take l.name-index l.more)
