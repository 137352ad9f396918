use Rattle.std.proofs.Common.{◌≡◌, ◌++◌, take}
use Rattle.kom_eval.proofs.item.push_all.Given as goal

abbrev pub invariant-loop-i : goal.invariant-loop-i
invariant-loop-i l = l.scope ≡ l.fn.scope ++ take l.i l.values
