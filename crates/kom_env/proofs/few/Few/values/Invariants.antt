use Rattle.std.proofs.Common.{◌≡◌, take}
use Rattle.kom_env.proofs.few.Few.values.Given as goal

abbrev pub invariant-loop-value : goal.invariant-loop-value
invariant-loop-value l = l.values ≡ take l.value-index l.value-items
