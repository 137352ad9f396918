use Rattle.std.proofs.Common.{◌≡◌, take, length}
use Rattle.kom_env.proofs.few.Few.of.Given as goal

abbrev pub invariant-loop-i : goal.invariant-loop-i
invariant-loop-i l = record {
  long : length l.items ≡ 8;
  same : take l.i l.items ≡ take l.i l.values;
}
