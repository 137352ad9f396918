use Rattle.std.proofs.Common.{◌≡◌, length}
use Rattle.kom_nest.proofs.nest.names.Given as goal

abbrev pub invariant-loop-bytes : goal.invariant-loop-bytes
invariant-loop-bytes l = length l.names ≡ l.bytes-index
