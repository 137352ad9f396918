use Rattle.std.proofs.Common.{◌≡◌, length}
use Rattle.kom_trace.proofs.tests.sample.names.Given as goal

abbrev pub invariant-loop : goal.invariant-loop
invariant-loop l = length l.names ≡ l.counter
