use Rattle.std.proofs.Common.{◌≡◌, length}
use Rattle.kom_eval.proofs.tests.sample.names.Given as goal

abbrev pub invariant-loop : goal.invariant-loop
invariant-loop l = length l.names ≡ l.counter
