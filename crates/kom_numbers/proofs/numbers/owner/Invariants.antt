use Rattle.std.proofs.Common.{◌≡◌, ◌⊎◌, ◌+◌, ◌<◌, ◌≤◌, length}
use Rattle.kom_numbers.specs.Spans.{start_of}
use Rattle.kom_numbers.proofs.numbers.owner.Given as goal

abbrev pub invariant-loop-rest : goal.invariant-loop-rest
invariant-loop-rest l = record {
  some : 0 < l.rest;
  within : l.low + l.rest ≤ length l.spans;
  begins : start_of l.outs l.spans l.low ≤ l.x;
  ends : (l.low + l.rest ≡ length l.spans) ⊎ (l.x < start_of l.outs l.spans (l.low + l.rest));
}

abbrev pub decreases-loop-rest : goal.decreases-loop-rest
decreases-loop-rest l = l.rest
