use Rattle.std.proofs.Common.{◌≡◌, ℕ, ◌≤◌, ◌<◌}
use Rattle.kom_ready.specs.Lots.{IsSameLot, NoneFell, found_of, given_of, pushed_of}
use Rattle.kom_ready.specs.Counts.{Rose}
use Rattle.kom_ready.proofs.lots.Lot.steal_among.Given as goal

abbrev pub invariant-loop-j : goal.invariant-loop-j
invariant-loop-j g l = record {
  same : IsSameLot l.fn.self l.self;
  pushed : pushed_of l.self ≡ pushed_of l.fn.self;
  given : given_of l.self ≡ given_of l.fn.self;
  empty : (k : ℕ) → l.low ≤ k → k < l.j → Rose (found_of l.fn.self k) (found_of l.self k);
  found : NoneFell l.fn.self l.self;
}
