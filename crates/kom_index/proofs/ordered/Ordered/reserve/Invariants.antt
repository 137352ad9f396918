use Rattle.std.proofs.Common.{◌≡◌, ◌≤◌, ◌-◌, max}
use Rattle.kom_index.specs.Stock.{entries, spare}
use Rattle.kom_index.proofs.ordered.Ordered.reserve.Given as goal

abbrev pub invariant-loop-self : goal.invariant-loop-self
invariant-loop-self g l = record {
  same : entries l.self ≡ entries l.fn.self;
  not_less : spare l.fn.self ≤ spare l.self;
  not_more : spare l.self ≤ max (spare l.fn.self) l.fn.n;
}

abbrev pub decreases-loop-self : goal.decreases-loop-self
decreases-loop-self g l = l.n - spare l.self
