use Rattle.std.proofs.Common.{◌≡◌}
use Rattle.kom_ready.specs.Lots.{IsSameLot, NoneFell, given_of, pushed_of}
use Rattle.kom_ready.proofs.lots.Lot.steal_from.Given as goal

abbrev pub invariant-loop : goal.invariant-loop
invariant-loop g l =
    (goal.iterator-loop g).can_next l.iterator' × (goal.iterator-loop g).is_finite l.iterator'
    × IsSameLot l.initial.self l.self × (pushed_of l.self ≡ pushed_of l.initial.self) × (given_of l.self ≡ given_of l.initial.self) × NoneFell l.initial.self l.self
