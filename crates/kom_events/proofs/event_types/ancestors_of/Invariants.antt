use Rattle.std.proofs.Common.{◌≡◌, ◌-◌, ◌++◌}
use Rattle.kom_events.specs.Kin.{ancestors}
use Rattle.kom_events.proofs.Walks.{line}
use Rattle.kom_events.proofs.event_types.ancestors_of.Given as goal

abbrev pub invariant-loop : goal.invariant-loop
invariant-loop l = l.list ++ line (l.end - l.counter) l.rows l.next ≡ ancestors l.end l.rows l.a
