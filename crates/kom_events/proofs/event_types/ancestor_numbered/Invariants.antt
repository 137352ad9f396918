use Rattle.std.proofs.Common.{◌≡◌, ◌-◌, ◌==◌, false}
use Rattle.std.specs.List.{list_any}
use Rattle.std.specs.Option.{option_map_or}
use Rattle.kom_events.specs.Kin.{kin}
use Rattle.kom_events.proofs.Walks.{line}
use Rattle.kom_events.proofs.event_types.ancestor_numbered.Given as goal

abbrev pub invariant-loop : goal.invariant-loop
invariant-loop l = list_any (λ c. c == l.b) (line (l.end - l.counter) l.rows l.next) ≡ option_map_or (λ a. kin l.rows a l.b) l.fn.from false
