use Rattle.std.proofs.Common.{◌≡◌, ◌+◌, drop}
use Rattle.kom_rules.specs.Names.{number_in}
use Rattle.kom_resolve.proofs.numbers.number_among.Given as goal

abbrev pub invariant-loop-name : goal.invariant-loop-name
invariant-loop-name l = (number_in l.names l.spot.name ≡ l.number + number_in (drop l.name-index l.names) l.spot.name) × (l.number ≡ l.name-index)
