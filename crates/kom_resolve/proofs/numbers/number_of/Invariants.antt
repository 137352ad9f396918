use Rattle.std.proofs.Common.{◌≡◌, ◌+◌, drop, map}
use Rattle.kom_rules.specs.Names.{names_of, number_in}
use Rattle.kom_resolve.proofs.numbers.number_of.Given as goal

abbrev pub invariant-loop-part : goal.invariant-loop-part
invariant-loop-part g l = (number_in (names_of (map g.T.Declares.named l.parts)) l.spot.name ≡ l.number + number_in (names_of (map g.T.Declares.named (drop l.part-index l.parts))) l.spot.name) × (l.number ≡ l.part-index)
