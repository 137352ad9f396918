use Rattle.std.proofs.Common.{take}
use Rattle.kom_lookups.proofs.Together.{Paired}
use Rattle.kom_lookups.proofs.tables.names_inside.Given as goal

abbrev pub invariant-loop-part : goal.invariant-loop-part
invariant-loop-part l = Paired l.inside (take l.part-index l.parts)
