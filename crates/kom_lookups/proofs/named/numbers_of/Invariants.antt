use Rattle.std.proofs.Common.{map, take}
use Rattle.kom_rules.specs.Names.{names_of}
use Rattle.kom_lookups.specs.Numbered.{HasNumbers}
use Rattle.kom_lookups.proofs.named.numbers_of.Given as goal

abbrev pub invariant-loop-i : goal.invariant-loop-i
invariant-loop-i g l = HasNumbers l.table (names_of (map g.T.Declares.named (take l.i l.parts)))
