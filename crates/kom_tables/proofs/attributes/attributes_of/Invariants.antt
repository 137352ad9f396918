use Rattle.std.proofs.Common.{◌≡◌, map, take}
use Rattle.kom_tables.specs.Ancestry.{names_along}
use Rattle.kom_tables.proofs.attributes.attributes_of.Given as goal

abbrev pub invariant-loop-line : goal.invariant-loop-line
invariant-loop-line l = l.table ≡ map (names_along l.own) (take l.line-index l.lines)
