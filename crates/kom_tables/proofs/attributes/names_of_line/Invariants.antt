use Rattle.std.proofs.Common.{◌≡◌, take}
use Rattle.kom_tables.specs.Ancestry.{names_along}
use Rattle.kom_tables.proofs.attributes.names_of_line.Given as goal

abbrev pub invariant-loop-kind : goal.invariant-loop-kind
invariant-loop-kind l = l.names ≡ names_along l.own (take l.kind-index l.line)
