use Rattle.std.proofs.Common.{◌≡◌, ◌-◌, ◌++◌}
use Rattle.kom_tables.specs.Ancestry.{line_up}
use Rattle.kom_tables.proofs.Ancestors.{rest_up}
use Rattle.kom_tables.proofs.lines.line_of.Given as goal

abbrev pub invariant-loop : goal.invariant-loop
invariant-loop l = l.line ++ rest_up (l.end - l.counter) l.parents l.next ≡ line_up l.end l.parents l.kind
