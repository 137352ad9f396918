use Rattle.std.proofs.Common.{◌≡◌, length}
use Rattle.kom_parse.specs.Input.{loop}
use Rattle.kom_parse.specs.Rules.{list, more, is_comma}
use Rattle.kom_stmts.proofs.lists.list.Given as goal

abbrev pub invariant-loop-items : goal.invariant-loop-items
invariant-loop-items g l = list g.T.Listed.rule l.fn.reader ≡ loop (more is_comma g.T.Listed.rule) l.items l.reader

abbrev pub decreases-loop-items : goal.decreases-loop-items
decreases-loop-items g l = length l.reader
