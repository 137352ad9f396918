use Rattle.std.proofs.Common.{◌≡◌, length}
use Rattle.kom_parse.specs.Input.{loop}
use Rattle.kom_parse.specs.Rules.{list, more, is_comma}
use Rattle.kom_scengram.specs.Reading.{arg_rule}
use Rattle.kom_scengram.proofs.args.list.Given as goal

abbrev pub invariant-loop-items : goal.invariant-loop-items
invariant-loop-items l = list arg_rule l.fn.reader ≡ loop (more is_comma arg_rule) l.items l.reader

abbrev pub decreases-loop-items : goal.decreases-loop-items
decreases-loop-items l = length l.reader
