use Rattle.std.proofs.Common.{◌≡◌, length}
use Rattle.kom_parse.specs.Input.{loop}
use Rattle.kom_parse.specs.Rules.{list, more, is_comma}
use Rattle.kom_exprs.specs.Reading.{int}
use Rattle.kom_items.proofs.children.ints.Given as goal

abbrev pub invariant-loop-ints : goal.invariant-loop-ints
invariant-loop-ints l = list int l.fn.reader ≡ loop (more is_comma int) l.ints l.reader

abbrev pub decreases-loop-ints : goal.decreases-loop-ints
decreases-loop-ints l = length l.reader
