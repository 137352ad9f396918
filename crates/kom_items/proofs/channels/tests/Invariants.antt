use Rattle.std.proofs.Common.{◌≡◌, length}
use Rattle.kom_parse.specs.Input.{loop}
use Rattle.kom_parse.specs.Rules.{more}
use Rattle.kom_items.specs.Reading.{is_and, test, tests}
use Rattle.kom_items.proofs.channels.tests.Given as goal

abbrev pub invariant-loop-tests : goal.invariant-loop-tests
invariant-loop-tests l = tests l.two l.fn.reader ≡ loop (more (is_and l.two) test) l.tests l.reader

abbrev pub decreases-loop-tests : goal.decreases-loop-tests
decreases-loop-tests l = length l.reader
