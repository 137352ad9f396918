use Rattle.std.proofs.Common.{◌≡◌, ◌-◌, ◌+◌, ◌*◌, length}
use Rattle.kom_stmts.specs.Reading as spec
use Rattle.kom_stmts.proofs.stmt.+stmt.Given as goal

abbrev pub decreases-block : goal.decreases-block
decreases-block l = 4 * l.levels

abbrev pub decreases-else_part : goal.decreases-else_part
decreases-else_part l = 4 * l.levels + 1

abbrev pub decreases-if_stmt : goal.decreases-if_stmt
decreases-if_stmt l = 4 * l.levels + 2

abbrev pub decreases-statement : goal.decreases-statement
decreases-statement l = 4 * l.levels + 3

abbrev pub decreases-while_stmt : goal.decreases-while_stmt
decreases-while_stmt l = 4 * l.levels + 2

abbrev pub invariant-block-loop-block : goal.invariant-block-loop-block
invariant-block-loop-block l = spec.block l.two l.levels l.fn.reader ≡ spec.block_rest l.two (l.levels - 1) l.block l.reader

abbrev pub decreases-block-loop-block : goal.decreases-block-loop-block
decreases-block-loop-block l = length l.reader
