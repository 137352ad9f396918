use Rattle.std.proofs.Common.{◌≡◌, ◌≤◌, ◌+◌, ◌-◌, ◌*◌}
use Rattle.kom_parse.specs.Input.{loop}
use Rattle.kom_exprs.specs.Reading as spec
use Rattle.kom_exprs.proofs.expr.+expr.Given as goal

abbrev pub decreases-chain : goal.decreases-chain
decreases-chain l = 600 * l.parens + l.operators.now + 3 * l.level + 301

abbrev pub decreases-read_level : goal.decreases-read_level
decreases-read_level l = 600 * l.parens + l.operators.now + 3 * l.level + 302

abbrev pub decreases-operation : goal.decreases-operation
decreases-operation l = 600 * l.parens + l.operators.now + 3 * l.level + 300

abbrev pub decreases-in_parens : goal.decreases-in_parens
decreases-in_parens l = 600 * l.parens + l.operators.now

abbrev pub decreases-unary : goal.decreases-unary
decreases-unary l = 600 * l.parens + l.operators.now + 1

abbrev pub invariant-chain-loop-longer : goal.invariant-chain-loop-longer
invariant-chain-loop-longer l =
    let turn = spec.operation (spec.parens_at l.parens) l.level (spec.level (spec.parens_at l.parens) (l.level - 1)) in
    (loop turn (l.left, l.operators) l.reader ≡ loop turn (l.fn.left, l.fn.operators) l.fn.reader) × (l.operators ≤ l.fn.operators)

abbrev pub decreases-chain-loop-longer : goal.decreases-chain-loop-longer
decreases-chain-loop-longer l = l.operators
