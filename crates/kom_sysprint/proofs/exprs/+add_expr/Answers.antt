use Rattle.std.proofs.Common.{◌++◌, ◌∙◌, ap}
use Rattle.kom_sysprint.specs.Canonical.{word}
use Rattle.kom_sysprint.proofs.Levels as level
use Rattle.kom_sysprint.proofs.exprs.+add_expr.Goals as goal

pub returns-in_ok-add-in-Neg-2 : goal.returns-in_ok-add-in-Neg-2
returns-in_ok-add-in-Neg-2 t c =
    level.neg c.args.setting.now.names.now c.args.setting.now.kind.now c.args.setting.now.on.now c.args.scope.now c.args.expr.now c.in-Neg.inner c.args.text.now c.add-in-Neg.new.self c.add_expr.new.text c.add-in-Neg-2.new.self c.in-Neg.is c.in_ok-add-in-Neg.ensures (rw c.get.ensures at c.in_ok-add_expr-in-Neg.ensures) c.in_ok-add-in-Neg-2.ensures

pub returns-in_ok-add-in-Not-2 : goal.returns-in_ok-add-in-Not-2
returns-in_ok-add-in-Not-2 t c =
    level.not c.args.setting.now.names.now c.args.setting.now.kind.now c.args.setting.now.on.now c.args.scope.now c.args.expr.now c.in-Not.inner c.args.text.now c.add-in-Not.new.self c.add_expr-in-Not.new.text c.add-in-Not-2.new.self c.in-Not.is c.in_ok-add-in-Not.ensures (rw c.get-in-Not.ensures at c.in_ok-add_expr-in-Not.ensures) c.in_ok-add-in-Not-2.ensures

pub returns-in_ok-add-in-Pair-2 : goal.returns-in_ok-add-in-Pair-2
returns-in_ok-add-in-Pair-2 t c =
    level.pair c.args.setting.now.names.now c.args.setting.now.kind.now c.args.setting.now.on.now c.args.scope.now c.in-Pair.op c.args.expr.now c.in-Pair.left c.in-Pair.right c.args.text.now c.add-in-Pair.new.self c.add_expr-in-Pair.new.text c.add_word-in-Pair.new.text c.add_expr-in-Pair-2.new.text c.add-in-Pair-2.new.self c.in-Pair.is c.in_ok-add-in-Pair.ensures
    (rw c.get-in-Pair.ensures at c.in_ok-add_expr-in-Pair.ensures) (c.in_ok-add_word-in-Pair.ensures ∙ ap (λ w. c.add_expr-in-Pair.new.text ++ word w) c.operator.ensures) (rw c.get-in-Pair-2.ensures at c.in_ok-add_expr-in-Pair-2.ensures) c.in_ok-add-in-Pair-2.ensures
