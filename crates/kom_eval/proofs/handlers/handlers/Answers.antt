use Rattle.kom_eval.proofs.Handling.{init_handlers, other_handlers}
use Rattle.kom_eval.proofs.handlers.handlers.Goals as goal
use Rattle.std.proofs.Common.{sym, ◌∙◌}

pub returns-then-is_init : goal.returns-then-is_init
returns-then-is_init c =
    rw (init_handlers c.args.system.now.declarations c.args.body.now c.args.item.now (sym c.is_init.ensures ∙ c.if-is_init.true), ← c.kind-kind.ensures.value) c.numbers_of.ensures

pub returns-else-is_init : goal.returns-else-is_init
returns-else-is_init c =
    rw (other_handlers c.args.system.now.declarations c.args.body.now c.args.item.now (sym c.is_init.ensures ∙ c.if-is_init.false), ← c.kind-kind.ensures.value) c.subscribed.ensures
