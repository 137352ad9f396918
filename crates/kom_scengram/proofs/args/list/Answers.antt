use Rattle.std.proofs.Common.{sym, ◌∙◌}
use Rattle.std.proofs.lemmas.Result.{err_from_is_err_and}
use Rattle.kom_parse.proofs.ListSteps.{list_refuses, commas_refuse}
use Rattle.kom_scengram.proofs.args.list.Goals as goal

pub returns-in_err-arg : goal.returns-in_err-arg
returns-in_err-arg c =
    let p = err_from_is_err_and c.from_residual.result c.from_residual.ensures.1 in
    rw (p.1, p.2) (λ is. list_refuses _ _ _ (sym c.if-sees.ensures) (c.in_err-arg.ensures is))

pub returns-in_err-arg-2 : goal.returns-in_err-arg-2
returns-in_err-arg-2 c =
    let p = err_from_is_err_and c.from_residual-in_err-arg-2.result c.from_residual-in_err-arg-2.ensures.1 in
    rw (p.1, p.2) (λ is. c.loop-items.invariant ∙ commas_refuse _ _ _ _ _ c.loop-items-test.ensures (c.in_err-arg-2.ensures is))
