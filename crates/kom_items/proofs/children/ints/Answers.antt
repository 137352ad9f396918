use Rattle.std.proofs.Common.{sym, ◌∙◌}
use Rattle.std.proofs.lemmas.Result.{err_from_is_err_and}
use Rattle.kom_parse.proofs.ListSteps.{list_refuses, commas_refuse}
use Rattle.kom_items.proofs.children.ints.Goals as goal

pub returns-in_err-read_int : goal.returns-in_err-read_int
returns-in_err-read_int c =
    let p = err_from_is_err_and c.from_residual.result c.from_residual.ensures.1 in
    rw (p.1, p.2) (λ is. list_refuses _ _ _ (sym c.if-sees.ensures) (c.in_err-read_int.ensures.reads is))

pub returns-in_err-read_int-2 : goal.returns-in_err-read_int-2
returns-in_err-read_int-2 c =
    let p = err_from_is_err_and c.from_residual-in_err-read_int-2.result c.from_residual-in_err-read_int-2.ensures.1 in
    rw (p.1, p.2) (λ is. c.loop-ints.invariant ∙ commas_refuse _ _ _ _ _ c.loop-ints-test.ensures (c.in_err-read_int-2.ensures.reads is))
