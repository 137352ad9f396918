use Rattle.std.proofs.Common.{sym, ◌∙◌}
use Rattle.std.proofs.lemmas.Result.{err_from_is_err_and}
use Rattle.kom_parse.proofs.ListSteps.{list_refuses, commas_refuse, commas_turn, commas_shorter}
use Rattle.kom_stmts.proofs.lists.list.Goals as goal

pub returns-in_err-read : goal.returns-in_err-read
returns-in_err-read g c =
    let p = err_from_is_err_and c.from_residual.result c.from_residual.ensures.1 in
    rw (p.1, p.2) (λ is. list_refuses _ _ _ (sym c.if-sees.ensures) (c.in_err-read.ensures is))

pub returns-in_err-read-2 : goal.returns-in_err-read-2
returns-in_err-read-2 g c =
    let p = err_from_is_err_and c.from_residual-in_err-read-2.result c.from_residual-in_err-read-2.ensures.1 in
    rw (p.1, p.2) (λ is. c.loop-items.invariant ∙ commas_refuse _ _ _ _ _ c.loop-items-test.ensures (c.in_err-read-2.ensures is))

pub loop-items-smaller : goal.loop-items-smaller
loop-items-smaller g c = commas_shorter g.T.Listed.rule g.T.Listed.spells g.met.T.Listed.exact _ _ _ _ c.loop-items-test.ensures c.in_ok-read-2.ensures

pub loop-items-preserved : goal.loop-items-preserved
loop-items-preserved g c =
    rw c.in_ok-push-2.ensures.ok (c.loop-items.invariant
    ∙ commas_turn g.T.Listed.rule g.T.Listed.spells g.met.T.Listed.exact _ _ _ _ _ c.loop-items-test.ensures c.in_ok-read-2.ensures)
