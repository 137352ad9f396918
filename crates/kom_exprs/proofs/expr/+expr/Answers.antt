use Rattle.std.proofs.Common.{◌-◌, sym, ◌∙◌, ap, arith}
use Rattle.std.proofs.lemmas.Result.{err_from_is_err_and}
use Rattle.kom_parse.specs.Input.{Read}
use Rattle.kom_parse.proofs.Laws.{loop_refuses, loop_stops}
use Rattle.kom_exprs.specs.Reading.{operation, parens_at, level}
use Rattle.kom_exprs.proofs.Steps.{turn_ends, turn_goes}
use Rattle.kom_exprs.proofs.ExprSteps.{unary_sees_parens, level_goes, chain_turns, unary_takes_operand}
use Rattle.kom_exprs.proofs.expr.+expr.Goals as goal

pub chain-returns-in_err-longer-clause-reads : goal.chain-returns-in_err-longer-clause-reads
chain-returns-in_err-longer-clause-reads t c = let p = err_from_is_err_and c.from_residual.result c.from_residual.ensures.1 in rw (p.1, p.2) (λ is. sym c.loop-longer.invariant.0 ∙ loop_refuses _ _ _ _ (c.in_err-longer.ensures.reads is))

pub chain-returns-then-not-more-clause-reads : goal.chain-returns-then-not-more-clause-reads
chain-returns-then-not-more-clause-reads t c =
    let e = turn_ends (operation (parens_at c.args.parens) c.args.level (level (parens_at c.args.parens) (c.args.level - 1)) (c.loop-longer.left, c.loop-longer.operators) c.loop-longer.reader) (c.loop-longer.left, c.loop-longer.operators) c.in_ok-longer.longer c.operation.new.operators c.operation.new.reader c.in_ok-longer.more c.if-not-more.true c.in_ok-longer.ensures.reads in
    sym c.loop-longer.invariant.0 ∙ loop_stops _ _ _ _ e.0 ∙ ap (λ x. Read x c.operation.new.reader) e.1

pub chain-loop-longer-preserved : goal.chain-loop-longer-preserved
chain-loop-longer-preserved t c =
    let e = turn_goes (operation (parens_at c.args.parens) c.args.level (level (parens_at c.args.parens) (c.args.level - 1)) (c.loop-longer.left, c.loop-longer.operators) c.loop-longer.reader) (c.loop-longer.left, c.loop-longer.operators) c.in_ok-longer.longer c.operation.new.operators c.operation.new.reader c.in_ok-longer.more c.if-not-more.false c.in_ok-longer.ensures.reads in
    (sym (chain_turns _ _ c.requires.least c.requires.most c.requires.chains _ _ _ _ e) ∙ c.loop-longer.invariant.0, omega (arith, c.loop-longer.invariant.1, c.in_ok-longer.ensures.fewer))

pub read_level-returns-else-level-eq-COMPARISON-clause-reads : goal.read_level-returns-else-level-eq-COMPARISON-clause-reads
read_level-returns-else-level-eq-COMPARISON-clause-reads t c =
    rw (level_goes _ _ _ _ _ _ c.if-level-eq0.false c.if-level-eq-COMPARISON.false c.in_ok-left.ensures.reads) c.chain.ensures.reads

pub unary-returns-then-sees-clause-reads : goal.unary-returns-then-sees-clause-reads
unary-returns-then-sees-clause-reads t c = rw (unary_sees_parens _ _ _ (sym c.if-sees.ensures)) c.in_parens.ensures.reads

pub unary-returns-clause-reads : goal.unary-returns-clause-reads
unary-returns-clause-reads t c = unary_takes_operand (parens_at c.args.parens) c.args.operators.now c.args.reader.now c.operand.result c.operand.new.reader (sym (c.if-sees.ensures {u = tt})) (rw (← c.next_unary.ensures) (sym (c.if-is_some.ensures {u = tt}))) c.operand.ensures
