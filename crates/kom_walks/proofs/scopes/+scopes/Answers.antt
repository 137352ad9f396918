use Rattle.std.proofs.Common.{◌∙◌, ap, take, ◌-◌}
use Rattle.kom_system.specs.declared.parts.StmtPart.{out-StmtPart}
use Rattle.kom_system.specs.declared.parts.StmtPart.TheVariants as st
use Rattle.kom_rules.specs.Names.{earlier}
use Rattle.kom_rules.specs.Walks.{Standing, standing, after}
use Rattle.kom_walks.proofs.Blocks.{if_first, while_first, row_more_in, scope_back, afters_more}
use Rattle.kom_walks.proofs.scopes.+scopes.Goals as goal

pub first_in_else-returns-in-Some-clause-first : goal.first_in_else-returns-in-Some-clause-first
first_in_else-returns-in-Some-clause-first g t c = rw c.in-Some.is (rw c.as_slice.ensures at c.first_in_scope.ensures.first)

pub first_in_scope-loop-stmt-preserved : goal.first_in_scope-loop-stmt-preserved
first_in_scope-loop-stmt-preserved g t c = (
  afters_more c.args.scope.now c.loop-stmt.scope c.enter.new.scope c.args.block.now c.loop-stmt.stmt-index c.stmt-item.result c.loop-stmt-test.true c.stmt-item.is c.loop-stmt.invariant.0
      (c.in_ok-enter.ensures ∙ ap (λ s. after s (out-StmtPart c.stmt-item.result)) c.in_ok-now.ensures.same_scope),
  c.earlier-first.ensures ∙ row_more_in (λ (x : Standing). g.S.InScope.of c.args.says.now x.scope x.stmt) (standing (c.args.levels - 1)) c.args.scope.now c.loop-stmt.scope c.args.block.now c.loop-stmt.stmt-index c.stmt-item.result c.loop-stmt.first c.in_ok-now.now
      c.loop-stmt-test.true c.stmt-item.is c.loop-stmt.invariant.0 c.loop-stmt.invariant.1 c.in_ok-now.ensures.first,
)

pub first_in_scope-returns-clause-same_scope : goal.first_in_scope-returns-clause-same_scope
first_in_scope-returns-clause-same_scope g t c =
    c.truncate.ensures ∙ ap (λ n. take n c.loop-stmt.scope) c.len-count.ensures ∙ scope_back c.args.scope.now c.loop-stmt.scope (take c.loop-stmt.stmt-index c.args.block.now) c.loop-stmt.invariant.0

pub first_with_inside-returns-in_ok-otherwise-in-If-clause-first : goal.first_with_inside-returns-in_ok-otherwise-in-If-clause-first
first_with_inside-returns-in_ok-otherwise-in-If-clause-first g t c =
    c.earlier-in-If.ensures ∙ ap (earlier _) c.earlier.ensures
    ∙ if_first _ _ c.args.levels c.args.scope.now c.in-If.test c.in-If.block c.in-If.other _ _ _ (ap out-StmtPart c.in-If.is ∙ st.outs-If _ _ _) c.first_standing-own.ensures
    (rw c.as_slice.ensures at c.in_ok-then-in-If.ensures.first) (rw c.in_ok-then-in-If.ensures.same_scope at c.in_ok-otherwise-in-If.ensures.first)

pub first_with_inside-returns-in_ok-body-in-While-clause-first : goal.first_with_inside-returns-in_ok-body-in-While-clause-first
first_with_inside-returns-in_ok-body-in-While-clause-first g t c =
    c.earlier-in-While.ensures ∙ while_first _ _ c.args.levels c.args.scope.now c.in-While.test c.in-While.block _ _ (ap out-StmtPart c.in-While.is ∙ st.outs-While _ _) c.first_standing-own.ensures
    (rw c.as_slice-in-While.ensures at c.in_ok-body-in-While.ensures.first)
