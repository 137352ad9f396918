use Rattle.std.proofs.Common.{◌≡◌, ◌∙◌, ap, arith}
use Rattle.kom_system.specs.declared.parts.StmtPart.{out-StmtPart}
use Rattle.kom_system.specs.declared.parts.StmtPart.TheVariants as st
use Rattle.kom_rules.specs.Names.{earlier}
use Rattle.kom_walks.proofs.Blocks.{if_first, while_first, row_more, row_whole, first_in}
use Rattle.kom_walks.specs.Else.{else_of}
use Rattle.kom_walks.proofs.statements.+statements.Goals as goal
use Rattle.kom_walks.proofs.statements.+statements.Goals.{first_in_statement-in-Some, first_in_statement-in-None}

pub first_in_block-loop-stmt-preserved : goal.first_in_block-loop-stmt-preserved
first_in_block-loop-stmt-preserved g t c scope =
    c.earlier-first.ensures ∙ row_more _ _ scope _ _ c.stmt-item.result _ _ c.loop-stmt-test.true c.stmt-item.is (c.loop-stmt.invariant scope) (c.first_in_statement.ensures _)

pub first_in_block-returns : goal.first_in_block-returns
first_in_block-returns g t c scope =
    row_whole _ _ scope _ c.loop-stmt.stmt-index _ (omega (arith, c.if-levels-eq0.false)) c.loop-stmt-test.false (c.loop-stmt.invariant scope)

pub first_in_statement-returns-after-other : goal.first_in_statement-returns-after-other
first_in_statement-returns-after-other g t c scope =
    let otherwise : c.match-other.otherwise ≡ first_in _ (else_of c.args.levels scope c.in-If.other) = elim c.match-other.branch [
      | first_in_statement-in-Some w ↦ rw w.in-Some.is (w.otherwise-is ∙ (rw w.as_slice-in-Some.ensures at (w.first_in_block-otherwise.ensures scope)))
      | first_in_statement-in-None w ↦ rw w.in-None.is w.otherwise-is
    ] in
    c.earlier-in-If.ensures ∙ ap (earlier _) c.earlier.ensures
    ∙ if_first _ _ c.args.levels scope c.in-If.test c.in-If.block c.in-If.other _ _ _ (ap out-StmtPart c.in-If.is ∙ st.outs-If _ _ _) c.first_of_statement-own.ensures (rw c.as_slice.ensures at (c.first_in_block-then.ensures scope)) otherwise

pub first_in_statement-returns-in-While : goal.first_in_statement-returns-in-While
first_in_statement-returns-in-While g t c scope =
    c.earlier-in-While.ensures ∙ while_first _ _ c.args.levels scope c.in-While.test c.in-While.block _ _ (ap out-StmtPart c.in-While.is ∙ st.outs-While _ _) c.first_of_statement-own.ensures (rw c.as_slice-in-While.ensures at (c.first_in_block.ensures scope))
