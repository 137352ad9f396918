use Rattle.std.proofs.Common.{rules, Ok, Err, ◌+◌, ◌≡◌, ◌∷◌, ◌++◌, [], map, true, false, nat_le, sym, ap, ◌∙◌, arith, drop, length}
use Rattle.kom_lang.specs.declared.stmt.Stmt.{out-Stmt}
use Rattle.kom_lang.specs.declared.stmt.Stmt.TheVariants as stmt
use Rattle.kom_lang.specs.declared.stmt.Stmt.TheViews.{the_lemmas}
use Rattle.kom_lang.specs.Steps.{Do, EndBlock}
use Rattle.kom_values.specs.declared.stop.Stop.TheVariants.{Fault}
use Rattle.kom_steps.specs.Handlings.{context_of}
use Rattle.kom_steps.proofs.Fits.{fits_member, fits_then, fits_else, fits_while, fits_fail}
use Rattle.kom_steps.proofs.Steps.{then, then_runs, does, stops, if_then, if_else, while_faults, loop_past, loop_turn, loop_ends, left, drop_next, drop_end}
use Rattle.kom_steps.proofs.run.+run.Goals as goal

-- ---- blocks

pub run_block-returns-in_err-run_statements-clause-steps : goal.run_block-returns-in_err-run_statements-clause-steps
run_block-returns-in_err-run_statements-clause-steps t c rest =
    let later = EndBlock (length c.args.handling.now.scope) ∷ rest in
    stops _ _ later rest c.run_statements.new.handling _ _ c.in_err-run_statements.field-0.0 c.from_residual.ensures.1 (c.in_err-run_statements.ensures.steps later)

pub run_block-returns-clause-steps : goal.run_block-returns-clause-steps
run_block-returns-clause-steps t c rest =
    rw c.truncate.ensures (rw c.len-names.ensures (then_runs (c.in_ok-run_statements.ensures.steps (EndBlock (length c.args.handling.now.scope) ∷ rest)) (left _ _ rest _)))

-- ---- what stands in a statement

pub run_statement-run_block-requires : goal.run_statement-run_block-requires
run_statement-run_block-requires t c = (search (rules, the_lemmas), rw c.as_slice.ensures (fits_then _ _ _ _ c.in-If.is c.requires))

pub run_statement-run_block-requires-in-Some : goal.run_statement-run_block-requires-in-Some
run_statement-run_block-requires-in-Some t c = (search (rules, the_lemmas), rw c.as_slice-in-Some.ensures (fits_else _ _ _ _ (rw c.in-Some.is at c.in-If.is) c.requires))

pub run_statement-run_block-requires-in-loop-handling : goal.run_statement-run_block-requires-in-loop-handling
run_statement-run_block-requires-in-loop-handling t c = (search (rules, the_lemmas), rw c.as_slice-in-loop-handling.ensures (fits_while _ _ _ c.in-While.is c.requires))

pub run_statements-run_statement-requires : goal.run_statements-run_statement-requires
run_statements-run_statement-requires t c = (search (rules, the_lemmas), fits_member _ _ _ c.loop-statement-test.true c.statement-item.is c.requires)

pub run_statement-overflow_add-result : goal.run_statement-overflow_add-result
run_statement-overflow_add-result t c = omega (arith, fits_fail _ _ c.in-Fail.is c.requires)

-- ---- loops

pub run_statement-returns-in_err-holds-in-While-clause-steps : goal.run_statement-returns-in_err-holds-in-While-clause-steps
run_statement-returns-in_err-holds-in-While-clause-steps t c rest =
    stops _ _ rest rest c.loop-handling.handling _ _ (Fault c.in_err-holds-in-While.field-0.0) c.from_residual-in_err-holds-in-While.ensures.1
    (then_runs (c.loop-handling.invariant.steps rest) (while_faults _ _ _ _ rest _ _ c.in-While.is c.in_err-holds-in-While.ensures))

pub run_statement-returns-then-handling-ge-MAX_TURNS-clause-steps : goal.run_statement-returns-then-handling-ge-MAX_TURNS-clause-steps
run_statement-returns-then-handling-ge-MAX_TURNS-clause-steps t c rest =
    let many : nat_le 10000 c.loop-handling.handling.turns ≡ true = search rules in
    then_runs (c.loop-handling.invariant.steps rest) (loop_ends _ _ _ _ rest _ c.in-While.is (ap Ok (sym c.if-branch-2.true) ∙ c.in_ok-holds-in-While.ensures) many)

pub run_statement-loop-handling-preserved : goal.run_statement-loop-handling-preserved
run_statement-loop-handling-preserved t c =
    let few : nat_le 10000 c.loop-handling.handling.turns ≡ false = search rules in
    record {
      steps = λ rest. then_runs (c.loop-handling.invariant.steps rest)
          (then_runs (loop_turn _ _ _ _ rest _ c.in-While.is (ap Ok (sym c.if-branch-2.true) ∙ c.in_ok-holds-in-While.ensures) few)
          (rw c.as_slice-in-loop-handling.ensures at (c.in_ok-run_block-in-While.ensures.steps (Do c.args.statement.now ∷ rest))));
      turns = omega (arith, c.loop-handling.invariant.turns, c.in_ok-run_block-in-While.ensures.turns);
    }

pub run_statement-returns-in_err-run_block-in-While-clause-steps : goal.run_statement-returns-in_err-run_block-in-While-clause-steps
run_statement-returns-in_err-run_block-in-While-clause-steps t c rest =
    let few : nat_le 10000 c.loop-handling.handling.turns ≡ false = search rules in
    let is = c.in-While.is ∙ ap (stmt.While c.in-While.test) (sym c.as_slice-in-loop-handling.ensures) in
    let later = Do c.args.statement.now ∷ rest in
    let mid = c.run_block-in-loop-handling.new.handling in
    let stop = c.in_err-run_block-in-While.field-0.0 in
    stops _ _ later rest mid _ _ stop c.from_residual-in_err-run_block-in-While.ensures.1
    (then later mid (Err stop) (c.loop-handling.invariant.steps rest)
    (then later mid (Err stop) (loop_turn _ _ _ _ rest _ is (ap Ok (sym c.if-branch-2.true) ∙ c.in_ok-holds-in-While.ensures) few)
    (c.in_err-run_block-in-While.ensures.steps later)))

pub run_statement-returns-else-branch-2-clause-steps : goal.run_statement-returns-else-branch-2-clause-steps
run_statement-returns-else-branch-2-clause-steps t c rest =
    then_runs (c.loop-handling.invariant.steps rest) (loop_past _ _ _ _ rest _ c.in-While.is (ap Ok (sym c.if-branch-2.false) ∙ c.in_ok-holds-in-While.ensures))

-- ---- `if`

pub run_statement-returns-then-branch-clause-steps : goal.run_statement-returns-then-branch-clause-steps
run_statement-returns-then-branch-clause-steps t c rest =
    then rest _ _ (if_then _ _ _ _ _ rest _ c.in-If.is (ap Ok (sym c.if-branch.true) ∙ c.in_ok-holds-in-If.ensures))
    (rw c.as_slice.ensures at (c.run_block.ensures.steps rest))

pub run_statement-returns-in-Some-clause-steps : goal.run_statement-returns-in-Some-clause-steps
run_statement-returns-in-Some-clause-steps t c rest =
    then rest _ _ (if_else _ _ _ _ _ rest _ (rw c.in-Some.is at c.in-If.is) (ap Ok (sym c.if-branch.false) ∙ c.in_ok-holds-in-If.ensures))
    (rw c.as_slice-in-Some.ensures at (c.run_block-in-Some.ensures.steps rest))

-- ---- statements of a block

pub run_statements-returns-in_err-run_statement-clause-steps : goal.run_statements-returns-in_err-run_statement-clause-steps
run_statements-returns-in_err-run_statement-clause-steps t c rest =
    let later = map Do (drop (c.loop-statement.statement-index + 1) c.args.block.now) ++ rest in
    let mid = c.run_statement.new.handling in
    let stop = c.in_err-run_statement.field-0.0 in
    stops _ _ later rest mid _ _ stop c.from_residual.ensures.1
    (then later mid (Err stop) (rw (drop_next _ _ _ c.loop-statement-test.true c.statement-item.is) at (c.loop-statement.invariant.steps rest)) (c.in_err-run_statement.ensures.steps later))

pub run_statements-loop-statement-preserved : goal.run_statements-loop-statement-preserved
run_statements-loop-statement-preserved t c = record {
  steps = λ rest. then_runs (rw (drop_next _ _ _ c.loop-statement-test.true c.statement-item.is) at (c.loop-statement.invariant.steps rest)) (c.in_ok-run_statement.ensures.steps _);
  turns = omega (arith, c.loop-statement.invariant.turns, c.in_ok-run_statement.ensures.turns);
}

pub run_statements-returns-clause-steps : goal.run_statements-returns-clause-steps
run_statements-returns-clause-steps t c rest = rw (drop_end c.args.block.now c.loop-statement.statement-index (omega (arith, c.loop-statement-test.false))) at (c.loop-statement.invariant.steps rest)

-- ---- statements of one step

pub run_statement-returns-in-Let-clause-steps : goal.run_statement-returns-in-Let-clause-steps
run_statement-returns-in-Let-clause-steps t c rest = does _ _ _ rest _ _ _ (ap out-Stmt c.in-Let.is ∙ stmt.outs-Let _ _) (c.declare.ensures.step [])

pub run_statement-returns-in-SetVar-clause-steps : goal.run_statement-returns-in-SetVar-clause-steps
run_statement-returns-in-SetVar-clause-steps t c rest = does _ _ _ rest _ _ _ (ap out-Stmt c.in-SetVar.is ∙ stmt.outs-SetVar _ _) (c.assign_variable.ensures.step)

pub run_statement-returns-in-SetLocal-clause-steps : goal.run_statement-returns-in-SetLocal-clause-steps
run_statement-returns-in-SetLocal-clause-steps t c rest = does _ _ _ rest _ _ _ (ap out-Stmt c.in-SetLocal.is ∙ stmt.outs-SetLocal _ _) (c.assign_name.ensures.step)

pub run_statement-returns-in-Trigger-clause-steps : goal.run_statement-returns-in-Trigger-clause-steps
run_statement-returns-in-Trigger-clause-steps t c rest = does _ _ _ rest _ _ _ (ap out-Stmt c.in-Trigger.is ∙ stmt.outs-Trigger _ _ _) (c.trigger.ensures.step)

pub run_statement-returns-in-Answer-clause-steps : goal.run_statement-returns-in-Answer-clause-steps
run_statement-returns-in-Answer-clause-steps t c rest = does _ _ _ rest _ _ _ (ap out-Stmt c.in-Answer.is ∙ stmt.outs-Answer _ _) (c.answer.ensures.step)

pub run_statement-returns-in-Create-clause-steps : goal.run_statement-returns-in-Create-clause-steps
run_statement-returns-in-Create-clause-steps t c rest = does _ _ _ rest _ _ _ (ap out-Stmt c.in-Create.is ∙ stmt.outs-Create _ _ _) (c.create.ensures.step)

pub run_statement-returns-in-CreateFromState-clause-steps : goal.run_statement-returns-in-CreateFromState-clause-steps
run_statement-returns-in-CreateFromState-clause-steps t c rest = does _ _ _ rest _ _ _ (ap out-Stmt c.in-CreateFromState.is ∙ stmt.outs-CreateFromState _ _) (c.create_from_state.ensures.step)

pub run_statement-returns-in-Start-clause-steps : goal.run_statement-returns-in-Start-clause-steps
run_statement-returns-in-Start-clause-steps t c rest = does _ _ _ rest _ _ _ (ap out-Stmt c.in-Start.is ∙ stmt.outs-Start _) ((λ later s. c.tell_child.ensures.step later))

pub run_statement-returns-in-Stop-clause-steps : goal.run_statement-returns-in-Stop-clause-steps
run_statement-returns-in-Stop-clause-steps t c rest = does _ _ _ rest _ _ _ (ap out-Stmt c.in-Stop.is ∙ stmt.outs-Stop _) ((λ later s. c.tell_child-in-Stop.ensures.step later))

pub run_statement-returns-in-Destroy-clause-steps : goal.run_statement-returns-in-Destroy-clause-steps
run_statement-returns-in-Destroy-clause-steps t c rest = does _ _ _ rest _ _ _ (ap out-Stmt c.in-Destroy.is ∙ stmt.outs-Destroy _) (c.destroy.ensures.step (context_of c.args.setting.now))

pub run_statement-returns-in-Dump-clause-steps : goal.run_statement-returns-in-Dump-clause-steps
run_statement-returns-in-Dump-clause-steps t c rest = does _ _ _ rest _ _ _ (ap out-Stmt c.in-Dump.is ∙ stmt.outs-Dump _) ((λ later s. c.tell_child-in-Dump.ensures.step later))

pub run_statement-returns-in-Hold-clause-steps : goal.run_statement-returns-in-Hold-clause-steps
run_statement-returns-in-Hold-clause-steps t c rest = does _ _ _ rest _ _ _ (ap out-Stmt c.in-Hold.is ∙ stmt.outs-Hold _) (c.hold.ensures.step (context_of c.args.setting.now))

pub run_statement-returns-in-Resume-clause-steps : goal.run_statement-returns-in-Resume-clause-steps
run_statement-returns-in-Resume-clause-steps t c rest = does _ _ _ rest _ _ _ (ap out-Stmt c.in-Resume.is ∙ stmt.outs-Resume _) (c.resume.ensures.step (context_of c.args.setting.now))

pub run_statement-returns-in-Unplug-clause-steps : goal.run_statement-returns-in-Unplug-clause-steps
run_statement-returns-in-Unplug-clause-steps t c rest = does _ _ _ rest _ _ _ (ap out-Stmt c.in-Unplug.is ∙ stmt.outs-Unplug _ _) (c.unplug.ensures.step (context_of c.args.setting.now))

pub run_statement-returns-in-Plug-clause-steps : goal.run_statement-returns-in-Plug-clause-steps
run_statement-returns-in-Plug-clause-steps t c rest = does _ _ _ rest _ _ _ (ap out-Stmt c.in-Plug.is ∙ stmt.outs-Plug _ _ _) (c.plug.ensures.step)

pub run_statement-returns-in-Subscribe-clause-steps : goal.run_statement-returns-in-Subscribe-clause-steps
run_statement-returns-in-Subscribe-clause-steps t c rest = does _ _ _ rest _ _ _ (ap out-Stmt c.in-Subscribe.is ∙ stmt.outs-Subscribe _) (c.subscribe.ensures.step (context_of c.args.setting.now))

pub run_statement-returns-in-Unsubscribe-clause-steps : goal.run_statement-returns-in-Unsubscribe-clause-steps
run_statement-returns-in-Unsubscribe-clause-steps t c rest = does _ _ _ rest _ _ _ (ap out-Stmt c.in-Unsubscribe.is ∙ stmt.outs-Unsubscribe _) (c.unsubscribe.ensures.step (context_of c.args.setting.now))

pub run_statement-returns-in-Escalate-clause-steps : goal.run_statement-returns-in-Escalate-clause-steps
run_statement-returns-in-Escalate-clause-steps t c rest = does _ _ _ rest _ _ _ (ap out-Stmt c.in-Escalate.is ∙ stmt.outs-Escalate) (c.escalate.ensures.step (context_of c.args.setting.now))
