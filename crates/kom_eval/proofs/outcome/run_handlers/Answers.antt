use Rattle.std.proofs.Common.{◌++◌, ◌+◌, drop, arith, Err}
use Rattle.kom_record.specs.Reaction.{parameters}
use Rattle.kom_steps.proofs.Steps.{then, then_runs, stops}
use Rattle.kom_eval.specs.Handlers.{tasks}
use Rattle.kom_eval.proofs.Handling.{next_tasks, drop_end}
use Rattle.kom_eval.proofs.outcome.run_handlers.Goals as goal

pub returns-in_err-run_numbered : goal.returns-in_err-run_numbered
returns-in_err-run_numbered c = λ rest.
    let ps = parameters c.args.item.now in
    let later = tasks c.args.kind.now ps (drop (c.loop-h.h-index + 1) c.as_slice-h-items.result.now) ++ rest in
    let mid = c.run_numbered.new.handling in
    let stop = c.in_err-run_numbered.field-0.0 in
    stops _ _ later rest mid _ _ stop c.from_residual.ensures.1
    (then later mid (Err stop) (rw (next_tasks c.args.kind.now ps _ _ rest c.loop-h-test.true) at (c.loop-h.invariant rest)) (c.in_err-run_numbered.ensures later))

pub loop-h-preserved : goal.loop-h-preserved
loop-h-preserved c = λ rest.
    then_runs (rw (next_tasks c.args.kind.now (parameters c.args.item.now) _ _ rest c.loop-h-test.true) at (c.loop-h.invariant rest)) (c.in_ok-run_numbered.ensures _)

pub returns : goal.returns
returns c = λ rest. rw (drop_end c.as_slice-h-items.result.now c.loop-h.h-index (omega (arith, c.loop-h-test.false))) at (c.loop-h.invariant rest)
