use Rattle.std.proofs.Common.{ap, List}
use Rattle.kom_lang.specs.Steps.{Task, Running}
use Rattle.kom_record.specs.Reaction.{parameters}
use Rattle.kom_steps.specs.Handlings.{config}
use Rattle.kom_eval.proofs.Handling.{one_task, no_task, got}
use Rattle.kom_eval.proofs.outcome.run_numbered.Goals as goal

pub run_handler-requires : goal.run_handler-requires
run_handler-requires c = rw c.as_slice.ensures (c.requires c.in-Some.handler.now (got _ _ _ c.in-Some.ensures.value))

pub returns-in-Some : goal.returns-in-Some
returns-in-Some c = λ rest.
    rw (one_task c.args.kind.now (parameters c.args.item.now) c.args.h c.in-Some.handler.now rest c.in-Some.ensures.value) (rw c.as_slice.ensures at (c.run_handler.ensures rest))

pub returns-in-None : goal.returns-in-None
returns-in-None c = λ rest.
    (0, ap (λ (ts : List Task). Running (config ts c.args.handling.now)) (no_task c.args.kind.now (parameters c.args.item.now) c.args.h rest c.in-None.ensures.value))
