use Rattle.std.proofs.Common.{List, ◌++◌, drop}
use Rattle.kom_lang.specs.Steps.{Task, Running, Runs}
use Rattle.kom_record.specs.Reaction.{parameters}
use Rattle.kom_steps.specs.Handlings.{context_of, config}
use Rattle.kom_eval.specs.Handlers.{tasks}
use Rattle.kom_eval.proofs.outcome.run_handlers.Given as goal

abbrev pub invariant-loop-h : goal.invariant-loop-h
invariant-loop-h l = (rest : List Task) → Runs (context_of l.setting) (config (tasks l.kind (parameters l.item) l.fn.numbers ++ rest) l.fn.handling) (Running (config (tasks l.kind (parameters l.item) (drop l.h-index l.h-items) ++ rest) l.handling))
