use Rattle.std.proofs.Common.{◌≤◌, ◌-◌, List, ◌∷◌, ◌++◌, map, drop}
use Rattle.kom_lang.specs.Steps.{Task, Do, Running, Runs}
use Rattle.kom_steps.specs.Handlings.{context_of, config}
use Rattle.kom_steps.proofs.run.+run.Given as goal

abbrev pub invariant-run_statement-loop-handling : goal.invariant-run_statement-loop-handling
invariant-run_statement-loop-handling l = record {
  steps : (rest : List Task) → Runs (context_of l.setting) (config (Do l.fn.statement ∷ rest) l.fn.handling) (Running (config (Do l.fn.statement ∷ rest) l.handling));
  turns : l.fn.handling.turns ≤ l.handling.turns;
}

abbrev pub decreases-run_statement-loop-handling : goal.decreases-run_statement-loop-handling
decreases-run_statement-loop-handling l = 10000 - l.handling.turns

abbrev pub invariant-run_statements-loop-statement : goal.invariant-run_statements-loop-statement
invariant-run_statements-loop-statement l = record {
  steps : (rest : List Task) → Runs (context_of l.setting) (config (map Do l.fn.block ++ rest) l.fn.handling) (Running (config (map Do (drop l.statement-index l.block) ++ rest) l.handling));
  turns : l.fn.handling.turns ≤ l.handling.turns;
}
