-- What the answer of `react` says.
use Rattle.std.specs.Prelude.{◌≡◌}
use Rattle.std.specs.Arc.{arc_value}
use Rattle.kom_record.specs.declared.job.Job.{Job}
use Rattle.kom_record.specs.Reaction.{Reacts}
use Rattle.kom_eval.specs.declared.outcome.Reacted.{Reacted}
use Rattle.kom_eval.specs.declared.outcome.Reacted.TheVariants.{Ran, Memory}

-- the job is the given one, and the outcome is the reaction of its body to its item
abbrev pub IsReaction : Job → Reacted → Type 0
IsReaction job (Ran ran) = (ran.job ≡ job) × ∥ Reacts (arc_value job.system).declarations job.body job.item ran.outcome ∥₁
IsReaction job (Memory given) = given ≡ job
