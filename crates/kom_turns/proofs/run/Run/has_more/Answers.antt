use Rattle.std.proofs.Common.{sym, ap, ◌∙◌}
use Rattle.std.specs.Prelude.{is_some}
use Rattle.kom_turns.proofs.Standing.{said, same_test}
use Rattle.kom_turns.proofs.Leaving.{more_by_runnable, more_by_due}
use Rattle.kom_turns.proofs.run.Run.has_more.Goals as goal

pub returns-in-Some : goal.returns-in-Some
returns-in-Some c = let v = c.args.self.now in sym (said _ c.requires (λ s. more_by_runnable v s c.in-Some.field-0 c.in-Some.ensures.least))

pub returns-in-None : goal.returns-in-None
returns-in-None c =
    let v = c.args.self.now in
    c.is_some.ensures ∙ ap is_some c.next_due.ensures ∙ same_test _ _ c.requires (λ s. more_by_due v s c.in-None.ensures.least c.tells_what_is_pending.ensures)
