use Rattle.std.proofs.Common.{◌≡◌, sym, ap, ◌∙◌}
use Rattle.kom_env.specs.Outside.{due_of, earlier_of}
use Rattle.kom_env.proofs.Pending.{due_is}
use Rattle.kom_env.proofs.env.Env.next_due.Goals as goal

pub returns : goal.returns
returns c =
    let i = c.self.inside in
    c.earlier.ensures ∙ ap (λ a. earlier_of a c.first_due.result) c.next_time.ensures ∙ ap (earlier_of _) c.first_due.ensures ∙ sym (due_is i.last i.calendar.0 i.agenda.0) ∙ ap due_of c.self.view_is
