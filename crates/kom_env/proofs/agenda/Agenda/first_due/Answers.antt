use Rattle.std.proofs.Common.{◌≡◌, ℕ, ltb, map, Option, Some, None, refl, sym, ap, ◌∙◌}
use Rattle.kom_base.specs.Lists.{least}
use Rattle.kom_base.specs.declared.numbers.EntryNo.{EntryNo}
use Rattle.kom_index.specs.Stock.{entries}
use Rattle.kom_env.specs.declared.agenda.Wait.{Wait}
use Rattle.kom_env.proofs.Finding.{first_due_is}
use Rattle.kom_env.proofs.agenda.Agenda.first_due.Goals as goal

pub returns-in-Some : goal.returns-in-Some
returns-in-Some c =
    let i = c.self.inside in
    let is = first_due_is i.waits.0 i.dues.0 c.self.invariant.rises c.self.invariant.bounded c.self.invariant.by_due (Some c.in-Some.due.now) c.in-Some.ensures.least in
    ap Some c.time_of.ensures ∙ sym is ∙ ap (λ m. least ltb (map (λ (e : EntryNo × Wait). e.1.due) (entries m))) c.self.view_is

pub returns-in-None : goal.returns-in-None
returns-in-None c =
    let i = c.self.inside in
    let is = first_due_is i.waits.0 i.dues.0 c.self.invariant.rises c.self.invariant.bounded c.self.invariant.by_due None c.in-None.ensures.least in
    sym is ∙ ap (λ m. least ltb (map (λ (e : EntryNo × Wait). e.1.due) (entries m))) c.self.view_is
