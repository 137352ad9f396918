use Rattle.std.proofs.Common.{◌≡◌, ℕ, Option, Some, None, refl, sym, ap, ◌∙◌, subst}
use Rattle.kom_index.specs.Stock.{entries}
use Rattle.kom_env.specs.declared.keys.Due.{Due}
use Rattle.kom_env.specs.Waiting.{is_due, IsOneOf}
use Rattle.kom_env.proofs.Finding.{none_due, one_due}
use Rattle.kom_env.proofs.agenda.Agenda.first_at.Goals as goal

pub returns-in-Some-clause-found : goal.returns-in-Some-clause-found
returns-in-Some-clause-found c =
    let i = c.self.inside in
    let v = c.self.invariant in
    subst (λ m. IsOneOf (is_due c.args.time) (entries m) (Some c.in-Some.due.now.no)) c.self.view_is (one_due i.waits.0 i.dues.0 v.rises v.bounded v.by_due c.args.time c.in-Some.due.now c.in-Some.ensures.least.0 c.if-due-time.true)

pub returns-in_default-clause-found : goal.returns-in_default-clause-found
returns-in_default-clause-found c =
    let i = c.self.inside in
    let v = c.self.invariant in
    subst (λ m. IsOneOf (is_due c.args.time) (entries m) None) c.self.view_is (none_due i.waits.0 i.dues.0 v.rises v.bounded v.by_due c.args.time (Some c.in-Some.due.now) c.in-Some.ensures.least
    (λ k e same. let is : c.in-Some.due.now ≡ k = cc in c.if-due-time.false (ap (λ (d : Due). d.time) is ∙ same)))

pub returns-in_default-2-clause-found : goal.returns-in_default-2-clause-found
returns-in_default-2-clause-found c =
    let i = c.self.inside in
    let v = c.self.invariant in
    subst (λ m. IsOneOf (is_due c.args.time) (entries m) None) c.self.view_is (none_due i.waits.0 i.dues.0 v.rises v.bounded v.by_due c.args.time None (rw c.in_default.is at c.first_from.ensures.least) (λ k e. absurd (cc)))
