use Rattle.std.proofs.Common.{refl, sym, ap, ◌∙◌, ◌&&◌, not}
use Rattle.kom_record.specs.Ready.{ready, is_closed}
use Rattle.kom_turns.specs.Runs.{history_of, system_of}
use Rattle.kom_turns.proofs.Standing.{same_test, closed_is}
use Rattle.kom_turns.proofs.run.Run.take.Goals as goal

pub returns-then-is_closed-clause-answer : goal.returns-then-is_closed-clause-answer
returns-then-is_closed-clause-answer c =
    let v = c.args.self.now in
    (same_test _ _ c.requires.run (λ s. sym (closed_is (system_of v) v.env.plan (history_of v) v.counts s.counts_are) ∙ sym c.is_closed.ensures ∙ c.if-is_closed.true), refl)

pub returns-then-not-contains-clause-answer : goal.returns-then-not-contains-clause-answer
unfolding ready
returns-then-not-contains-clause-answer c =
    let v = c.args.self.now in (
      same_test _ _ c.requires.run (λ s. sym (closed_is (system_of v) v.env.plan (history_of v) v.counts s.counts_are) ∙ sym c.is_closed.ensures ∙ c.if-is_closed.false),
      same_test _ _ c.requires.run (λ s. ap (λ b. b && not (is_closed (system_of v) v.env.plan (history_of v))) (sym (s.runnable_are c.args.c) ∙ sym c.contains.ensures ∙ c.if-not-contains.true)),
      refl,
    )

pub take_next-requires-clause-not_closed : goal.take_next-requires-clause-not_closed
take_next-requires-clause-not_closed c =
    let v = c.args.self.now in
    same_test _ _ c.requires.run (λ s. sym (closed_is (system_of v) v.env.plan (history_of v) v.counts s.counts_are) ∙ sym c.is_closed.ensures ∙ c.if-is_closed.false)

pub take_next-requires-clause-runnable : goal.take_next-requires-clause-runnable
take_next-requires-clause-runnable c = same_test _ _ c.requires.run (λ s. sym (s.runnable_are c.args.c) ∙ sym c.contains.ensures ∙ c.if-not-contains.false)
