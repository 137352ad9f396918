use Rattle.std.proofs.Common.{◌≡◌, false, sym, ◌∙◌}
use Rattle.std.specs.Coded.{coded_option, coded_ℕ}
use Rattle.std.proofs.Math.Logic.{∥∥₁_elim}
use base.Stored.{Coded-set}
use Rattle.kom_record.specs.Ready.{is_closed}
use Rattle.kom_turns.specs.Runs.{history_of, system_of}
use Rattle.kom_turns.proofs.Standing.{said, same_test, closed_is}
use Rattle.kom_turns.proofs.Leaving.{empty_by, least_ready, none_ready, none_in_hand, some_in_hand, nothing_pending, something_due}
use Rattle.kom_turns.proofs.run.Run.left.Goals as goal

pub returns-then-is_closed : goal.returns-then-is_closed
returns-then-is_closed c =
    let v = c.args.self.now in
    same_test _ _ c.requires (λ s. sym (closed_is (system_of v) v.env.plan (history_of v) v.counts s.counts_are) ∙ sym c.is_closed.ensures ∙ c.if-is_closed.true)

pub returns-in-Some : goal.returns-in-Some
returns-in-Some c =
    let v = c.args.self.now in
    let still : is_closed (system_of v) v.env.plan (history_of v) ≡ false = same_test _ _ c.requires (λ s. sym (closed_is (system_of v) v.env.plan (history_of v) v.counts s.counts_are) ∙ sym c.is_closed.ensures ∙ c.if-is_closed.false) in
    (still, ∥∥₁_elim c.requires (Coded-set (coded_option coded_ℕ) _ _) (λ s. least_ready v s still c.in-Some.c c.in-Some.ensures.least))

pub returns-in-Some-first_from : goal.returns-in-Some-first_from
returns-in-Some-first_from c =
    let v = c.args.self.now in
    let still : is_closed (system_of v) v.env.plan (history_of v) ≡ false = same_test _ _ c.requires (λ s. sym (closed_is (system_of v) v.env.plan (history_of v) v.counts s.counts_are) ∙ sym c.is_closed.ensures ∙ c.if-is_closed.false) in (
      still,
      empty_by _ (same_test _ _ c.requires (λ s. none_ready v s still c.in-None.ensures.least)),
      λ h. ∥∥₁_elim c.requires (λ x. absurd x) (λ s. some_in_hand v s c.in-Some-first_from.field-0.now c.in-Some-first_from.ensures.least h),
    )

pub returns-in-Some-next_due : goal.returns-in-Some-next_due
returns-in-Some-next_due c =
    let v = c.args.self.now in
    let still : is_closed (system_of v) v.env.plan (history_of v) ≡ false = same_test _ _ c.requires (λ s. sym (closed_is (system_of v) v.env.plan (history_of v) v.counts s.counts_are) ∙ sym c.is_closed.ensures ∙ c.if-is_closed.false) in (
      still,
      empty_by _ (same_test _ _ c.requires (λ s. none_ready v s still c.in-None.ensures.least)),
      empty_by _ (same_test _ _ c.requires (λ s. none_in_hand v s c.in-None-first_from.ensures.least)),
      said _ c.requires (λ s. something_due v s c.tells_what_is_pending.ensures c.in-Some-next_due.field-0 (sym c.in-Some-next_due.ensures)),
    )

pub returns-in-None-next_due : goal.returns-in-None-next_due
returns-in-None-next_due c =
    let v = c.args.self.now in
    let still : is_closed (system_of v) v.env.plan (history_of v) ≡ false = same_test _ _ c.requires (λ s. sym (closed_is (system_of v) v.env.plan (history_of v) v.counts s.counts_are) ∙ sym c.is_closed.ensures ∙ c.if-is_closed.false) in (
      still,
      empty_by _ (same_test _ _ c.requires (λ s. none_ready v s still c.in-None.ensures.least)),
      empty_by _ (same_test _ _ c.requires (λ s. none_in_hand v s c.in-None-first_from.ensures.least)),
      empty_by _ (same_test _ _ c.requires (λ s. nothing_pending v s c.tells_what_is_pending.ensures (sym c.in-None-next_due.ensures))),
    )
