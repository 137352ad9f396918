use Rattle.std.proofs.Common.{◌≡◌, ◌+◌, ◌++◌, true, false, cond, [], map, length, sym, ap, ◌∙◌, arith, length-append}
use Rattle.std.specs.List.{filter}
use Rattle.kom_env.specs.Outside.{batch_of}
use Rattle.kom_env.specs.Raised.{is_raised_at, released}
use Rattle.kom_env.specs.Waiting.{is_due, release_of}
use Rattle.kom_env.proofs.Listing.{length_map}
use Rattle.kom_env.proofs.Pending.{batch_is, is_before}
use Rattle.kom_env.proofs.env.Env.count_at.Goals as goal

pub overflow_add-result : goal.overflow_add-result
overflow_add-result c = record { fits = omega (arith, c.count_at.ensures.small, c.count_at-waits.ensures.small) }

pub returns-then-is_before : goal.returns-then-is_before
returns-then-is_before c =
    let i = c.self.inside in
    let t = c.args.time in
    let both = batch_is i.last t i.calendar.0 i.agenda.0 ∙ ap (λ b. cond b (map released (filter (is_raised_at t) i.calendar.0)) [] ++ map release_of (filter (is_due t) i.agenda.0)) (sym c.is_before.ensures ∙ c.if-is_before.true) in
    omega (
      arith,
      c.count_at.ensures.count,
      c.count_at-waits.ensures.count,
      ap length both,
      length-append (map released (filter (is_raised_at t) i.calendar.0)) (map release_of (filter (is_due t) i.agenda.0)),
      length_map released (filter (is_raised_at t) i.calendar.0),
      length_map release_of (filter (is_due t) i.agenda.0),
      ap (λ v. length (batch_of v t)) c.self.view_is,
    )

pub returns-else-is_before : goal.returns-else-is_before
returns-else-is_before c =
    let i = c.self.inside in
    let t = c.args.time in
    let both = batch_is i.last t i.calendar.0 i.agenda.0 ∙ ap (λ b. cond b (map released (filter (is_raised_at t) i.calendar.0)) [] ++ map release_of (filter (is_due t) i.agenda.0)) (sym c.is_before.ensures ∙ c.if-is_before.false) in
    c.count_at-waits.ensures.count ∙ sym (length_map release_of (filter (is_due t) i.agenda.0)) ∙ sym (ap length both) ∙ ap (λ v. length (batch_of v t)) c.self.view_is
