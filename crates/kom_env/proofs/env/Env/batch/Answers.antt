use Rattle.std.proofs.Common.{◌≡◌, ◌++◌, true, false, cond, [], map, List, Vec, Global, sym, ap, ◌∙◌}
use Rattle.std.specs.List.{filter}
use Rattle.kom_record.specs.declared.entry.Release.{Release}
use Rattle.kom_env.specs.Outside.{batch_of}
use Rattle.kom_env.specs.Raised.{is_raised_at, released}
use Rattle.kom_env.specs.Waiting.{is_due, release_of}
use Rattle.kom_env.proofs.Pending.{batch_is, is_before}
use Rattle.kom_env.proofs.env.Env.batch.Goals as goal
use Rattle.kom_env.proofs.env.Env.batch.Goals.{then-is_before+in_ok-release_at, else-is_before}

pub returns : goal.returns
returns c =
    let i = c.self.inside in
    let t = c.args.time in
    let raised : c.if-is_before.out.items ≡ cond (is_before i.last t) (map released (filter (is_raised_at t) i.calendar.0)) [] =
    elim c.if-is_before.branch [
      | then-is_before+in_ok-release_at w ↦
          ap (λ (o : Vec Release Global). o.items) w.out-is ∙ w.in_ok-release_at.ensures ∙ ap (λ l. l ++ map released (filter (is_raised_at t) i.calendar.0)) c.new-out.ensures.items
          ∙ sym (ap (λ b. cond b (map released (filter (is_raised_at t) i.calendar.0)) []) (sym c.is_before.ensures ∙ w.if-is_before.true))
      | else-is_before w ↦
          ap (λ (o : Vec Release Global). o.items) w.out-is ∙ c.new-out.ensures.items ∙ sym (ap (λ b. cond b (map released (filter (is_raised_at t) i.calendar.0)) []) (sym c.is_before.ensures ∙ w.if-is_before.false))
    ] in
    c.from_vec.ensures ∙ c.in_ok-release_at-2.ensures ∙ ap (λ l. l ++ map release_of (filter (is_due t) i.agenda.0)) raised ∙ sym (batch_is i.last t i.calendar.0 i.agenda.0) ∙ ap (λ v. batch_of v t) c.self.view_is
