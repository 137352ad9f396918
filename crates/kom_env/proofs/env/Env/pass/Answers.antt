use Rattle.std.proofs.Common.{◌≡◌, ◌+◌, ◌*◌, ◌≤◌, not, Some, min, map, refl, sym, ap, ◌∙◌, subst, arith}
use Rattle.kom_base.specs.declared.numbers.EntryNo.{EntryNo}
use Rattle.kom_index.specs.Stock.{entries}
use Rattle.kom_env.specs.declared.agenda.Wait.{Wait}
use Rattle.kom_env.specs.Outside.{Outside, due_of, next_time, moved_on}
use Rattle.kom_env.specs.Waiting.{is_due, scheduled}
use Rattle.kom_env.specs.Seen.{AreUpTo, AreDueBy, farthest, outside_of}
use Rattle.kom_env.proofs.Pending.{moved, clock_within, later_waits, none_sooner, time_within, due_wider, due_filter, up_to_filter}
use Rattle.kom_env.proofs.env.Env.pass.Goals as goal

pub invariant_of-self : goal.invariant_of-self
invariant_of-self c =
    let i = c.self.inside in
    let v = c.self.invariant in
    let t = c.in-Some.time in
    let drop = λ (e : EntryNo × Wait). not (is_due t e) in
    let due = sym (c.in-Some.ensures ∙ sym (ap due_of c.self.view_is)) in
    record {
      pair = v.pair;
      most = v.most;
      raised = v.raised;
      up_to = subst (AreUpTo i.latest) (sym c.discard_due.ensures.rest) (up_to_filter i.latest drop i.agenda.0 v.up_to);
      due_by = subst (AreDueBy (farthest (c.saturating_add-self-inside.result + 1))) (sym c.discard_due.ensures.rest) (due_filter _ drop i.agenda.0 (due_wider (farthest (i.releases + 1)) (farthest (c.saturating_add-self-inside.result + 1)) (omega (arith, c.saturating_add-self-inside.ensures, c.self.ranges)) i.agenda.0 v.due_by));
      clock = clock_within t i.releases c.saturating_add-self-inside.result (time_within i.last i.calendar.0 i.agenda.0 t (farthest (i.releases + 1)) v.raised v.due_by (omega arith) due) (omega arith) c.saturating_add-self-inside.ensures;
    }

pub returns-clause-moves : goal.returns-clause-moves
returns-clause-moves c =
    let i = c.self.inside in
    let t = c.in-Some.time in
    let due = sym (c.in-Some.ensures ∙ sym (ap due_of c.self.view_is)) in
    let spare = min c.discard_due.new.self.1 i.calendar.1 in
    moved (outside_of i) t (map scheduled c.discard_due.new.self.0) c.saturating_add-self-inside.result spare due
    (ap (map scheduled) c.discard_due.ensures.rest ∙ later_waits t i.agenda.0 (none_sooner i.last i.calendar.0 i.agenda.0 t due)) c.saturating_add-self-inside.ensures
    ∙ ap (λ (v : Outside). record (moved_on v) { spare = spare }) c.self.view_is
