use Rattle.std.proofs.Common.{◌<◌, ◌^◌, length, sym, ap, ◌∙◌, subst, arith, Some, ◌∷◌, ◌&&◌, not}
use Rattle.std.specs.Prelude.{is_some}
use Rattle.std.specs.Option.{option_map}
use Rattle.std.specs.Ordering.{nat_cmp}
use Rattle.std.specs.Coded.{coded_option}
use Rattle.std.proofs.Math.Logic.{∥∥₁_elim, ∥∥₁_map}
use base.Stored.{Coded-set}
use Rattle.kom_lang.specs.contracts.body.Body.{the_row}
use Rattle.kom_index.specs.Entries.{value_of}
use Rattle.kom_record.specs.Ready.{is_closed, ready}
use Rattle.kom_state.specs.Parts.{state_of}
use Rattle.kom_comps.proofs.Counting.{none_of}
use Rattle.kom_record.specs.declared.entry.Entry.TheVariants.{Took}
use Rattle.kom_turns.specs.Runs.{held_of, history_of, system_of}
use Rattle.kom_turns.proofs.Standing.{said, same_test, at_most, below, same_stands, few, step_left, runs_alive, is_made, body_there, body_is}
use Rattle.kom_turns.proofs.Counting.{enough}
use Rattle.kom_turns.proofs.Taking.{noted_after, took_stands}
use Rattle.kom_turns.proofs.run.Run.take_next.Goals as goal

pub job_for-requires : goal.job_for-requires
job_for-requires c =
    let v = c.args.self.now in
    said _ c.requires.run (λ s.
    let l = runs_alive (system_of v) (history_of v) (state_of v.state) s.state c.args.c c.requires.runnable in
    ap is_some (body_is (system_of v) (history_of v) (state_of v.state) s.state c.args.c l ∙ (body_there (system_of v) (history_of v) (state_of v.state) s.state c.args.c l).1))

pub returns-in_err-make_room-clause-run : goal.returns-in_err-make_room-clause-run
returns-in_err-make_room-clause-run c = ∥∥₁_map c.requires.run (same_stands c.args.self.now c.make_room.new.self c.make_room.ensures.same)

pub note_taken-requires-clause-few : goal.note_taken-requires-clause-few
note_taken-requires-clause-few c =
    let v = c.args.self.now in
    below _ _ c.requires.run (λ s. subst (λ R. length R < 2 ^ 32) (sym c.make_room.ensures.same.history) (few (system_of v) v.env.plan (history_of v) v.counts s.fits s.counts_are))

pub note_taken-requires-clause-free : goal.note_taken-requires-clause-free
note_taken-requires-clause-free c =
    none_of _ (same_test _ _ c.requires.run (λ s.
    ap (λ js. is_some (value_of nat_cmp c.args.w js)) c.make_room.ensures.same.jobs ∙ ap is_some (s.jobs c.args.w ∙ ap (option_map held_of) c.requires.free)))

pub note_taken-requires-clause-busy : goal.note_taken-requires-clause-busy
note_taken-requires-clause-busy c =
    let v = c.args.self.now in
    below _ _ c.requires.run (λ s.
    let l = runs_alive (system_of v) (history_of v) (state_of v.state) s.state c.args.c c.requires.runnable in
    let a : c.args.c < length (state_of v.state).nodes = is_made (system_of v) (history_of v) (state_of v.state) s.state c.args.c l in
    let b = s.busy_bound in
    let e = ap (λ m. m.bound) c.make_room.ensures.same.busy in
    omega (arith, a, b, e))

pub note_taken-requires-clause-runnable : goal.note_taken-requires-clause-runnable
note_taken-requires-clause-runnable c =
    let v = c.args.self.now in
    below _ _ c.requires.run (λ s.
    let l = runs_alive (system_of v) (history_of v) (state_of v.state) s.state c.args.c c.requires.runnable in
    let a : c.args.c < length (state_of v.state).nodes = is_made (system_of v) (history_of v) (state_of v.state) s.state c.args.c l in
    let b = s.runnable_bound in
    let e = ap (λ m. m.bound) c.make_room.ensures.same.runnable in
    omega (arith, a, b, e))

pub note_taken-requires-clause-step : goal.note_taken-requires-clause-step
note_taken-requires-clause-step c =
    let v = c.args.self.now in
    below _ _ c.requires.run (λ s.
    let a = step_left (system_of v) v.env.plan (history_of v) v.counts s.counts_are c.requires.not_closed in
    let e = ap (λ m. m.steps) c.make_room.ensures.same.counts in
    omega (arith, a, e))

pub note_taken-requires-clause-queued : goal.note_taken-requires-clause-queued
note_taken-requires-clause-queued c =
    let v = c.args.self.now in
    at_most _ _ c.requires.run (λ s.
    let a = enough (system_of v) (history_of v) c.args.c c.in_ok-item.item (state_of v.state) c.queued_is_counted.ensures s.state c.in_ok-item.ensures.waits in
    let b = s.counts_are.queued_are in
    let e = ap (λ m. m.queued) c.make_room.ensures.same.counts in
    omega (arith, a, b, e))

pub returns-clause-ok : goal.returns-clause-ok
unfolding ready
returns-clause-ok c =
    let v = c.args.self.now in
    let j = c.in_ok-job.ensures in
    let e = c.make_room.ensures.same in
    record {
      added = c.note_taken.ensures.history ∙ (λ i. Took c.args.w c.args.c (sym j.item_is i) ∷ e.history i);
      next = c.in_ok-item.ensures.next ∙ ap Some (sym j.item_is);
      ready = ap (λ b. b && not (is_closed (system_of v) v.env.plan (history_of v))) c.requires.runnable ∙ ap not c.requires.not_closed;
      worker = j.worker;
      component = j.component;
      body = ∥∥₁_elim c.requires.run (Coded-set (coded_option the_row.coded) _ _) (λ s.
          sym (body_is (system_of v) (history_of v) (state_of v.state) s.state c.args.c (runs_alive (system_of v) (history_of v) (state_of v.state) s.state c.args.c c.requires.runnable)) ∙ j.body);
      system = j.system;
    }

pub returns-clause-run : goal.returns-clause-run
returns-clause-run c =
    let v = c.args.self.now in
    let n = c.note_taken.new.self in
    let item = c.in_ok-item.item in
    ∥∥₁_map c.requires.run (λ s.
    took_stands c.took_follows.ensures c.untouched_stay.ensures c.takes_leave.ensures c.busy_goes_on.ensures c.counts_go_on.ensures c.queued_is_counted.ensures c.stays_at_took.ensures
    v n c.args.w c.args.c item (noted_after v c.make_room.new.self n c.args.w c.args.c item c.make_room.ensures.same c.note_taken.ensures)
    c.in_ok-item.ensures.waits c.requires.free c.in_ok-item.ensures.next c.requires.runnable c.requires.not_closed s)
