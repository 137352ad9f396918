use Rattle.std.proofs.Common.{sym, ap, ◌∙◌, subst, length, arith}
use Rattle.std.specs.Coded.{coded_list, coded_ℕ}
use Rattle.std.proofs.Math.Logic.{∥∥₁_elim, ∥∥₁_map}
use base.Stored.{Coded-set}
use Rattle.kom_faults.proofs.Roomier.{nobody, roomier_stands}
use Rattle.kom_offered.specs.Laws.{are_at_ports}
use Rattle.kom_record.specs.declared.entry.Entry.TheVariants.{Moved}
use Rattle.kom_record.specs.Answers.{wakes}
use Rattle.kom_state.specs.Parts.{state_of}
use Rattle.kom_system.specs.WellFormed.{IsDeclared}
use Rattle.kom_turns.specs.Runs.{history_of, system_of}
use Rattle.kom_turns.proofs.Standing.{at_most, below, few, said}
use Rattle.kom_moves.proofs.Moving.{there_at}
use Rattle.kom_moves.proofs.Noting.{instant_left, is_pending, may_move, noted_before, root_made, there_still}
use Rattle.kom_moves.proofs.moves.move_on.Goals as goal

pub next_time-t-requires : goal.next_time-t-requires
next_time-t-requires c = said _ c.requires.run (λ s. is_pending c.tells_what_is_pending.ensures c.args.run.now s c.requires.pending.3)

pub returns-in_err-room-clause-run : goal.returns-in_err-room-clause-run
returns-in_err-room-clause-run c = ∥∥₁_map c.requires.run (roomier_stands c.same_states_follow.ensures c.numbers_stay.ensures c.args.run.now c.make_room.new.run c.make_room.ensures.same)

pub note_move-requires-clause-few : goal.note_move-requires-clause-few
note_move-requires-clause-few c =
    let v = c.args.run.now in
    let may = may_move c.tells_what_is_pending.ensures v c.next_time-t.result c.in_ok-released.released c.requires.run c.requires.pending c.next_time-t.ensures c.in_ok-released.ensures in
    below _ _ c.requires.run (λ s.
    let a = c.batches_are_short.ensures (system_of v) v.env.plan (history_of v) c.next_time-t.result s.fits s.legal in
    let b = ap length may.all_released in
    omega (arith, a, b))

pub note_move-requires-clause-position : goal.note_move-requires-clause-position
note_move-requires-clause-position c =
    let v = c.args.run.now in
    below _ _ c.requires.run (λ s.
    let a = few (system_of v) v.env.plan (history_of v) v.counts s.fits s.counts_are in
    let b = ap length c.make_room.ensures.same.history in
    omega (arith, a, b))

pub note_move-requires-clause-there : goal.note_move-requires-clause-there
note_move-requires-clause-there c i r lt =
    let v = c.args.run.now in
    let released = c.in_ok-released.released in
    let may = may_move c.tells_what_is_pending.ensures v c.next_time-t.result released c.requires.run c.requires.pending c.next_time-t.ensures c.in_ok-released.ensures in
    said _ c.requires.run (λ s.
    there_still v c.make_room.new.run _ c.make_room.ensures.same
    (there_at (system_of v) v.env.plan (history_of v) v released s.numbers c.holds_together.ensures
    (ap (are_at_ports (system_of v)) may.all_released ∙ c.batches_are_at_ports.ensures (system_of v) v.env.plan (history_of v) c.next_time-t.result s.fits) i r lt))

pub note_move-requires-clause-root : goal.note_move-requires-clause-root
note_move-requires-clause-root c =
    let v = c.args.run.now in
    below _ _ c.requires.run (λ s.
    let a = root_made (system_of v) (history_of v) (state_of v.state) s.state in
    let b = ap (λ m. m.bound) c.make_room.ensures.same.marks in
    let h = s.marks_bound in
    omega (arith, a, b, h))

pub note_move-requires-clause-instant : goal.note_move-requires-clause-instant
note_move-requires-clause-instant c =
    let v = c.args.run.now in
    at_most _ _ c.requires.run (λ s.
    let a = instant_left (system_of v) v.env.plan (history_of v) v.counts s.counts_are c.requires.pending.0 in
    let b = ap (λ k. k.instants) c.make_room.ensures.same.counts in
    omega (arith, a, b))

pub note_move-requires-clause-queued : goal.note_move-requires-clause-queued
note_move-requires-clause-queued c =
    let v = c.args.run.now in
    let may = may_move c.tells_what_is_pending.ensures v c.next_time-t.result c.in_ok-released.released c.requires.run c.requires.pending c.next_time-t.ensures c.in_ok-released.ensures in
    let declared : IsDeclared (system_of v) = subst (λ y. IsDeclared y.declarations) c.deref.ensures c.well_formed-2.ensures.declared in
    below _ _ c.requires.run (λ s.
    let a = c.batches_are_short.ensures (system_of v) v.env.plan (history_of v) c.next_time-t.result s.fits s.legal in
    let b = ap length may.all_released in
    let d = c.queues_are_short.ensures (system_of v) v.env.plan (history_of v) declared s.fits s.legal in
    let e = s.counts_are.queued_are in
    let f = ap (λ k. k.queued) c.make_room.ensures.same.counts in
    omega (arith, a, b, d, e, f))

pub settle-requires-clause-room : goal.settle-requires-clause-room
settle-requires-clause-room c =
    at_most _ _ c.requires.run (λ s.
    let a = c.note_move.ensures.few in
    let b = ap (λ m. length m.list) c.make_room.ensures.same.marks in
    let e = nobody c.args.run.now.marks s.unmarked in
    let f = c.in_ok-room.ensures.list.1 in
    omega (arith, a, b, e, f))

pub settle-requires-clause-within : goal.settle-requires-clause-within
settle-requires-clause-within c =
    at_most _ _ c.requires.run (λ s.
    let a = c.note_move.ensures.marks_bound in
    let b = ap (λ m. m.bound) c.make_room.ensures.same.marks in
    let e = ap (λ m. m.bound) (c.note_move.ensures.runnable ∙ c.make_room.ensures.same.runnable) in
    let h = s.marks_within in
    omega (arith, a, b, e, h))

pub returns-clause-run : goal.returns-clause-run
returns-clause-run c =
    let v = c.args.run.now in
    let n = c.note_move.new.run in
    let t = c.next_time-t.result in
    let released = c.in_ok-released.released in
    let may = may_move c.tells_what_is_pending.ensures v t released c.requires.run c.requires.pending c.next_time-t.ensures c.in_ok-released.ensures in
    let noted = noted_before c.args.w t released v c.make_room.new.run n c.make_room.ensures.same c.note_move.ensures in
    ∥∥₁_map c.requires.run (λ s.
    (c.settled_stands.ensures (system_of v) v.env.plan (history_of v) (Moved c.args.w t released) n c.settle.new.run c.settle.result
    (c.moves_unsettle.ensures c.args.w t released v n s c.holds_together.ensures may noted) c.settle.ensures).0)

pub returns-clause-answer : goal.returns-clause-answer
returns-clause-answer c =
    let v = c.args.run.now in
    let n = c.note_move.new.run in
    let t = c.next_time-t.result in
    let released = c.in_ok-released.released in
    let may = may_move c.tells_what_is_pending.ensures v t released c.requires.run c.requires.pending c.next_time-t.ensures c.in_ok-released.ensures in
    let noted = noted_before c.args.w t released v c.make_room.new.run n c.make_room.ensures.same c.note_move.ensures in
    let history = ap (λ k. k.history) c.settle.ensures.kept ∙ noted.history in
    record {
      t = t;
      released = released;
      may = may;
      added = history;
      woken_are = ∥∥₁_elim c.requires.run (Coded-set (coded_list coded_ℕ) _ _) (λ s.
          (c.settled_stands.ensures (system_of v) v.env.plan (history_of v) (Moved c.args.w t released) n c.settle.new.run c.settle.result
          (c.moves_unsettle.ensures c.args.w t released v n s c.holds_together.ensures may noted) c.settle.ensures).1
          ∙ sym (ap (wakes (system_of v) v.env.plan (history_of v)) history));
    }
