use Rattle.std.proofs.Common.{refl, ap, subst, arith}
use Rattle.std.specs.Prelude.{is_some, vec_capacity}
use Rattle.std.specs.Coded.{coded_list, coded_ℕ}
use Rattle.std.proofs.Math.Logic.{∥∥₁_elim, ∥∥₁_map, ∥∥₁_map₂}
use base.Stored.{Coded-set}
use Rattle.kom_system.specs.WellFormed.{IsDeclared}
use Rattle.kom_system.specs.contracts.system.System.{the_row as system_row}
use Rattle.kom_record.specs.contracts.entry.Entry.{the_row as entry_row}
use Rattle.kom_record.specs.contracts.plan.Plan.{the_row as plan_row}
use Rattle.kom_record.specs.declared.entry.Entry.TheVariants.{Did}
use Rattle.kom_turns.specs.Runs.{history_of, system_of}
use Rattle.kom_turns.proofs.Standing.{at_most, said}
use Rattle.kom_endings.proofs.Dids.{job_there}
use Rattle.kom_completing.specs.Completed.{told_by}
use Rattle.kom_completing.proofs.Noted.{Laws, added, few_marked, known, note, plan_same, stands_then, system_same, to_note, was_reacted, woken_are}
use Rattle.kom_completing.proofs.ends.complete.Goals as goal

pub position_of-took-requires : goal.position_of-took-requires
position_of-took-requires c =
    let job = c.args.ran.now.job in
    said _ c.requires.run (λ s. ap is_some (job_there c.args.run.now job.w c.requires.job.hand s c.requires.job.found))

pub prepare-requires-clause-reacted : goal.prepare-requires-clause-reacted
prepare-requires-clause-reacted c =
    let ran = c.args.ran.now in
    ∥∥₁_map₂ c.requires.run ran.reacted
    (λ s r. (ran.job.w, was_reacted c.args.run.now ran.job ran.outcome c.position_of-took.result c.args.after c.args.effects.now c.requires.job c.requires.lives c.requires.done c.position_of-took.ensures s r))

pub returns-in_err-ready-clause-run : goal.returns-in_err-ready-clause-run
returns-in_err-ready-clause-run c = ∥∥₁_map c.requires.run (c.spacious_runs_stand.ensures c.args.run.now c.prepare.new.run c.prepare.ensures.same)

pub returns-in_err-unreached-clause-run : goal.returns-in_err-unreached-clause-run
returns-in_err-unreached-clause-run c = ∥∥₁_map c.requires.run (c.spacious_runs_stand.ensures c.args.run.now c.prepare.new.run c.prepare.ensures.same)

pub note_done-requires-clause-note : goal.note_done-requires-clause-note
note_done-requires-clause-note c =
    let law : Laws = record { spacious = c.spacious_runs_stand.ensures; legal_is = c.dones_are_legal.ensures; unsettle = c.dones_unsettle.ensures; recorded_is = c.dones_are_recorded.ensures; settled_is = c.settled_stands.ensures } in
    let v = c.args.run.now in
    let k = c.prepare.new.run in
    let ran = c.args.ran.now in
    let item = ran.job.item in
    let p = c.in_ok-ready.ready in
    let took = c.position_of-took.result in
    let body = c.args.after in
    let es = c.args.effects.now in
    let entry = Did ran.job.w ran.job.c took c.args.kept c.told_by.result c.in_ok-unreached.unreached in
    let know = known v k ran took body es p entry c.told_by.result c.in_ok-unreached.unreached c.args.kept c.requires.run c.requires.job c.requires.lives c.requires.done c.position_of-took.ensures c.prepare.ensures.same c.in_ok-ready.ensures.found refl
    c.requires.kept c.told_by.ensures c.in_ok-unreached.ensures
    in
    ∥∥₁_map know (λ q. to_note law v k ran.job.w ran.job.c took item body es p entry q)

pub note_done-requires-clause-out : goal.note_done-requires-clause-out
note_done-requires-clause-out c =
    let v = c.args.run.now in
    let declared : IsDeclared (system_of v) = subst (λ y. IsDeclared y.declarations) c.deref.ensures c.well_formed-2.ensures.declared in
    at_most _ _ c.requires.run (λ s.
    let a = c.outs_are_short.ensures (system_of v) v.env.plan (history_of v) declared s.fits s.legal in
    let b = s.counts_are.out_are in
    let d = ap (λ n. n.out) c.prepare.ensures.same.counts in
    omega (arith, a, b, d))

pub settle-requires-clause-room : goal.settle-requires-clause-room
settle-requires-clause-room c =
    let law : Laws = record { spacious = c.spacious_runs_stand.ensures; legal_is = c.dones_are_legal.ensures; unsettle = c.dones_unsettle.ensures; recorded_is = c.dones_are_recorded.ensures; settled_is = c.settled_stands.ensures } in
    let v = c.args.run.now in
    let k = c.prepare.new.run in
    let ran = c.args.ran.now in
    let item = ran.job.item in
    let p = c.in_ok-ready.ready in
    let took = c.position_of-took.result in
    let body = c.args.after in
    let es = c.args.effects.now in
    let entry = Did ran.job.w ran.job.c took c.args.kept c.told_by.result c.in_ok-unreached.unreached in
    let know = known v k ran took body es p entry c.told_by.result c.in_ok-unreached.unreached c.args.kept c.requires.run c.requires.job c.requires.lives c.requires.done c.position_of-took.ensures c.prepare.ensures.same c.in_ok-ready.ensures.found refl
    c.requires.kept c.told_by.ensures c.in_ok-unreached.ensures
    in
    at_most _ _ know (λ q.
    few_marked law v k ran.job.w ran.job.c took item body es p entry q c.note_done.new.run (vec_capacity p.woken)
    (c.note_done.ensures.few q.was.hand q.was.old (told_by q.was.hand.item es p.told) p.entering.unreached (note law v k ran.job.w ran.job.c took item body es p entry q))
    (c.in_ok-ready.ensures.list ran.job.w q.stands q.was))

pub settle-requires-clause-within : goal.settle-requires-clause-within
settle-requires-clause-within c =
    let law : Laws = record { spacious = c.spacious_runs_stand.ensures; legal_is = c.dones_are_legal.ensures; unsettle = c.dones_unsettle.ensures; recorded_is = c.dones_are_recorded.ensures; settled_is = c.settled_stands.ensures } in
    let v = c.args.run.now in
    let k = c.prepare.new.run in
    let ran = c.args.ran.now in
    let item = ran.job.item in
    let p = c.in_ok-ready.ready in
    let took = c.position_of-took.result in
    let body = c.args.after in
    let es = c.args.effects.now in
    let entry = Did ran.job.w ran.job.c took c.args.kept c.told_by.result c.in_ok-unreached.unreached in
    let know = known v k ran took body es p entry c.told_by.result c.in_ok-unreached.unreached c.args.kept c.requires.run c.requires.job c.requires.lives c.requires.done c.position_of-took.ensures c.prepare.ensures.same c.in_ok-ready.ensures.found refl
    c.requires.kept c.told_by.ensures c.in_ok-unreached.ensures
    in
    at_most _ _ know (λ q. (c.note_done.ensures.done q.was.hand q.was.old (told_by q.was.hand.item es p.told) p.entering.unreached (note law v k ran.job.w ran.job.c took item body es p entry q)).marks_within)

pub returns-clause-answer : goal.returns-clause-answer
returns-clause-answer c =
    let law : Laws = record { spacious = c.spacious_runs_stand.ensures; legal_is = c.dones_are_legal.ensures; unsettle = c.dones_unsettle.ensures; recorded_is = c.dones_are_recorded.ensures; settled_is = c.settled_stands.ensures } in
    let v = c.args.run.now in
    let k = c.prepare.new.run in
    let ran = c.args.ran.now in
    let item = ran.job.item in
    let p = c.in_ok-ready.ready in
    let took = c.position_of-took.result in
    let body = c.args.after in
    let es = c.args.effects.now in
    let entry = Did ran.job.w ran.job.c took c.args.kept c.told_by.result c.in_ok-unreached.unreached in
    let know = known v k ran took body es p entry c.told_by.result c.in_ok-unreached.unreached c.args.kept c.requires.run c.requires.job c.requires.lives c.requires.done c.position_of-took.ensures c.prepare.ensures.same c.in_ok-ready.ensures.found refl
    c.requires.kept c.told_by.ensures c.in_ok-unreached.ensures
    in
    record {
      hand = c.requires.job.hand;
      found = c.requires.job.found;
      added = ∥∥₁_elim know (Coded-set (coded_list entry_row.coded) _ _) (λ q. added law v k ran.job.w ran.job.c took item body es p entry q c.note_done.new.run c.settle.new.run c.settle.result (c.note_done.ensures.done q.was.hand q.was.old (told_by q.was.hand.item es p.told) p.entering.unreached (note law v k ran.job.w ran.job.c took item body es p entry q)) c.settle.ensures c.requires.job.hand ran.outcome c.requires.job.found c.requires.done);
      woken_are = ∥∥₁_elim know (Coded-set (coded_list coded_ℕ) _ _) (λ q. woken_are law v k ran.job.w ran.job.c took item body es p entry q c.note_done.new.run c.settle.new.run c.settle.result (c.note_done.ensures.done q.was.hand q.was.old (told_by q.was.hand.item es p.told) p.entering.unreached (note law v k ran.job.w ran.job.c took item body es p entry q)) c.settle.ensures);
    }

pub returns-clause-run : goal.returns-clause-run
returns-clause-run c =
    let law : Laws = record { spacious = c.spacious_runs_stand.ensures; legal_is = c.dones_are_legal.ensures; unsettle = c.dones_unsettle.ensures; recorded_is = c.dones_are_recorded.ensures; settled_is = c.settled_stands.ensures } in
    let v = c.args.run.now in
    let k = c.prepare.new.run in
    let ran = c.args.ran.now in
    let item = ran.job.item in
    let p = c.in_ok-ready.ready in
    let took = c.position_of-took.result in
    let body = c.args.after in
    let es = c.args.effects.now in
    let entry = Did ran.job.w ran.job.c took c.args.kept c.told_by.result c.in_ok-unreached.unreached in
    let know = known v k ran took body es p entry c.told_by.result c.in_ok-unreached.unreached c.args.kept c.requires.run c.requires.job c.requires.lives c.requires.done c.position_of-took.ensures c.prepare.ensures.same c.in_ok-ready.ensures.found refl
    c.requires.kept c.told_by.ensures c.in_ok-unreached.ensures
    in
    ∥∥₁_map know (λ q. stands_then law v k ran.job.w ran.job.c took item body es p entry q c.note_done.new.run c.settle.new.run c.settle.result (c.note_done.ensures.done q.was.hand q.was.old (told_by q.was.hand.item es p.told) p.entering.unreached (note law v k ran.job.w ran.job.c took item body es p entry q)) c.settle.ensures)

pub returns-clause-system : goal.returns-clause-system
returns-clause-system c =
    let law : Laws = record { spacious = c.spacious_runs_stand.ensures; legal_is = c.dones_are_legal.ensures; unsettle = c.dones_unsettle.ensures; recorded_is = c.dones_are_recorded.ensures; settled_is = c.settled_stands.ensures } in
    let v = c.args.run.now in
    let k = c.prepare.new.run in
    let ran = c.args.ran.now in
    let item = ran.job.item in
    let p = c.in_ok-ready.ready in
    let took = c.position_of-took.result in
    let body = c.args.after in
    let es = c.args.effects.now in
    let entry = Did ran.job.w ran.job.c took c.args.kept c.told_by.result c.in_ok-unreached.unreached in
    let know = known v k ran took body es p entry c.told_by.result c.in_ok-unreached.unreached c.args.kept c.requires.run c.requires.job c.requires.lives c.requires.done c.position_of-took.ensures c.prepare.ensures.same c.in_ok-ready.ensures.found refl
    c.requires.kept c.told_by.ensures c.in_ok-unreached.ensures
    in
    ∥∥₁_elim know (Coded-set system_row.coded _ _) (λ q. system_same law v k ran.job.w ran.job.c took item body es p entry q c.note_done.new.run c.settle.new.run c.settle.result (c.note_done.ensures.done q.was.hand q.was.old (told_by q.was.hand.item es p.told) p.entering.unreached (note law v k ran.job.w ran.job.c took item body es p entry q)) c.settle.ensures)

pub returns-clause-plan : goal.returns-clause-plan
returns-clause-plan c =
    let law : Laws = record { spacious = c.spacious_runs_stand.ensures; legal_is = c.dones_are_legal.ensures; unsettle = c.dones_unsettle.ensures; recorded_is = c.dones_are_recorded.ensures; settled_is = c.settled_stands.ensures } in
    let v = c.args.run.now in
    let k = c.prepare.new.run in
    let ran = c.args.ran.now in
    let item = ran.job.item in
    let p = c.in_ok-ready.ready in
    let took = c.position_of-took.result in
    let body = c.args.after in
    let es = c.args.effects.now in
    let entry = Did ran.job.w ran.job.c took c.args.kept c.told_by.result c.in_ok-unreached.unreached in
    let know = known v k ran took body es p entry c.told_by.result c.in_ok-unreached.unreached c.args.kept c.requires.run c.requires.job c.requires.lives c.requires.done c.position_of-took.ensures c.prepare.ensures.same c.in_ok-ready.ensures.found refl
    c.requires.kept c.told_by.ensures c.in_ok-unreached.ensures
    in
    ∥∥₁_elim know (Coded-set plan_row.coded _ _) (λ q. plan_same law v k ran.job.w ran.job.c took item body es p entry q c.note_done.new.run c.settle.new.run c.settle.result (c.note_done.ensures.done q.was.hand q.was.old (told_by q.was.hand.item es p.told) p.entering.unreached (note law v k ran.job.w ran.job.c took item body es p entry q)) c.settle.ensures)
