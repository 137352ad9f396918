use Rattle.std.proofs.Common.{◌≡◌, ℕ, [], ◌∷◌, sym, ap, ◌∙◌, subst, length, Some, arith}
use Rattle.std.specs.Prelude.{is_some}
use Rattle.std.specs.Arc.{arc_value}
use Rattle.std.specs.Option.{option_map}
use Rattle.std.specs.Ordering.{nat_cmp}
use Rattle.std.specs.Coded.{coded_list, coded_option, coded×, coded_ℕ}
use Rattle.std.proofs.Math.Logic.{∥∥₁_elim, ∥∥₁_map, ∥∥₁_map₂}
use base.Stored.{Coded-set}
use Rattle.kom_index.specs.Entries.{value_of}
use Rattle.kom_lang.specs.declared.body.Body.{Body}
use Rattle.kom_record.specs.declared.entry.Outcome.{Outcome}
use Rattle.kom_record.specs.declared.entry.Outcome.TheVariants as outcome
use Rattle.kom_record.specs.declared.entry.Entry.TheVariants.{Did}
use Rattle.kom_record.specs.declared.item.Item.{Item}
use Rattle.kom_record.specs.Answers.{wakes}
use Rattle.kom_record.specs.Bodies.{nearest}
use Rattle.kom_record.specs.Reaction.{Reacts}
use Rattle.kom_laws.proofs.Members.{Some-injective}
use Rattle.kom_state.specs.Parts.{state_of}
use Rattle.kom_system.specs.declared.system.System.{System}
use Rattle.kom_turns.specs.Runs.{history_of, system_of}
use Rattle.kom_turns.proofs.Standing.{at_most, below, is_made, said, same_number}
use Rattle.kom_endings.proofs.Dids.{hand_by, job_there, made_there}
use Rattle.kom_faults.specs.Faulted.{fault_of}
use Rattle.kom_faults.proofs.Passive.{ended_as, fault_added, unsettled, who}
use Rattle.kom_faults.proofs.Roomier.{nobody, noted_before, roomier_stands}
use Rattle.kom_faults.proofs.ends.end_fault.Goals as goal

fault_is : (o : Outcome) (n : ℕ) → fault_of o ≡ Some n → o ≡ outcome.Fault n
fault_is outcome.Void n e = absurd cc
fault_is (outcome.Fault k) n e = ap outcome.Fault (Some-injective e)
fault_is (outcome.Done body effects) n e = absurd cc

pub told_of-told-requires : goal.told_of-told-requires
told_of-told-requires c =
    let v = c.args.run.now in
    below _ _ c.requires.run (λ s. is_made (system_of v) (history_of v) (state_of v.state) s.state c.args.ran.now.job.c c.requires.lives)

pub returns-in_err-room-clause-run : goal.returns-in_err-room-clause-run
returns-in_err-room-clause-run c = ∥∥₁_map c.requires.run (roomier_stands c.same_states_follow.ensures c.numbers_stay.ensures c.args.run.now c.make_room.new.run c.make_room.ensures.same)

pub position_of-took-requires : goal.position_of-took-requires
position_of-took-requires c =
    let v = c.args.run.now in
    let job = c.args.ran.now.job in
    said _ c.requires.run (λ s. ap (λ js. is_some (value_of nat_cmp job.w js)) c.make_room.ensures.same.jobs ∙ ap is_some (job_there v job.w c.requires.job.hand s c.requires.job.found))

pub note_fault-requires-clause-living : goal.note_fault-requires-clause-living
note_fault-requires-clause-living c =
    let at = c.args.ran.now.job.c in
    said _ c.requires.run (λ s. c.make_room.ensures.same.state.tree.living at ∙ s.state.living at ∙ c.requires.lives)

pub note_fault-requires-clause-bound : goal.note_fault-requires-clause-bound
note_fault-requires-clause-bound c =
    at_most _ _ c.requires.run (λ s.
    let a = ap length c.make_room.ensures.same.state.tree.nodes in
    let b = ap (λ m. m.bound) c.make_room.ensures.same.marks in
    let h = s.marks_bound in
    omega (arith, a, b, h))

pub end_job-requires-clause-made : goal.end_job-requires-clause-made
end_job-requires-clause-made c =
    let v = c.args.run.now in
    let job = c.args.ran.now.job in
    below _ _ c.requires.run (λ s.
    let a = made_there v job.c job.body s c.requires.job.body in
    let e = ap (λ m. m.bound) (c.note_fault.ensures.noted.busy ∙ c.make_room.ensures.same.busy) in
    omega (arith, a, e))

pub settle-requires-clause-room : goal.settle-requires-clause-room
settle-requires-clause-room c =
    at_most _ _ c.requires.run (λ s.
    let a = ap (λ m. length m.list) c.end_job.ensures.marks in
    let b = c.note_fault.ensures.noted.marks.few in
    let d = ap (λ m. length m.list) c.make_room.ensures.same.marks in
    let e = nobody c.args.run.now.marks s.unmarked in
    let f = c.in_ok-room.ensures.list.1 in
    omega (arith, a, b, d, e, f))

pub settle-requires-clause-within : goal.settle-requires-clause-within
settle-requires-clause-within c =
    at_most _ _ c.requires.run (λ s.
    let a = ap (λ m. m.bound) c.end_job.ensures.marks in
    let b = c.note_fault.ensures.noted.marks.bound in
    let d = ap (λ m. m.bound) c.make_room.ensures.same.marks in
    let e = ap (λ m. m.bound) (c.end_job.ensures.runnable ∙ c.note_fault.ensures.noted.runnable ∙ c.make_room.ensures.same.runnable) in
    let h = s.marks_within in
    omega (arith, a, b, d, e, h))

reaction : (S T : System) (b : Body) (i j : Item) (o : Outcome) (n : ℕ) → T ≡ S → i ≡ j → o ≡ outcome.Fault n → Reacts T.declarations b i o → Reacts S.declarations b j (outcome.Fault n)
reaction S T b i j o n x y z r = subst (λ (q : System × Item × Outcome). Reacts q.0.declarations b q.1 q.2) (λ k. (x k, y k, z k)) r

pub returns-clause-answer : goal.returns-clause-answer
returns-clause-answer c =
    let v = c.args.run.now in
    let k = c.make_room.new.run in
    let n = c.note_fault.new.run in
    let u = c.end_job.new.run in
    let x = c.settle.new.run in
    let job = c.args.ran.now.job in
    let hand = c.requires.job.hand in
    let number = c.number_of-number.result in
    let told = c.told_of-told.result in
    let noted = noted_before job.c number told v k n c.make_room.ensures.same c.note_fault.ensures.noted in
    let took = same_number c.position_of-took.result hand.took c.requires.run (λ s.
    Some-injective (sym c.position_of-took.ensures ∙ ap (λ js. option_map (λ h. h.took) (value_of nat_cmp job.w js)) c.make_room.ensures.same.jobs ∙ ap (option_map (λ h. h.took)) (job_there v job.w hand s c.requires.job.found)))
    in
    let t = ended_as n u job.w job.c number told hand.took c.position_of-took.result c.component_of.result c.new.result took c.component_of.ensures c.new.ensures c.end_job.ensures in
    let told_is : told ≡ nearest (system_of v) (history_of v) job.c = ∥∥₁_elim c.requires.run (Coded-set (coded_option (coded× coded_ℕ coded_ℕ)) _ _) (λ s. c.told_of-told.ensures.told (system_of v) v.env.plan (history_of v) s.legal s.state c.requires.lives) in
    let history = ap (λ k. k.history) c.settle.ensures.kept ∙ t.history ∙ ap (λ R. Did job.w job.c hand.took (outcome.Fault number) (who told) [] ∷ R) noted.history in
    record {
      hand = hand;
      found = c.requires.job.found;
      added = history
          ∙ fault_added (system_of v) (history_of v) job.w job.c number told hand c.args.ran.now.outcome c.requires.lives (fault_is c.args.ran.now.outcome number c.number_of-number.ensures) told_is
          (hand_by (history_of v) job.w hand c.requires.job.found) (sym c.requires.job.component);
      woken_are = ∥∥₁_elim c.requires.run (Coded-set (coded_list coded_ℕ) _ _) (λ s. ∥∥₁_elim c.args.ran.now.reacted (Coded-set (coded_list coded_ℕ) _ _) (λ r.
          (c.settled_stands.ensures (system_of v) v.env.plan (history_of v) _ u x c.settle.result
          (unsettled c.fault_follows.ensures c.faults_are_put.ensures c.numbers_stay.ensures c.follows_a_did.ensures c.busy_goes_on.ensures c.counts_go_on.ensures c.out_is_counted.ensures c.queued_is_counted.ensures c.unmarked_stay.ensures
          v n job.w job.c number told hand job.body s c.requires.job.found (sym c.requires.job.component) c.requires.job.body c.requires.lives
          (reaction (arc_value v.system) (arc_value job.system) job.body job.item hand.item c.args.ran.now.outcome number c.requires.job.system c.requires.job.item (fault_is c.args.ran.now.outcome number c.number_of-number.ensures) r)
          told_is noted u t)
          c.settle.ensures).1
          ∙ sym (ap (wakes (system_of v) v.env.plan (history_of v)) history)));
    }

pub returns-clause-run : goal.returns-clause-run
returns-clause-run c =
    let v = c.args.run.now in
    let k = c.make_room.new.run in
    let n = c.note_fault.new.run in
    let u = c.end_job.new.run in
    let x = c.settle.new.run in
    let job = c.args.ran.now.job in
    let hand = c.requires.job.hand in
    let number = c.number_of-number.result in
    let told = c.told_of-told.result in
    let noted = noted_before job.c number told v k n c.make_room.ensures.same c.note_fault.ensures.noted in
    let took = same_number c.position_of-took.result hand.took c.requires.run (λ s.
    Some-injective (sym c.position_of-took.ensures ∙ ap (λ js. option_map (λ h. h.took) (value_of nat_cmp job.w js)) c.make_room.ensures.same.jobs ∙ ap (option_map (λ h. h.took)) (job_there v job.w hand s c.requires.job.found)))
    in
    let t = ended_as n u job.w job.c number told hand.took c.position_of-took.result c.component_of.result c.new.result took c.component_of.ensures c.new.ensures c.end_job.ensures in
    ∥∥₁_map₂ c.requires.run c.args.ran.now.reacted (λ s r.
    (c.settled_stands.ensures (system_of v) v.env.plan (history_of v) _ u x c.settle.result
    (unsettled c.fault_follows.ensures c.faults_are_put.ensures c.numbers_stay.ensures c.follows_a_did.ensures c.busy_goes_on.ensures c.counts_go_on.ensures c.out_is_counted.ensures c.queued_is_counted.ensures c.unmarked_stay.ensures
    v n job.w job.c number told hand job.body s c.requires.job.found (sym c.requires.job.component) c.requires.job.body c.requires.lives
    (reaction (arc_value v.system) (arc_value job.system) job.body job.item hand.item c.args.ran.now.outcome number c.requires.job.system c.requires.job.item (fault_is c.args.ran.now.outcome number c.number_of-number.ensures) r)
    (c.told_of-told.ensures.told (system_of v) v.env.plan (history_of v) s.legal s.state c.requires.lives) noted u t)
    c.settle.ensures).0)

pub end_job-requires-clause-room : goal.end_job-requires-clause-room
end_job-requires-clause-room c =
    let a = ap (λ k. k.spare) c.note_fault.ensures.kept in
    let b = c.in_ok-room.ensures.kept in
    omega (arith, a, b)
