use Rattle.std.proofs.Common.{sym, ap, ◌∙◌, arith}
use Rattle.std.specs.Prelude.{is_some}
use Rattle.std.specs.Option.{option_map}
use Rattle.std.specs.Ordering.{nat_cmp}
use Rattle.std.specs.Coded.{coded_list, coded_ℕ}
use Rattle.std.proofs.Math.Logic.{∥∥₁_elim, ∥∥₁_map}
use base.Stored.{Coded-set}
use Rattle.kom_index.specs.Entries.{value_of}
use Rattle.kom_record.specs.Answers.{wakes}
use Rattle.kom_laws.proofs.Members.{Some-injective}
use Rattle.kom_turns.specs.Runs.{history_of, system_of}
use Rattle.kom_turns.proofs.Standing.{said, below, same_number, same_stands}
use Rattle.kom_endings.proofs.Dids.{job_there, made_there, ended_after, hand_by}
use Rattle.kom_endings.proofs.Destroyed.{ended_as, void_added, void_stands, none_woken}
use Rattle.kom_endings.proofs.voids.end_void.Goals as goal

pub returns-in_err-make_room-clause-run : goal.returns-in_err-make_room-clause-run
returns-in_err-make_room-clause-run c = ∥∥₁_map c.requires.run (same_stands c.args.run.now c.make_room.new.run c.make_room.ensures.same)

pub position_of-took-requires : goal.position_of-took-requires
position_of-took-requires c =
    let v = c.args.run.now in
    let job = c.args.ran.now.job in
    said _ c.requires.run (λ s. ap (λ js. is_some (value_of nat_cmp job.w js)) c.make_room.ensures.same.jobs ∙ ap is_some (job_there v job.w c.requires.job.hand s c.requires.job.found))

pub end_job-requires-clause-job : goal.end_job-requires-clause-job
end_job-requires-clause-job c =
    let v = c.args.run.now in
    let job = c.args.ran.now.job in
    said _ c.requires.run (λ s. ap (λ js. is_some (value_of nat_cmp job.w js)) c.make_room.ensures.same.jobs ∙ ap is_some (job_there v job.w c.requires.job.hand s c.requires.job.found))

pub end_job-requires-clause-made : goal.end_job-requires-clause-made
end_job-requires-clause-made c =
    let v = c.args.run.now in
    let job = c.args.ran.now.job in
    below _ _ c.requires.run (λ s.
    let a = made_there v job.c job.body s c.requires.job.body in
    let e = ap (λ m. m.bound) c.make_room.ensures.same.busy in
    omega (arith, a, e))

pub returns-clause-answer : goal.returns-clause-answer
returns-clause-answer c =
    let v = c.args.run.now in
    let k = c.make_room.new.run in
    let n = c.end_job.new.run in
    let job = c.args.ran.now.job in
    let hand = c.requires.job.hand in
    let same = c.make_room.ensures.same in
    let took = same_number c.position_of-took.result hand.took c.requires.run (λ s.
    Some-injective (sym c.position_of-took.ensures ∙ ap (λ js. option_map (λ h. h.took) (value_of nat_cmp job.w js)) same.jobs ∙ ap (option_map (λ h. h.took)) (job_there v job.w hand s c.requires.job.found)))
    in
    let t = ended_after v k n job.w job.c _ same (ended_as k n job.w job.c c.position_of-took.result hand.took c.new.result took c.new.ensures c.end_job.ensures) in
    record {
      hand = hand;
      found = c.requires.job.found;
      added = t.history ∙ void_added (system_of v) (history_of v) job.w job.c hand c.args.ran.now.outcome c.requires.destroyed (hand_by (history_of v) job.w hand c.requires.job.found) (sym c.requires.job.component);
      woken_are = c.new-2.ensures ∙ ∥∥₁_elim c.requires.run (Coded-set (coded_list coded_ℕ) _ _) (λ s.
          sym (ap (wakes (system_of v) v.env.plan (history_of v)) t.history
          ∙ none_woken c.void_follows.ensures c.follows_a_did.ensures c.busy_goes_on.ensures c.counts_go_on.ensures c.out_is_counted.ensures c.queued_is_counted.ensures c.same_work_goes_on.ensures c.untouched_stay.ensures c.wakes_are_marked.ensures
          v n job.w job.c hand job.body s c.requires.job.found (sym c.requires.job.component) c.requires.job.body c.requires.destroyed));
    }

pub returns-clause-run : goal.returns-clause-run
returns-clause-run c =
    let v = c.args.run.now in
    let k = c.make_room.new.run in
    let n = c.end_job.new.run in
    let job = c.args.ran.now.job in
    let hand = c.requires.job.hand in
    let same = c.make_room.ensures.same in
    let took = same_number c.position_of-took.result hand.took c.requires.run (λ s.
    Some-injective (sym c.position_of-took.ensures ∙ ap (λ js. option_map (λ h. h.took) (value_of nat_cmp job.w js)) same.jobs ∙ ap (option_map (λ h. h.took)) (job_there v job.w hand s c.requires.job.found)))
    in
    let t = ended_after v k n job.w job.c _ same (ended_as k n job.w job.c c.position_of-took.result hand.took c.new.result took c.new.ensures c.end_job.ensures) in
    ∥∥₁_map c.requires.run (λ s.
    void_stands c.void_follows.ensures c.follows_a_did.ensures c.busy_goes_on.ensures c.counts_go_on.ensures c.out_is_counted.ensures c.queued_is_counted.ensures c.same_work_goes_on.ensures c.untouched_stay.ensures c.wakes_are_marked.ensures
    v n job.w job.c hand job.body s c.requires.job.found (sym c.requires.job.component) c.requires.job.body c.requires.destroyed t)
