use Rattle.std.proofs.Common.{◌&&◌, ◌||◌, ◌∷◌, sym, ap, ◌∙◌, subst, length, arith}
use Rattle.std.specs.Prelude.{is_none, is_some}
use Rattle.std.proofs.Math.Logic.{∥∥₁_map}
use Rattle.kom_doing.specs.Marks.{marks_of}
use Rattle.kom_record.specs.Entries.{acts}
use Rattle.kom_comps.specs.Members.{has}
use Rattle.kom_system.specs.WellFormed.{IsDeclared}
use Rattle.kom_record.specs.declared.entry.Outcome.TheVariants as outcome
use Rattle.kom_record.specs.Bodies.{catches}
use Rattle.kom_record.specs.Ready.{queued}
use Rattle.kom_raised.specs.Raised.{is_raised}
use Rattle.kom_refine.specs.Points.{StandsAt, before_effects_of, with_effects}
use Rattle.kom_refine.specs.Steps.{IsEnded}
use Rattle.kom_state.specs.Parts.{IsOf, state_of}
use Rattle.kom_turns.specs.Runs.{history_of, system_of}
use Rattle.kom_turns.proofs.Standing.{at_most, below, said, same_number}
use Rattle.kom_wakes.specs.Work.{HasSameWork}
use Rattle.kom_endings.proofs.Dids.{job_there, made_there}
use Rattle.kom_commits.specs.Acting.{IsEnacted, Starts, StartsAt, entry_of}
use Rattle.kom_commits.specs.Counted.{waits_in_all}
use Rattle.kom_noted.proofs.Dues.{added, ending, followed, short, starts, to_go, waits}
use Rattle.kom_noted.proofs.noting.note_done.Goals as goal

pub enact-requires-clause-starts : goal.enact-requires-clause-starts
enact-requires-clause-starts c =
    ∥∥₁_map c.requires.note (λ t. subst (λ y. Starts y.declarations c.args.c c.args.item.now c.args.told.now c.args.body c.args.effects.now c.args.entering.now c.args.nursery.now c.args.run.now.state) (sym c.deref-2.ensures) (record { ending = ending c.args.w c.args.c c.args.item.now c.args.told.now c.args.body c.args.effects.now c.args.entering.now c.args.nursery.now c.args.did t.hand t.old t.to t.places c.args.run.now t.note; starts = starts c.args.w c.args.c c.args.item.now c.args.told.now c.args.body c.args.effects.now c.args.entering.now c.args.nursery.now c.args.did t.hand t.old t.to t.places c.args.run.now t.note }))

pub enact-requires-clause-queued : goal.enact-requires-clause-queued
enact-requires-clause-queued c =
    same_number c.args.run.now.counts.queued (waits_in_all c.args.run.now.state) c.requires.note (λ t. waits c.args.w c.args.c c.args.item.now c.args.told.now c.args.body c.args.effects.now c.args.entering.now c.args.nursery.now c.args.did t.hand t.old t.to t.places c.args.run.now t.note c.queued_is_below.ensures c.channels_are_numbered.ensures)

pub enact-requires-clause-short : goal.enact-requires-clause-short
enact-requires-clause-short c =
    at_most c.args.run.now.counts.queued 100000000000000000 c.requires.note (λ t. short c.args.w c.args.c c.args.item.now c.args.told.now c.args.body c.args.effects.now c.args.entering.now c.args.nursery.now c.args.did t.hand t.old t.to t.places c.args.run.now t.note c.queues_are_short.ensures (subst (λ y. IsDeclared y.declarations) c.deref.ensures c.well_formed-2.ensures.declared))

pub end_job-requires-clause-job : goal.end_job-requires-clause-job
end_job-requires-clause-job c =
    said _ c.requires.note (λ t. ap is_some (job_there c.args.run.now c.args.w t.hand t.note.stands t.note.due.found))

pub end_job-requires-clause-made : goal.end_job-requires-clause-made
end_job-requires-clause-made c =
    below _ _ c.requires.note (λ t. made_there c.args.run.now c.args.c t.old t.note.stands t.note.due.body_is)

pub absorb_all-requires-clause-will : goal.absorb_all-requires-clause-will
absorb_all-requires-clause-will c =
    ∥∥₁_map c.requires.note (λ t. (system_of c.args.run.now, c.args.run.now.env.plan, to_go c.args.w c.args.c c.args.item.now c.args.told.now c.args.body c.args.effects.now c.args.entering.now c.args.nursery.now c.args.did t.hand t.old t.to t.places c.args.run.now t.note c.end_job.new.run c.end_job.ensures.history c.end_job.ensures.env (subst (λ y. IsDeclared y.declarations) c.deref.ensures c.well_formed-2.ensures.declared) c.as_slice.result.now c.as_slice.ensures))

pub returns : goal.returns
returns c =
    record {
      done = λ hand old to places t.
          let v = c.args.run.now in
          let n = c.end_job.new.run in
          let e = c.end_job.ensures in
          let x = ending c.args.w c.args.c c.args.item.now c.args.told.now c.args.body c.args.effects.now c.args.entering.now c.args.nursery.now c.args.did hand old to places c.args.run.now t in
          let s = subst (λ y. StartsAt y.declarations c.args.c c.args.item.now c.args.told.now c.args.body c.args.effects.now c.args.entering.now c.args.nursery.now c.args.run.now.state x) (sym c.deref-2.ensures) (starts c.args.w c.args.c c.args.item.now c.args.told.now c.args.body c.args.effects.now c.args.entering.now c.args.nursery.now c.args.did hand old to places c.args.run.now t) in
          let r : IsEnacted (system_of v) c.args.c c.args.item.now c.args.body c.args.effects.now x c.enact.new.state = subst (λ y. IsEnacted y.declarations c.args.c c.args.item.now c.args.body c.args.effects.now x c.enact.new.state) c.deref-2.ensures (c.enact.ensures.enacted x s) in
          let m = c.enact.ensures.marks x s in
          let nodes = ap (λ z. length (state_of z).nodes) e.state in
          let mb = ap (λ k. k.bound) e.marks in
          let rb = ap (λ k. k.bound) e.runnable in
          record {
            system = e.system;
            plan = c.absorb_all.ensures.plan ∙ ap (λ o. o.plan) e.env;
            history = added c.args.w c.args.c c.args.item.now c.args.told.now c.args.body c.args.effects.now c.args.entering.now c.args.nursery.now c.args.did hand old to places c.args.run.now t n e.history e.env;
            between = r.between;
            acted = subst (λ i. StandsAt (system_of v) (with_effects (system_of v) (before_effects_of (system_of v) (history_of v) c.args.w c.args.c hand.took c.args.body c.args.effects.now to places) c.args.c i c.args.effects.now) r.between) (sym t.item_is) r.acted;
            ended = subst (λ z. IsEnded (catches (system_of v)) c.args.c (outcome.Done c.args.body c.args.effects.now) r.between (state_of z)) (sym e.state) r.ended;
            numbers = subst (λ z. IsOf (system_of v) z) (sym e.state) r.numbers;
            outside = followed c.args.w c.args.c c.args.item.now c.args.told.now c.args.body c.args.effects.now c.args.entering.now c.args.nursery.now c.args.did hand old to places c.args.run.now t n e.history e.env c.absorb_all.new.env (c.absorb_all.ensures.follows (system_of v) v.env.plan (to_go c.args.w c.args.c c.args.item.now c.args.told.now c.args.body c.args.effects.now c.args.entering.now c.args.nursery.now c.args.did hand old to places c.args.run.now t n e.history e.env (subst (λ y. IsDeclared y.declarations) c.deref.ensures c.well_formed-2.ensures.declared) c.as_slice.result.now c.as_slice.ensures));
            jobs = e.jobs;
            busy = e.busy;
            runnable = λ d. ap (λ k. has k d) e.runnable;
            leaves = λ d h. subst (λ z. HasSameWork (state_of v.state) (state_of z) d) (sym e.state) (m.leaves d (ap (λ k. has k d) (sym e.marks) ∙ h)).1;
            marked = ap (λ k. has k c.args.c) e.marks ∙ c.enact.ensures.marked;
            busy_bound = let a = c.enact.ensures.bound in let b = m.bound in let d = e.busy_bound in let f = c.requires.busy in omega (arith, nodes, a, b, d, f);
            runnable_bound = let a = c.enact.ensures.bound in let b = m.bound in let d = t.stands.marks_within in omega (arith, nodes, a, b, d, rb);
            marks_bound = let a = c.enact.ensures.bound in omega (arith, nodes, a, mb);
            marks_within = let b = m.bound in let d = t.stands.marks_within in omega (arith, b, d, mb, rb);
            steps = ap (λ k. k.steps) e.counts;
            instants = ap (λ k. k.instants) e.counts;
            unhandled = c.either-run.ensures ∙ ap (λ k. k.unhandled || c.is_unhandled-unhandled.result) e.counts
                ∙ ap (λ b. v.counts.unhandled || b) (c.is_unhandled-unhandled.ensures ∙ ap (λ i. is_raised i c.args.effects.now && is_none c.args.told.now) (sym t.item_is));
            queued_are = ap (λ k. k.queued) e.counts ∙ c.enact.ensures.queued x s ∙ ap (λ y. queued y.declarations (entry_of c.args.c c.args.effects.now x ∷ history_of v)) c.deref-2.ensures;
            out_are =
                let a = c.out_rises.ensures (system_of v) (history_of v) c.args.w c.args.c hand.took (outcome.Done c.args.body c.args.effects.now) to places c.args.entering.now t.entering_is in
                let b = ap (λ k. k.out) e.counts in
                let d = t.stands.counts_are.out_are in
                let f = c.len.ensures in
                omega (arith, a, b, d, f);
          };
      few = λ hand old to places t.
          let v = c.args.run.now in
          let x = ending c.args.w c.args.c c.args.item.now c.args.told.now c.args.body c.args.effects.now c.args.entering.now c.args.nursery.now c.args.did hand old to places c.args.run.now t in
          let s = subst (λ y. StartsAt y.declarations c.args.c c.args.item.now c.args.told.now c.args.body c.args.effects.now c.args.entering.now c.args.nursery.now c.args.run.now.state x) (sym c.deref-2.ensures) (starts c.args.w c.args.c c.args.item.now c.args.told.now c.args.body c.args.effects.now c.args.entering.now c.args.nursery.now c.args.did hand old to places c.args.run.now t) in
          let a = (c.enact.ensures.marks x s).few in
          let b = ap (λ k. length k.list) c.end_job.ensures.marks in
          let d = ap (λ y. marks_of y.declarations (acts (history_of v)) c.args.c c.args.item.now c.args.effects.now) c.deref-2.ensures in
          omega (arith, a, b, d);
    }
