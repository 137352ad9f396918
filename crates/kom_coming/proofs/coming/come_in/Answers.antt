use Rattle.std.proofs.Common.{◌<◌, ◌+◌, ◌==◌, sym, ◌∙◌, subst, take}
use Rattle.std.proofs.lemmas.Bool.{eqb-true}
use Rattle.kom_base.specs.Numbers.{same_dir}
use Rattle.kom_laws.proofs.Unaffected.{and_both}
use Rattle.kom_entering.specs.Lists.{numbers_into}
use Rattle.kom_state.specs.Parts.{state_of, queue_spare}
use Rattle.kom_state.specs.Steps.{into_one}
use Rattle.kom_coming.proofs.Little.{keeps_again, one_more_into, one_room, one_used, still_there, there_at}
use Rattle.kom_coming.proofs.Rooms.{alike}
use Rattle.kom_coming.proofs.coming.come_in.Goals as goal

pub come_one-requires-clause-there : goal.come_one-requires-clause-there
come_one-requires-clause-there c =
    let q = c.coming-item.result in
    let i = c.loop-coming.coming-index in
    still_there (numbers_into (take i c.args.comings.now)) (state_of c.args.state.now) (state_of c.loop-coming.state) q.chan q.dir c.loop-coming.invariant.step
    (there_at c.args.comings.now (state_of c.args.state.now) i q c.requires.there c.loop-coming-test.true c.coming-item.is)

pub come_one-requires-clause-spare : goal.come_one-requires-clause-spare
come_one-requires-clause-spare c =
    let q = c.coming-item.result in
    let i = c.loop-coming.coming-index in
    one_room c.args.comings.now i q (queue_spare c.args.state.now q.chan q.dir) (queue_spare c.loop-coming.state q.chan q.dir) c.loop-coming-test.true c.coming-item.is
    (c.loop-coming.invariant.queues q.chan q.dir) (c.requires.room q.chan q.dir)

pub loop-coming-preserved : goal.loop-coming-preserved
loop-coming-preserved c =
    let was = c.loop-coming.invariant in
    let qs = c.args.comings.now in
    let q = c.coming-item.result in
    let i = c.loop-coming.coming-index in
    let lt = c.loop-coming-test.true in
    let is = c.coming-item.is in
    let m = state_of c.args.state.now in
    let k = state_of c.loop-coming.state in
    let n = state_of c.come_one.new.state in
    let enough = one_room qs i q (queue_spare c.args.state.now q.chan q.dir) (queue_spare c.loop-coming.state q.chan q.dir) lt is (was.queues q.chan q.dir) (c.requires.room q.chan q.dir) in
    record {
      step = c.comes_add_up.ensures (numbers_into (take i qs)) (into_one q.chan q.dir q.no) (numbers_into (take (i + 1) qs)) m k n (one_more_into qs i q lt is) was.step c.come_one.ensures.step;
      room = keeps_again c.args.state.now c.loop-coming.state c.come_one.new.state was.room c.come_one.ensures.room;
      controls = λ d. c.come_one.ensures.controls d ∙ was.controls d;
      queues = one_used qs i q c.args.state.now c.loop-coming.state c.come_one.new.state lt is was.queues c.come_one.ensures.queues
          (λ x d h. let w = and_both (x == q.chan) (same_dir q.dir d) h in
          subst (λ y. 0 < queue_spare c.loop-coming.state y d) (sym (eqb-true x q.chan w.0)) (subst (λ f. 0 < queue_spare c.loop-coming.state q.chan f) (alike q.dir d w.1) enough));
      marked = c.marks_add_up.ensures i 1 c.args.marks.now c.loop-coming.marks c.come_one.new.marks m k n was.marked c.come_one.ensures.marked;
    }
