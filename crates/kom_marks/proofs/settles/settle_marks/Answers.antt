use Rattle.std.proofs.Common.{◌+◌, ◌&&◌, not, if◌then◌else◌, length, sym, ap, ◌∙◌, arith}
use Rattle.kom_comps.specs.Members.{has}
use Rattle.kom_state.specs.Parts.{state_of}
use Rattle.kom_marks.proofs.Settling.{one_fewer, one_more, one_longer}
use Rattle.kom_marks.proofs.settles.settle_marks.Goals as goal

pub settle_one-requires-clause-below : goal.settle_one-requires-clause-below
settle_one-requires-clause-below c =
    let a = c.in-Some.ensures.below in
    let b = c.loop-c.invariant.half.marks_bound in
    let d = c.loop-c.invariant.half.bound in
    let e = c.requires.within in
    omega (arith, a, b, d, e)

pub settle_one-requires-clause-room : goal.settle_one-requires-clause-room
settle_one-requires-clause-room c =
    let a = one_fewer c.loop-c.marks c.in-Some.c c.in-Some.ensures.least.0 in
    let r = c.loop-c.invariant.room in
    omega (arith, a, r)

pub loop-c-preserved : goal.loop-c-preserved
loop-c-preserved c =
    let wakes = not c.args.closed && (has c.settle_one.new.runnable c.in-Some.c && not (has c.loop-c.runnable c.in-Some.c)) in
    let count = ap (λ b. length c.set.new.self.list + (if b then 1 else 0)) (sym c.in-Some.ensures.least.0) ∙ c.set.ensures.count in
    let long = one_longer c.loop-c.woken.items c.settle_one.new.woken.items c.in-Some.c wakes c.settle_one.ensures.woken in
    let r = c.loop-c.invariant.room in
    let s = c.settle_one.ensures.room in
    record {
      half = one_more (state_of c.args.state.now) c.args.busy.now c.args.closed c.args.runnable.now c.args.marks.now c.loop-c.runnable c.loop-c.marks c.loop-c.woken.items c.in-Some.c c.settle_one.new.runnable c.set.new.self c.settle_one.new.woken.items
          c.loop-c.invariant.half c.in-Some.ensures.least c.settle_one.ensures.again c.settle_one.ensures.others c.settle_one.ensures.woken c.set.ensures.each c.settle_one.ensures.bound c.set.ensures.bound;
      room = omega (arith, count, long, r, s);
    }
