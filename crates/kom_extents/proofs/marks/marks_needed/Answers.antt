use Rattle.std.proofs.Common.{◌≡◌, ap, length, arith}
use Rattle.kom_state.specs.Parts.{state_of}
use Rattle.kom_nursery.specs.Nurseries.{all_of, broods_of}
use Rattle.kom_record.specs.Entries.{acts}
use Rattle.kom_extents.proofs.Counted.{all_taken, enough, few_in_all, one_more}
use Rattle.kom_extents.proofs.marks.marks_needed.Goals as goal

pub loop-k-init : goal.loop-k-init
loop-k-init c = record { most = omega arith; few = omega arith }

pub overflow_add-most : goal.overflow_add-most
overflow_add-most c =
    let now = c.loop-k.invariant.few in
    let more = c.marks_for-most.ensures.small in
    let low = c.loop-k-test.true in
    let few = c.requires.few in
    let created = c.requires.few_created in
    let is = c.instances-created.ensures in
    omega (arith, now, more, low, few, created, is)

pub loop-k-preserved : goal.loop-k-preserved
loop-k-preserved c = record {
  most =
      let a = one_more (state_of c.args.state.now) c.args.c c.instances-created.result c.args.effects.now c.loop-k.k c.index-effects-k.result c.loop-k-test.true c.index-effects-k.is in
      let b = c.loop-k.invariant.most in
      let d = c.marks_for-most.ensures.most in
      omega (arith, a, b, d);
  few = let a = c.loop-k.invariant.few in let b = c.marks_for-most.ensures.small in omega (arith, a, b);
}

pub returns-clause-enough : goal.returns-clause-enough
returns-clause-enough c S R item s e =
    let v = c.args.state.now in
    let n = c.instances-created.result in
    let total : length (all_of c.args.nursery.now) ≡ length (all_of (broods_of S (acts R) c.args.c item c.args.effects.now)) = ap (λ b. length (all_of b)) e in
    let is = c.instances-created.ensures in
    let a = enough S R c.args.c item v n s c.args.effects.now (omega (arith, total, is)) in
    let b = all_taken (state_of v) c.args.c n c.args.effects.now c.loop-k.k c.loop-k-test.false in
    let d = c.loop-k.invariant.most in
    omega (arith, a, b, d, total, is)

pub returns-clause-small : goal.returns-clause-small
returns-clause-small c =
    let v = c.args.state.now in
    let n = c.instances-created.result in
    let is = c.instances-created.ensures in
    let a = few_in_all (state_of v) c.args.c n c.args.effects.now c.requires.few in
    let b = all_taken (state_of v) c.args.c n c.args.effects.now c.loop-k.k c.loop-k-test.false in
    let d = c.loop-k.invariant.most in
    omega (arith, a, b, d, is)
