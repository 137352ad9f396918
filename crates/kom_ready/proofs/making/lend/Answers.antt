use Rattle.std.proofs.Common.{◌≡◌, ◌<◌, refl, sym, ap, ◌∙◌, ◌+◌, subst, length, arith}
use Rattle.std.specs.List.{sum_by}
use Rattle.crossbeam_deque.specs.Handles.{stealer_deque}
use Rattle.kom_ready.specs.Guests.{taken_by}
use Rattle.kom_ready.specs.Lots.{AreLent, deques_of}
use Rattle.kom_ready.proofs.Guested.{long_map, stands_at}
use Rattle.kom_ready.proofs.Keeping.{forks}
use Rattle.kom_ready.proofs.Lending.{lend_more, next_deque}
use Rattle.kom_ready.proofs.making.lend.Goals as goal

pub another-pass-requires : goal.another-pass-requires
another-pass-requires c =
    let lots = c.loop-i.lots.items in
    let inv = c.loop-i.invariant.lent in
    let few = c.requires.few in
    let there = c.requires.there in
    let count = inv.count in
    let within : c.args.j < length lots = omega (arith, there, count) in
    let long = long_map stealer_deque c.args.set.now.thieves.items in
    let ok = c.args.set.now.thieves.ok.0 in
    let end = c.len-i-end.ensures in
    let test = c.loop-i-test.true in
    let part = (inv.each c.args.j c.index_mut.result.now (stands_at lots c.args.j c.index_mut.result.now within c.index_mut.ensures.value)).at refl in
    forks _ _ (omega (arith, part, few, long, ok, end, test))

pub invariant_of-index_mut : goal.invariant_of-index_mut
invariant_of-index_mut c =
    let was = c.index_mut.result.now in
    let e = c.another-pass.ensures.rule.0 in
    let lots = c.loop-i.lots.items in
    let inv = c.loop-i.invariant.lent in
    let few = c.requires.few in
    let there = c.requires.there in
    let count = inv.count in
    let within : c.args.j < length lots = omega (arith, there, count) in
    let long = long_map stealer_deque c.args.set.now.thieves.items in
    let ok = c.args.set.now.thieves.ok.0 in
    let end = c.len-i-end.ensures in
    let test = c.loop-i-test.true in
    let part = (inv.each c.args.j was (stands_at lots c.args.j was within c.index_mut.ensures.value)).at refl in
    record {
      fifo = c.another-pass.ensures.same.0.1 ∙ was.fifo;
      part = let p = ap (λ v. v.parts) e in omega (arith, p, part, few, long, ok, end, test);
      counted = ap (λ v. length v.pushed) e ∙ was.counted;
      balanced = λ h. ap (λ v. sum_by h v.put) e ∙ was.balanced h ∙ ap (λ v. sum_by h v.pushed + sum_by (taken_by h) was.guests.items) (sym e);
    }

pub loop-i-preserved : goal.loop-i-preserved
loop-i-preserved c =
    let lots = c.loop-i.lots.items in
    let ds = deques_of c.args.set.now in
    let j = c.args.j in
    let i = c.loop-i.i in
    let inv = c.loop-i.invariant.lent in
    let first = c.index_mut.result.now in
    let second = c.index_mut-in-loop-i.result.now in
    let few = c.requires.few in
    let there = c.requires.there in
    let count = inv.count in
    let within : j < length lots = omega (arith, there, count) in
    let long = long_map stealer_deque c.args.set.now.thieves.items in
    let ok = c.args.set.now.thieves.ok.0 in
    let end = c.len-i-end.ensures in
    let test = c.loop-i-test.true in
    let part = (inv.each j first (stands_at lots j first within c.index_mut.ensures.value)).at refl in
    let e = c.another-pass.ensures in
    record {
      lent = lend_more ds j i lots inv first _ second _ _ within (omega (arith, long, ok, end, test, count)) c.index_mut.ensures.value (omega (arith, part, few, long, ok, end, test))
          (record { number = refl; own = e.same.0.0; view = e.rule.0; guests = refl }) c.index_mut-in-loop-i.ensures.value (λ k. (e.same.2.0 k, e.same.2.1 k)) refl
          (record { number = refl; own = refl; view = refl; guests = c.in_ok-push.ensures.items });
    }

pub returns : goal.returns
returns c =
    let ds = deques_of c.args.set.now in
    let lots = c.loop-i.lots.items in
    let long = long_map stealer_deque c.args.set.now.thieves.items in
    let ok = c.args.set.now.thieves.ok.0 in
    let end = c.len-i-end.ensures in
    let test = c.loop-i-test.false in
    let at = c.loop-i.auto.i-end in
    let all : c.loop-i.i ≡ length ds = omega (arith, long, ok, end, test, at) in
    next_deque ds c.args.j lots (subst (λ k. AreLent ds c.args.j k k lots) all c.loop-i.invariant.lent)
