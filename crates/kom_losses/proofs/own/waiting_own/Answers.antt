use Rattle.std.proofs.Common.{◌≡◌, ◌+◌, suc, ap, ◌∙◌, arith}
use Rattle.kom_base.specs.declared.numbers.Dir.TheVariants.{Plus, Minus}
use Rattle.kom_numbers.specs.Numbering.{count_of, first_of, total}
use Rattle.std.proofs.lemmas.Bool.{eq-eqb}
use Rattle.kom_state.specs.Parts.{state_of}
use Rattle.kom_queued.specs.Counting.{waiting_at, waiting_below}
use Rattle.kom_losses.proofs.Spans.{fits, number_is, own_all, queue_there}
use Rattle.kom_losses.proofs.Waiting.{grows}
use Rattle.kom_losses.proofs.own.waiting_own.Goals as goal

pub waiting_in_both-count-requires-clause-plus : goal.waiting_in_both-count-requires-clause-plus
waiting_in_both-count-requires-clause-plus c = queue_there c.args.state.now c.holds_together.ensures c.args.d c.loop-k.k c.channel-x.result Plus c.requires.living (c.channel-x.ensures c.channel-x.result ∙ eq-eqb c.channel-x.result c.channel-x.result (λ i. c.channel-x.result))

pub waiting_in_both-count-requires-clause-minus : goal.waiting_in_both-count-requires-clause-minus
waiting_in_both-count-requires-clause-minus c = queue_there c.args.state.now c.holds_together.ensures c.args.d c.loop-k.k c.channel-x.result Minus c.requires.living (c.channel-x.ensures c.channel-x.result ∙ eq-eqb c.channel-x.result c.channel-x.result (λ i. c.channel-x.result))

number : (c : goal.After-waiting_in_both-count) → c.channel-x.result ≡ first_of c.args.state.now.numbers c.args.d + c.loop-k.k
number c =
    let e = c.wire_count-k-end.ensures.wires in
    let l = c.loop-k-test.true in
    number_is c.args.state.now.numbers c.args.d c.loop-k.k c.channel-x.result (omega (arith, e, l)) c.channel-x.ensures

pub waiting_in_both-count-requires-clause-few : goal.waiting_in_both-count-requires-clause-few
waiting_in_both-count-requires-clause-few c =
    let v = c.args.state.now in
    let m = state_of v in
    let first = first_of v.numbers c.args.d in
    let e = c.wire_count-k-end.ensures.wires in
    let l = c.loop-k-test.true in
    let is = ap (waiting_at m) (number_is v.numbers c.args.d c.loop-k.k c.channel-x.result (omega (arith, e, l)) c.channel-x.ensures) in
    let made = (let a = c.holds_together.ensures.made c.args.d c.requires.living in let b = c.holds_together.ensures.numbered in fits v.numbers c.args.d (omega (arith, a, b))) in
    let all = grows m (suc (first + c.loop-k.k)) (total v.numbers) (omega (arith, made, e, l)) in
    let few = c.requires.few in
    omega (arith, is, all, few)

pub overflow_add-count : goal.overflow_add-count
overflow_add-count c =
    let v = c.args.state.now in
    let m = state_of v in
    let first = first_of v.numbers c.args.d in
    let e = c.wire_count-k-end.ensures.wires in
    let l = c.loop-k-test.true in
    let is = ap (waiting_at m) (number_is v.numbers c.args.d c.loop-k.k c.channel-x.result (omega (arith, e, l)) c.channel-x.ensures) in
    let made = (let a = c.holds_together.ensures.made c.args.d c.requires.living in let b = c.holds_together.ensures.numbered in fits v.numbers c.args.d (omega (arith, a, b))) in
    let all = grows m (suc (first + c.loop-k.k)) (total v.numbers) (omega (arith, made, e, l)) in
    let few = c.requires.few in
    let now = c.loop-k.invariant in
    let one = c.waiting_in_both-count.ensures in
    omega (arith, is, all, few, now, one)

pub loop-k-preserved : goal.loop-k-preserved
loop-k-preserved c =
    let m = state_of c.args.state.now in
    let first = first_of c.args.state.now.numbers c.args.d in
    let is = ap (waiting_at m) (number c) in
    let one = c.waiting_in_both-count.ensures in
    let now = c.loop-k.invariant in
    let next = ap (waiting_below m) (let e : first + (c.loop-k.k + 1) ≡ suc (first + c.loop-k.k) = omega arith in e) in
    omega (arith, is, one, now, next)

pub returns : goal.returns
returns c =
    let v = c.args.state.now in
    let m = state_of v in
    let all = own_all v c.holds_together.ensures c.args.d (let a = c.holds_together.ensures.made c.args.d c.requires.living in let b = c.holds_together.ensures.numbered in omega (arith, a, b)) in
    let now = c.loop-k.invariant in
    let a = c.loop-k.auto.k-end in
    let b = c.loop-k-test.false in
    let e = c.wire_count-k-end.ensures.wires in
    let same = ap (λ k. waiting_below m (first_of v.numbers c.args.d + k)) (let f : c.loop-k.k ≡ count_of v.numbers c.args.d = omega (arith, a, b, e) in f) in
    omega (arith, all, now, same)
