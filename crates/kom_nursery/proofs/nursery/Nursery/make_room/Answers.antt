use Rattle.std.proofs.Common.{◌≡◌, ◌<◌, ◌∙◌, get_or, length, subst, arith}
use Rattle.kom_numbers.specs.Numbering.{total}
use Rattle.kom_state.specs.Parts.{state_of}
use Rattle.kom_births.proofs.Room.{no_less_again, same_again}
use Rattle.kom_nursery.proofs.Broods.{long_next, own_next, part_few, part_links, wide_next}
use Rattle.kom_nursery.proofs.nursery.Nursery.make_room.Goals as goal

pub reserve-requires-clause-few : goal.reserve-requires-clause-few
reserve-requires-clause-few c =
    let bs = c.args.self.now in
    let k = c.loop-brood.brood-index in
    let b = c.brood-item.result in
    let same : c.as_slice-brood-items.result.now ≡ bs = c.as_slice-brood-items.ensures.value ∙ c.self.view_is in
    let f = part_few bs k b (subst (λ l. k < length l) same c.loop-brood-test.true) (subst (λ l. b ≡ get_or l k b) same c.brood-item.is) in
    omega (arith, f, c.requires.few, c.loop-brood.invariant.first)

pub reserve-requires-clause-few_channels : goal.reserve-requires-clause-few_channels
reserve-requires-clause-few_channels c =
    let bs = c.args.self.now in
    let k = c.loop-brood.brood-index in
    let b = c.brood-item.result in
    let same : c.as_slice-brood-items.result.now ≡ bs = c.as_slice-brood-items.ensures.value ∙ c.self.view_is in
    let f = part_links bs k b (subst (λ l. k < length l) same c.loop-brood-test.true) (subst (λ l. b ≡ get_or l k b) same c.brood-item.is) in
    omega (arith, f, c.requires.few_channels, c.loop-brood.invariant.chan)

pub overflow_cast-first : goal.overflow_cast-first
overflow_cast-first c =
    let bs = c.args.self.now in
    let k = c.loop-brood.brood-index in
    let b = c.brood-item.result in
    let same : c.as_slice-brood-items.result.now ≡ bs = c.as_slice-brood-items.ensures.value ∙ c.self.view_is in
    let f = part_few bs k b (subst (λ l. k < length l) same c.loop-brood-test.true) (subst (λ l. b ≡ get_or l k b) same c.brood-item.is) in
    omega (arith, f, c.requires.few, c.len.ensures)

pub overflow_add-first : goal.overflow_add-first
overflow_add-first c =
    let bs = c.args.self.now in
    let k = c.loop-brood.brood-index in
    let b = c.brood-item.result in
    let same : c.as_slice-brood-items.result.now ≡ bs = c.as_slice-brood-items.ensures.value ∙ c.self.view_is in
    let f = part_few bs k b (subst (λ l. k < length l) same c.loop-brood-test.true) (subst (λ l. b ≡ get_or l k b) same c.brood-item.is) in
    omega (arith, f, c.requires.few, c.len.ensures, c.loop-brood.invariant.first)

pub channels-requires : goal.channels-requires
channels-requires c =
    let bs = c.args.self.now in
    let k = c.loop-brood.brood-index in
    let b = c.brood-item.result in
    let same : c.as_slice-brood-items.result.now ≡ bs = c.as_slice-brood-items.ensures.value ∙ c.self.view_is in
    let f = part_links bs k b (subst (λ l. k < length l) same c.loop-brood-test.true) (subst (λ l. b ≡ get_or l k b) same c.brood-item.is) in
    omega (arith, f, c.requires.few_channels)

pub overflow_cast-chan : goal.overflow_cast-chan
overflow_cast-chan c =
    let bs = c.args.self.now in
    let k = c.loop-brood.brood-index in
    let b = c.brood-item.result in
    let same : c.as_slice-brood-items.result.now ≡ bs = c.as_slice-brood-items.ensures.value ∙ c.self.view_is in
    let f = part_links bs k b (subst (λ l. k < length l) same c.loop-brood-test.true) (subst (λ l. b ≡ get_or l k b) same c.brood-item.is) in
    omega (arith, f, c.requires.few_channels, c.channels.ensures)

pub overflow_add-chan : goal.overflow_add-chan
overflow_add-chan c =
    let bs = c.args.self.now in
    let k = c.loop-brood.brood-index in
    let b = c.brood-item.result in
    let same : c.as_slice-brood-items.result.now ≡ bs = c.as_slice-brood-items.ensures.value ∙ c.self.view_is in
    let f = part_links bs k b (subst (λ l. k < length l) same c.loop-brood-test.true) (subst (λ l. b ≡ get_or l k b) same c.brood-item.is) in
    omega (arith, f, c.requires.few_channels, c.channels.ensures, c.loop-brood.invariant.chan)

pub loop-brood-preserved : goal.loop-brood-preserved
loop-brood-preserved c =
    let bs = c.args.self.now in
    let k = c.loop-brood.brood-index in
    let b = c.brood-item.result in
    let v = c.args.state.now in
    let w = c.loop-brood.state in
    let z = c.reserve.new.state in
    let same : c.as_slice-brood-items.result.now ≡ bs = c.as_slice-brood-items.ensures.value ∙ c.self.view_is in
    let h = subst (λ l. k < length l) same c.loop-brood-test.true in
    let e = subst (λ l. b ≡ get_or l k b) same c.brood-item.is in
    let at = c.loop-brood.invariant in
    record {
      same = same_again (state_of v) (state_of w) (state_of z) at.same c.in_ok-reserve.ensures.same;
      not_less = no_less_again v w z at.not_less c.in_ok-reserve.ensures.not_less;
      first = omega (arith, long_next bs k b h e, c.len.ensures, at.first);
      chan = omega (arith, wide_next bs k b h e, c.channels.ensures, at.chan);
      own = own_next bs k b h e (length (state_of v).nodes) (total v.numbers) c.loop-brood.first c.loop-brood.chan w z c.in_ok-reserve.ensures.not_less at.own at.first at.chan c.in_ok-reserve.ensures.ok;
    }
