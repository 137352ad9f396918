use Rattle.std.proofs.Common.{◌≡◌, ◌<◌, ◌∙◌, get_or, length, subst, arith}
use Rattle.kom_state.specs.Parts.{state_of}
use Rattle.kom_births.proofs.Room.{no_less_again, same_again}
use Rattle.kom_nursery.proofs.Broods.{long_next, part_few}
use Rattle.kom_nursery.proofs.Tops.{tops_next}
use Rattle.kom_nursery.proofs.nursery.Nursery.reserve_tops.Goals as goal

pub overflow_cast-first : goal.overflow_cast-first
overflow_cast-first c =
    let bs = c.args.self.now in
    let k = c.loop-brood.brood-index in
    let b = c.brood-item.result in
    let same : c.as_slice-brood-items.result.now ≡ bs = c.as_slice-brood-items.ensures.value ∙ c.self.view_is in
    let f = part_few bs k b (subst (λ l. k < length l) same c.loop-brood-test.true) (subst (λ l. b ≡ get_or l k b) same c.brood-item.is) in
    omega (arith, f, c.requires.few, c.len.ensures)

pub overflow_add-first : goal.overflow_add-first
overflow_add-first c =
    let bs = c.args.self.now in
    let k = c.loop-brood.brood-index in
    let b = c.brood-item.result in
    let same : c.as_slice-brood-items.result.now ≡ bs = c.as_slice-brood-items.ensures.value ∙ c.self.view_is in
    let f = part_few bs k b (subst (λ l. k < length l) same c.loop-brood-test.true) (subst (λ l. b ≡ get_or l k b) same c.brood-item.is) in
    omega (arith, f, c.requires.few, c.len.ensures, c.loop-brood.invariant.first)

pub loop-brood-preserved : goal.loop-brood-preserved
loop-brood-preserved c =
    let bs = c.args.self.now in
    let k = c.loop-brood.brood-index in
    let b = c.brood-item.result in
    let v = c.args.state.now in
    let w = c.loop-brood.state in
    let z = c.reserve_controls.new.self in
    let same : c.as_slice-brood-items.result.now ≡ bs = c.as_slice-brood-items.ensures.value ∙ c.self.view_is in
    let h = subst (λ l. k < length l) same c.loop-brood-test.true in
    let e = subst (λ l. b ≡ get_or l k b) same c.brood-item.is in
    let at = c.loop-brood.invariant in
    record {
      same = same_again (state_of v) (state_of w) (state_of z) at.same c.in_ok-reserve_controls.ensures.same;
      not_less = no_less_again v w z at.not_less c.in_ok-reserve_controls.ensures.not_less;
      first = omega (arith, long_next bs k b h e, c.len.ensures, at.first);
      tops = tops_next c.args.n bs k b (length (state_of v).nodes) c.loop-brood.first w z h e c.in_ok-reserve_controls.ensures.not_less at.first c.in_ok-reserve_controls.ensures.ok at.tops;
    }
