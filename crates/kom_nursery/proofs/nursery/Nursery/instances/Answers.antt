use Rattle.std.proofs.Common.{◌≡◌, ◌<◌, ◌∙◌, get_or, length, subst, arith}
use Rattle.kom_nursery.proofs.Broods.{long_next, part_few}
use Rattle.kom_nursery.proofs.nursery.Nursery.instances.Goals as goal

pub overflow_cast-count : goal.overflow_cast-count
overflow_cast-count c =
    let bs = c.args.self.now in
    let k = c.loop-brood.brood-index in
    let b = c.brood-item.result in
    let same : c.as_slice-brood-items.result.now ≡ bs = c.as_slice-brood-items.ensures.value ∙ c.self.view_is in
    let f = part_few bs k b (subst (λ l. k < length l) same c.loop-brood-test.true) (subst (λ l. b ≡ get_or l k b) same c.brood-item.is) in
    omega (arith, f, c.requires, c.len.ensures)

pub overflow_add-count : goal.overflow_add-count
overflow_add-count c =
    let bs = c.args.self.now in
    let k = c.loop-brood.brood-index in
    let b = c.brood-item.result in
    let same : c.as_slice-brood-items.result.now ≡ bs = c.as_slice-brood-items.ensures.value ∙ c.self.view_is in
    let f = part_few bs k b (subst (λ l. k < length l) same c.loop-brood-test.true) (subst (λ l. b ≡ get_or l k b) same c.brood-item.is) in
    omega (arith, f, c.requires, c.len.ensures, c.loop-brood.invariant)

pub loop-brood-preserved : goal.loop-brood-preserved
loop-brood-preserved c =
    let bs = c.args.self.now in
    let k = c.loop-brood.brood-index in
    let b = c.brood-item.result in
    let same : c.as_slice-brood-items.result.now ≡ bs = c.as_slice-brood-items.ensures.value ∙ c.self.view_is in
    let h = subst (λ l. k < length l) same c.loop-brood-test.true in
    let e = subst (λ l. b ≡ get_or l k b) same c.brood-item.is in
    omega (arith, long_next bs k b h e, c.len.ensures, c.loop-brood.invariant)
