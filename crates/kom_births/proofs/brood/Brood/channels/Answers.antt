use Rattle.std.proofs.Common.{◌≡◌, ◌∙◌, ◌+◌, ◌<◌, get_or, length, subst, arith}
use Rattle.kom_births.proofs.Sums.{fits_so_far, wider}
use Rattle.kom_births.proofs.brood.Brood.channels.Goals as goal

pub overflow_add-channels : goal.overflow_add-channels
overflow_add-channels c =
    let xs = c.args.self.now in
    let k = c.loop-seed.seed-index in
    let x = c.seed-item.result in
    let same : c.as_slice-seed-items.result.now ≡ xs = c.as_slice-seed-items.ensures.value ∙ c.self.view_is in
    let w = wider xs k x (subst (λ l. k < length l) same c.loop-seed-test.true) (subst (λ l. x ≡ get_or l k x) same c.seed-item.is) in
    let f = fits_so_far xs (k + 1) in
    omega (arith, w, f, c.requires, c.len-channels.ensures, c.loop-seed.invariant)
