use Rattle.std.proofs.Common.{◌≡◌, ◌+◌, ◌*◌, ◌/◌, ◌%◌, ◌==◌, true, false, length, refl, arith}
use Rattle.std.proofs.lemmas.Bool.Decides.{nat_tests}
use Rattle.kom_ancestors.proofs.Passing.{doubling_begins, doubling_more, doubling_ends}
use Rattle.kom_ancestors.proofs.passed.Steps.all.Goals as goal

pub doubling-init : goal.doubling-init
doubling-init c = doubling_begins c.in_ok-done.done c.in_ok-power.power (length c.args.parents.now) c.args.parents.now c.args.own.now (c.in_ok-done.ensures c.args.parents.now c.args.own.now refl) c.in_ok-power.ensures

pub doubling-preserved : goal.doubling-preserved
doubling-preserved c =
    let parts : c.doubling.left ≡ c.doubling.left / 2 * 2 + c.doubling.left % 2 = omega arith in
    let odd : ((c.doubling.left % 2 == 1) ≡ true → c.doubling.left % 2 ≡ 1) = λ e. grind (arith, nat_tests) in
    let even : ((c.doubling.left % 2 == 1) ≡ false → c.doubling.left % 2 ≡ 0) = λ e. grind (arith, nat_tests) in
    doubling_more c.doubling.done c.doubling.power c.in_ok-done-2.done c.in_ok-power-2.power c.doubling.left (c.doubling.left / 2) (c.doubling.left % 2) (length c.args.parents.now) (c.doubling.left % 2 == 1) c.args.parents.now c.args.own.now
    parts odd even c.doubling.invariant
    (λ m p are more some. c.in_ok-done-2.ensures m p c.args.parents.now c.args.own.now are more some)
    (λ m p are more some. c.in_ok-power-2.ensures m p c.args.parents.now c.args.own.now are more some)

pub returns : goal.returns
returns c = doubling_ends c.doubling.done c.doubling.power c.doubling.left (length c.args.parents.now) c.args.parents.now c.args.own.now (omega arith) c.doubling.invariant
