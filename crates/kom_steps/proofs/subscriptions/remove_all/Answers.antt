use Rattle.std.proofs.Common.{◌∙◌, ◌==◌, not, ◌<◌, length, rules, ap, eq-eqb, ℕ, Bool}
use Rattle.kom_steps.proofs.Removes.{filter_after-remove}
use Rattle.kom_steps.proofs.subscriptions.remove_all.Goals as goal

pub loop-i-preserved-then-as_slice-i : goal.loop-i-preserved-then-as_slice-i
loop-i-preserved-then-as_slice-i c =
    let p : ℕ → Bool = λ x. not (x == c.args.h) in
    let h : c.loop-i.i < length c.loop-i.subs = search rules in
    let is = rw c.as_slice.ensures at c.if-as_slice-i.true in
    rw c.remove.ensures.rest (filter_after-remove p c.loop-i.subs c.loop-i.i h (ap not (eq-eqb _ _ is)) ∙ c.loop-i.invariant)
