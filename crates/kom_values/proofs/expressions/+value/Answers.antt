use Rattle.std.proofs.Common.{rules, ◌∙◌, ap, ℤ, w64, Ok}
use Rattle.std.proofs.lemmas.Int.{to_z-of_z}
use mir.Val.{SFits}
use Rattle.kom_lang.specs.Values.{Valuation, value, paired}
use Rattle.kom_values.proofs.Levels.{pair_left, pair_right}
use Rattle.kom_values.proofs.expressions.+value.Goals as goal

pub evaluate-returns-in-Ok : goal.evaluate-returns-in-Ok
evaluate-returns-in-Ok t c =
    let s : Valuation = record { vars = c.args.vars.now; scope = c.args.scope.now; it = c.args.it.now } in
    let f : SFits w64 c.in-Ok.a = search rules in
    let left = rw c.get-in-Pair.ensures at c.in-Ok.ensures in
    let right = rw c.get-in-Ok.ensures at c.operate.ensures in
    right
    ∙ ap (λ (v : ℤ). paired c.in-Pair.op (Ok v) (value c.in-Pair.right s)) (to_z-of_z w64 c.in-Ok.a f)
    ∙ pair_right _ _ _ _ _ _ c.in-Pair.is left

pub evaluate-returns-in-Err : goal.evaluate-returns-in-Err
evaluate-returns-in-Err t c =
    pair_left _ _ _ _ _ _ c.in-Pair.is (rw c.get-in-Pair.ensures at c.in-Err.ensures)
