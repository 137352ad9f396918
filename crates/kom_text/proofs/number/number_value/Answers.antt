use Rattle.std.proofs.Common.{◌≡◌, ◌≤◌, ℕ, ◌+◌, ◌-◌, ◌*◌, drop, length, get_or, arith, suc, List, ◌∷◌, ◌<◌, ◌/◌}
use Rattle.std.proofs.Math.Seq.{drop-cons}
use Rattle.kom_text.specs.Numbers.{decimal_from}
use Rattle.kom_text.proofs.Decimals.{decimal-grows}
use Rattle.kom_text.proofs.number.number_value.Goals as goal

too_big : (total v d : ℕ) (ds : List ℕ) → total ≡ decimal_from v (d ∷ ds) → (9223372036854775807 - (d - 48)) / 10 < v → total ≤ 9223372036854775807 → ⊥
too_big total v d ds e h k = omega (arith, decimal-grows (v * 10 + (d - 48)) ds)

pub returns-then-value-digit : goal.returns-then-value-digit
returns-then-value-digit c = let h : c.loop-d.d-index < length c.args.digits.now = c.loop-d-test.true in too_big _ c.loop-d.value (get_or c.args.digits.now c.loop-d.d-index 0) (drop (suc c.loop-d.d-index) c.args.digits.now) (rw (← drop-cons c.args.digits.now c.loop-d.d-index 0) c.loop-d.invariant.so_far) c.if-value-digit.true
