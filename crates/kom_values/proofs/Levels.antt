-- One level of an expression.
use Rattle.std.proofs.Common.{◌≡◌, ℕ, ℤ, refl, Ok, Err, neg_ℤ}
use Rattle.kom_base.specs.Lists.{on_ok}
use Rattle.kom_lang.specs.declared.expr.Expr.{Expr}
use Rattle.kom_lang.specs.declared.expr.Expr.TheVariants.{Neg, Not, Pair}
use Rattle.kom_lang.specs.declared.expr.Binary.{Binary}
use Rattle.kom_lang.specs.Values.{Valuation, value, paired, in_range, truth, is_zero}
use Rattle.kom_lang.specs.Compute.{computing}

pub value_neg : (e : Expr) (s : Valuation) → value (Neg e) s ≡ on_ok (value e s) (λ v. in_range (neg_ℤ v))
unfolding computing
value_neg e s = refl

pub value_not : (e : Expr) (s : Valuation) → value (Not e) s ≡ on_ok (value e s) (λ v. Ok (truth (is_zero v)))
unfolding computing
value_not e s = refl

pub value_pair : (op : Binary) (a b : Expr) (s : Valuation) → value (Pair op a b) s ≡ paired op (value a s) (value b s)
unfolding computing
value_pair op a b s = refl

-- the value of an operator, by the fault or the value of its left side

pub pair_left : (e a b : Expr) (op : Binary) (s : Valuation) (n : ℕ) → e ≡ Pair op a b → Err n ≡ value a s → Err n ≡ value e s
pair_left e a b op s n is left = rw (is, value_pair, ← left) refl

pub pair_right : (e a b : Expr) (op : Binary) (s : Valuation) (v : ℤ) → e ≡ Pair op a b → Ok v ≡ value a s → paired op (Ok v) (value b s) ≡ value e s
pair_right e a b op s v is left = rw (is, value_pair, ← left) refl
