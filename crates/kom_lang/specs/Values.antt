-- The value of an expression, or the number of a fault.
use Rattle.std.specs.Prelude.{ℕ, ◌^◌, ◌==◌, nat_lt, ℤ, pos, negsuc, ◌+ℤ◌, ◌-ℤ◌, ◌*ℤ◌, neg_ℤ, int_le, int_lt, int_div, int_rem, Bool, true, false, not, if◌then◌else◌, List, [], ◌∷◌, slice_get, unwrap_or, Result, Ok, Err}
use Rattle.kom_base.specs.Numbers.{same_int}
use Rattle.kom_base.specs.Lists.{on_ok}
use Rattle.kom_lang.specs.declared.expr.Binary.{Binary}
use Rattle.kom_lang.specs.declared.expr.Binary.TheVariants.{Or, And, Eq, Ne, Lt, Le, Gt, Ge, Add, Sub, Mul, Div, Rem}
use Rattle.kom_lang.specs.declared.expr.Expr.{Expr, Number, Var, Local, It, Neg', Not', Pair', more_of-Expr}

-- the values of the names that an expression may read: the variables, the parameters and `let`
-- names in scope, the attributes of the event in hand
pub record Valuation : Type 0 where
  pub vars : List ℤ
  pub scope : List ℤ
  pub it : List ℤ

-- the value, or the number of the fault
abbrev pub Evaluated : Type 0
Evaluated = Result ℤ ℕ

-- the value with that number, and 0 where there is none
abbrev pub at : List ℤ → ℕ → ℤ
at vs i = unwrap_or (slice_get vs i) (pos 0)

-- a number of 64 bits
abbrev pub fits : ℤ → Bool
fits (pos n) = nat_lt n (2 ^ 63)
fits (negsuc n) = nat_lt n (2 ^ 63)

-- the number, or fault 2 where it has more than 64 bits
abbrev pub in_range : ℤ → Evaluated
in_range v = if fits v then Ok v else Err 2

-- a condition holds where its value is not 0
abbrev pub is_zero : ℤ → Bool
is_zero (pos n) = n == 0
is_zero (negsuc n) = false

-- what a comparison gives
abbrev pub truth : Bool → ℤ
truth true = pos 1
truth false = pos 0

-- a division, or fault 1 where the divisor is zero
abbrev pub divided : (ℤ → ℤ → Evaluated) → ℤ → ℤ → Evaluated
divided f a b = if is_zero b then Err 1 else f a b

-- the operator on the values of both sides, where the left one does not decide alone; a quotient is
-- cut towards 0, a remainder has the sign of the left side, and both fault where the quotient is
-- no number of 64 bits
abbrev pub combined : Binary → ℤ → ℤ → Evaluated
combined Or a b = Ok (truth (not (is_zero b)))
combined And a b = Ok (truth (not (is_zero b)))
combined Eq a b = Ok (truth (same_int a b))
combined Ne a b = Ok (truth (not (same_int a b)))
combined Lt a b = Ok (truth (int_lt a b))
combined Le a b = Ok (truth (int_le a b))
combined Gt a b = Ok (truth (int_lt b a))
combined Ge a b = Ok (truth (int_le b a))
combined Add a b = in_range (a +ℤ b)
combined Sub a b = in_range (a -ℤ b)
combined Mul a b = in_range (a *ℤ b)
combined Div a b = divided (λ x y. in_range (int_div x y)) a b
combined Rem a b = divided (λ x y. on_ok (in_range (int_div x y)) (λ q. Ok (int_rem x y))) a b

-- the left side alone decides `a || b` where it is not 0, and `a && b` where it is 0
abbrev pub decided : Binary → ℤ → Bool
decided Or a = not (is_zero a)
decided And a = is_zero a
decided op a = false

-- the left side is evaluated first, and the right one where the left one does not decide
abbrev pub paired : Binary → Evaluated → Evaluated → Evaluated
paired op left right = on_ok left (λ a. if decided op a then Ok (truth (not (is_zero a))) else on_ok right (λ b. combined op a b))

-- the value of an expression
abbrev pub value : Expr → Valuation → Evaluated
value (Number n) s = Ok n
value (Var i) s = Ok (at s.vars i)
value (Local i) s = Ok (at s.scope i)
value (It i) s = Ok (at s.it i)
value (Neg' p (more_of-Expr e r)) s = on_ok (value e s) (λ v. in_range (neg_ℤ v))
value (Not' p (more_of-Expr e r)) s = on_ok (value e s) (λ v. Ok (truth (is_zero v)))
value (Pair' op p (more_of-Expr left r) q (more_of-Expr right r')) s = paired op (value left s) (value right s)

-- the values from left to right, or the first fault
abbrev pub values : List Expr → Valuation → Result (List ℤ) ℕ
values [] s = Ok []
values (e ∷ es) s = on_ok (value e s) (λ v. on_ok (values es s) (λ vs. Ok (v ∷ vs)))
