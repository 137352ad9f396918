-- The first place in an expression, one level at a time.
use Rattle.std.proofs.Common.{◌≡◌, ℕ, List, ◌++◌, Option, refl}
use Rattle.kom_lang.specs.declared.expr.Binary.{Binary}
use Rattle.kom_system.specs.declared.parts.Spot.{Spot}
use Rattle.kom_system.specs.declared.parts.ExprPart.{ExprPart}
use Rattle.kom_system.specs.declared.parts.ExprPart.TheVariants.{Neg, Not, Pair}
use Rattle.kom_rules.specs.Names.{earlier, first_place}
use Rattle.kom_rules.specs.Walks.{in_expr}
use Rattle.kom_rules.specs.Compute.{computing}
use Rattle.kom_walks.proofs.Firsts.{first_append}

module _ (name : Spot → List ℕ) (it : ℕ → Spot → List ℕ) where
  in_neg : (e : ExprPart) → in_expr name it (Neg e) ≡ in_expr name it e
  unfolding computing
  in_neg e = refl

  in_not : (e : ExprPart) → in_expr name it (Not e) ≡ in_expr name it e
  unfolding computing
  in_not e = refl

  in_pair : (op : Binary) (a b : ExprPart) → in_expr name it (Pair op a b) ≡ in_expr name it a ++ in_expr name it b
  unfolding computing
  in_pair op a b = refl

  pub first_in_neg : (e a : ExprPart) (r : Option ℕ) → e ≡ Neg a → r ≡ first_place (in_expr name it a) → r ≡ first_place (in_expr name it e)
  first_in_neg e a r is h = rw (is, in_neg) h

  pub first_in_not : (e a : ExprPart) (r : Option ℕ) → e ≡ Not a → r ≡ first_place (in_expr name it a) → r ≡ first_place (in_expr name it e)
  first_in_not e a r is h = rw (is, in_not) h

  pub first_in_pair : (e a b : ExprPart) (op : Binary) (r s : Option ℕ) → e ≡ Pair op a b → r ≡ first_place (in_expr name it a) → s ≡ first_place (in_expr name it b)
      → earlier r s ≡ first_place (in_expr name it e)
  first_in_pair e a b op r s is g h = rw (is, in_pair op a b, first_append (in_expr name it a) (in_expr name it b), g, h) refl
