-- What expressions stand for, one level at a time.
use Rattle.std.proofs.Common.{◌≡◌, ℕ, ◌≤◌, true, false, List, length, Some, None, is_some, refl, sym, ap, ◌∙◌, arith}
use Rattle.kom_lang.specs.declared.expr.Expr.{Expr}
use Rattle.kom_lang.specs.declared.expr.Binary.{Binary}
use Rattle.kom_lang.specs.declared.expr.Expr.TheVariants as expr
use Rattle.kom_lang.specs.declared.stmt.Stmt.TheVariants as stmt
use Rattle.kom_system.specs.declared.parts.ExprPart.{ExprPart}
use Rattle.kom_system.specs.declared.parts.ExprPart.TheVariants.{Neg, Not, Pair}
use Rattle.kom_system.specs.declared.parts.OnPart.{OnPart}
use Rattle.kom_system.specs.declared.parts.OnPart.TheVariants as on
use Rattle.kom_system.specs.declared.parts.ComponentPart.{ComponentPart}
use Rattle.kom_system.specs.declared.parts.Parts.{Parts}
use Rattle.kom_lookups.specs.Numbered.{number_from}
use Rattle.kom_lookups.proofs.Counted.{number_some}
use Rattle.kom_rules.specs.Compute.{computing}
use Rattle.kom_rules.specs.Names.{Name, is_among, number_in, names_of}
use Rattle.kom_rules.specs.Spaces.{event_number, var_spots}
use Rattle.kom_resolve.specs.Counted.{IsCounted}
use Rattle.kom_resolve.specs.Resolved.{expr_value, named_value, set_value, attributes_of_it}
use Rattle.kom_resolve.proofs.Numbered.{found_is}

module _ (vars attrs scope : List Name) where
  of_neg : (e : ExprPart) → expr_value vars attrs scope (Neg e) ≡ expr.Neg (expr_value vars attrs scope e)
  unfolding computing
  of_neg e = refl

  of_not : (e : ExprPart) → expr_value vars attrs scope (Not e) ≡ expr.Not (expr_value vars attrs scope e)
  unfolding computing
  of_not e = refl

  of_pair : (op : Binary) (a b : ExprPart) → expr_value vars attrs scope (Pair op a b) ≡ expr.Pair op (expr_value vars attrs scope a) (expr_value vars attrs scope b)
  unfolding computing
  of_pair op a b = refl

  pub neg_value : (e a : ExprPart) (x : Expr) → e ≡ Neg a → x ≡ expr_value vars attrs scope a → expr.Neg x ≡ expr_value vars attrs scope e
  neg_value e a x is h = ap expr.Neg h ∙ sym (ap (expr_value vars attrs scope) is ∙ of_neg a)

  pub not_value : (e a : ExprPart) (x : Expr) → e ≡ Not a → x ≡ expr_value vars attrs scope a → expr.Not x ≡ expr_value vars attrs scope e
  not_value e a x is h = ap expr.Not h ∙ sym (ap (expr_value vars attrs scope) is ∙ of_not a)

  pub pair_value : (e a b : ExprPart) (op : Binary) (x y : Expr) → e ≡ Pair op a b → x ≡ expr_value vars attrs scope a → y ≡ expr_value vars attrs scope b → expr.Pair op x y ≡ expr_value vars attrs scope e
  pair_value e a b op x y is g h = ap (λ z. expr.Pair op z y) g ∙ ap (λ z. expr.Pair op (expr_value vars attrs scope a) z) h ∙ sym (ap (expr_value vars attrs scope) is ∙ of_pair op a b)

-- ---- names that are variables, and others

is_variable : (vars : List Name) (n : Name) (m : ℕ) → Some m ≡ number_from 0 vars n → is_among vars n ≡ true
is_variable vars n m e = sym (number_some 0 vars n) ∙ ap is_some (sym e)

is_other : (vars : List Name) (n : Name) → None ≡ number_from 0 vars n → is_among vars n ≡ false
is_other vars n e = sym (number_some 0 vars n) ∙ ap is_some (sym e)

pub named_var : (vars scope : List Name) (n : Name) (m : ℕ) → Some m ≡ number_from 0 vars n → expr.Var m ≡ named_value vars scope n
named_var vars scope n m e = rw (is_variable vars n m e) (ap expr.Var (found_is vars n m e))

pub named_local : (vars scope : List Name) (n : Name) (m : ℕ) → None ≡ number_from 0 vars n → m ≡ number_in scope n → expr.Local m ≡ named_value vars scope n
named_local vars scope n m e is = rw (is_other vars n e) (ap expr.Local is)

pub set_var : (P : Parts) (c : ComponentPart) (o : OnPart) (scope : List Name) (n : Name) (m : ℕ) (v : Expr) → Some m ≡ number_from 0 (names_of (var_spots c)) n → stmt.SetVar m v ≡ set_value P c o scope n v
set_var P c o scope n m v e = rw (is_variable (names_of (var_spots c)) n m e) (ap (λ k. stmt.SetVar k v) (found_is (names_of (var_spots c)) n m e))

pub set_local : (P : Parts) (c : ComponentPart) (o : OnPart) (scope : List Name) (n : Name) (m : ℕ) (v : Expr) → None ≡ number_from 0 (names_of (var_spots c)) n → m ≡ number_in scope n → stmt.SetLocal m v ≡ set_value P c o scope n v
set_local P c o scope n m v e is = rw (is_other (names_of (var_spots c)) n e) (ap (λ k. stmt.SetLocal k v) is)

-- `it` has few attributes
pub it_short : (P : Parts) (o : OnPart) → IsCounted P → length (attributes_of_it P o) ≤ 255
it_short P (on.Event kind port) h = h.attributes (event_number P kind)
it_short P (on.Init spots) h = omega arith
it_short P on.Start h = omega arith
it_short P on.Stop h = omega arith
it_short P (on.Fault slot number) h = omega arith
it_short P (on.Dumped slot) h = omega arith
