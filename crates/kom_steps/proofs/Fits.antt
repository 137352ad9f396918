-- The numbers of `fail` in parts of a block.
use Rattle.std.proofs.Common.{◌≡◌, ◌↔◌, IsTrue, Bool, true, false, None, ℕ, zero, suc, ◌<◌, ◌≤◌, nat_le, List, [], ◌∷◌, length, get_or, Some, Option, refl, sym, subst, ap, ◌∙◌, arith}
use Rattle.std.specs.List.{Contains}
use Rattle.std.proofs.lemmas.Bool.{leb-true}
use Rattle.kom_lang.specs.declared.expr.Expr.{Expr}
use Rattle.kom_lang.specs.declared.stmt.Stmt.{Stmt, Stmt-F, out-Stmt}
use Rattle.kom_lang.specs.declared.stmt.Stmt.TheOpen.{If as open-If, While as open-While}
use Rattle.kom_lang.specs.declared.stmt.Stmt.TheVariants.{If, While, Fail, outs-If, outs-While, outs-Fail}
use Rattle.kom_system.specs.Statements.{Within, Here, InIf, InElse, InWhile}
use Rattle.kom_steps.specs.Faults.{fails_within, FailsFit}

-- what stands within some statements stands within more
within_more : (x : Stmt) (xs ys : List Stmt) → ((y : Stmt) → Contains xs y → Contains ys y) → Within x xs → Within x ys
within_more x xs ys m (Here b c) = Here ys (m x c)
within_more x xs ys m (InIf b test block other c w) = InIf ys test block other (m _ c) w
within_more x xs ys m (InElse b test block other c w) = InElse ys test block other (m _ c) w
within_more x xs ys m (InWhile b test inner c w) = InWhile ys test inner (m _ c) w

only : (x y : Stmt) (k : ℕ) → k < 1 → get_or (x ∷ []) k y ≡ y → x ≡ y
only x y zero h e = e
only x y (suc k) h e = absurd (omega (arith, h))

-- a member of a block
pub fits_member : (block : List Stmt) (x : Stmt) (i : ℕ) → i < length block → x ≡ get_or block i x → FailsFit block → FailsFit (x ∷ [])
fits_member block x i h e fits = λ s w. fits s (within_more s (x ∷ []) block (λ y c. subst (λ z. Contains block z) (only x y c.0 c.1 c.2) (i, h, sym e)) w)

pub fits_then : (s : Stmt) (test : Expr) (block : List Stmt) (other : Option (List Stmt)) → s ≡ If test block other → FailsFit (s ∷ []) → FailsFit block
fits_then s test block other is fits = λ t w. fits t (InIf (s ∷ []) test block other (0, omega arith, is) w)

pub fits_else : (s : Stmt) (test : Expr) (block other : List Stmt) → s ≡ If test block (Some other) → FailsFit (s ∷ []) → FailsFit other
fits_else s test block other is fits = λ t w. fits t (InElse (s ∷ []) test block other (0, omega arith, is) w)

pub fits_while : (s : Stmt) (test : Expr) (block : List Stmt) → s ≡ While test block → FailsFit (s ∷ []) → FailsFit block
fits_while s test block is fits = λ t w. fits t (InWhile (s ∷ []) test block (0, omega arith, is) w)

pub fail_test : (s : Stmt) (n : ℕ) → s ≡ Fail n → FailsFit (s ∷ []) → nat_le n 899 ≡ true
fail_test s n is fits = sym (ap fails_within (ap out-Stmt is ∙ outs-Fail n)) ∙ fits s (Here (s ∷ []) (0, omega arith, refl))

pub fits_fail : (s : Stmt) (n : ℕ) → s ≡ Fail n → FailsFit (s ∷ []) → n ≤ 899
fits_fail s n is fits = leb-true n 899 (fail_test s n is fits)

-- ---- a statement, by its one level

-- the blocks inside a statement fit
abbrev pub InnerFit : Stmt-F Stmt → Type 0
InnerFit (open-If test block None) = FailsFit block
InnerFit (open-If test block (Some other)) = FailsFit block × FailsFit other
InnerFit (open-While test block) = FailsFit block
InnerFit o = Unit {0}

then_fits : (test : Expr) (block : List Stmt) (other : Option (List Stmt)) → InnerFit (open-If test block other) → FailsFit block
then_fits test block None h = h
then_fits test block (Some o) h = h.0

level_in : (s t : Stmt) (xs : List Stmt) → ((y : Stmt) → Contains xs y → s ≡ y) → Within t xs → fails_within (out-Stmt s) ≡ true → InnerFit (out-Stmt s) → fails_within (out-Stmt t) ≡ true
level_in s t xs same (Here b c) own inner = subst (λ (y : Stmt). fails_within (out-Stmt y) ≡ true) (same t c) own
level_in s t xs same (InIf b test block other c w) own inner = then_fits test block other (subst InnerFit (ap out-Stmt (same _ c) ∙ outs-If test block other) inner) t w
level_in s t xs same (InElse b test block other c w) own inner = (subst InnerFit (ap out-Stmt (same _ c) ∙ outs-If test block (Some other)) inner).1 t w
level_in s t xs same (InWhile b test block c w) own inner = subst InnerFit (ap out-Stmt (same _ c) ∙ outs-While test block) inner t w

-- a statement fits by its own number and the blocks inside it
pub level : (s : Stmt) (o : Stmt-F Stmt) → out-Stmt s ≡ o → fails_within o ≡ true → InnerFit o → FailsFit (s ∷ [])
level s o e own inner = λ t w. level_in s t (s ∷ []) (λ y c. only s y c.0 c.1 c.2) w (ap fails_within e ∙ own) (subst InnerFit (sym e) inner)

-- a block fits by its members
pub fits_all : (block : List Stmt) → ((k : ℕ) → k < length block → (y : Stmt) → get_or block k y ≡ y → FailsFit (y ∷ [])) → FailsFit block
fits_all block each = λ t w. in_member t block w each
  where
    in_member : (t : Stmt) (block : List Stmt) → Within t block → ((k : ℕ) → k < length block → (y : Stmt) → get_or block k y ≡ y → FailsFit (y ∷ [])) → fails_within (out-Stmt t) ≡ true
    in_member t block (Here b c) each = each c.0 c.1 t c.2 t (Here (t ∷ []) (0, omega arith, refl))
    in_member t block (InIf b test inner other c w) each = each c.0 c.1 _ c.2 t (InIf (If test inner other ∷ []) test inner other (0, omega arith, refl) w)
    in_member t block (InElse b test inner other c w) each = each c.0 c.1 _ c.2 t (InElse (If test inner (Some other) ∷ []) test inner other (0, omega arith, refl) w)
    in_member t block (InWhile b test inner c w) each = each c.0 c.1 _ c.2 t (InWhile (While test inner ∷ []) test inner (0, omega arith, refl) w)

same_at : (xs : List Stmt) (i : ℕ) (x y : Stmt) → i < length xs → x ≡ get_or xs i x → get_or xs i y ≡ y → x ≡ y
same_at [] i x y h e f = absurd (omega (arith, h))
same_at (z ∷ zs) zero x y h e f = e ∙ f
same_at (z ∷ zs) (suc i) x y h e f = same_at zs i x y (omega (arith, h)) e f

-- one member more
pub fits_so_far : (block : List Stmt) (i : ℕ) (x : Stmt) → i < length block → x ≡ get_or block i x → FailsFit (x ∷ []) → (y : Stmt) → get_or block i y ≡ y → FailsFit (y ∷ [])
fits_so_far block i x h e fits y f = subst (λ (z : Stmt). FailsFit (z ∷ [])) (same_at block i x y h e f) fits

-- ---- tests

pub refutes : (r : Bool) (P Q : Type 0) → (IsTrue r ↔ P) → r ≡ false → (Q → P) → (IsTrue false ↔ Q)
refutes r P Q iff e f = ((λ t. absurd (cc)), (λ q. sym e ∙ iff.1 (f q)))
