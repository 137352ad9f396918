-- A plain event comes into all channels that are plugged at its half, one after another.
use Rattle.std.proofs.Common.{◌≡◌, ◌<◌, ℕ, suc, ◌+◌, arith, Bool, true, false, ◌&&◌, ◌||◌, ◌==◌, refl, sym, ap, ◌∙◌, subst, List, [], ◌∷◌, ◌++◌, Option, Some, None}
use Rattle.std.specs.Prelude.{IsSome, slice_index}
use Rattle.std.specs.List.{list_any}
use Rattle.std.specs.List.Sorted.{IsStrictlyIncreasing}
use Rattle.std.specs.Option.{option_map_or}
use Rattle.std.proofs.lemmas.Bool.{eq-eqb, eqb-true, ne_eqb}
use Rattle.kom_base.specs.declared.numbers.Dir.TheVariants.{Plus, Minus}
use Rattle.kom_laws.proofs.Unaffected.{and_both}
use Rattle.kom_offered.specs.Laws.{begins_at}
use Rattle.kom_refine.specs.States.{Link}
use Rattle.kom_state.specs.Readings.{has_end, is_at}
use Rattle.kom_entering.proofs.Noting.{and_off, noted_both, noted_none, noted_so}
use Rattle.kom_base.specs.declared.numbers.Dir.{Dir}
use Rattle.kom_base.specs.declared.numbers.Half.{Half}
use Rattle.kom_base.specs.declared.values.Event.{Event}
use Rattle.kom_lang.specs.Declarations.{Declarations}
use Rattle.kom_state.specs.Parts.{Parts, state_of}
use Rattle.kom_entering.specs.declared.lists.Entering.{Entering}
use Rattle.kom_entering.specs.Ways.{HaveBeenNoted, IsWayOut, comes_into, leaves_at, leaves_by}

abbrev pub is_in : List ℕ → ℕ → Bool
is_in xs y = list_any (λ x. x == y) xs

or_true : (a : Bool) → (a || true) ≡ true
or_true true = refl
or_true false = refl

-- what begins at the half has an end there
begins_has : (h : Half) (d : Dir) (l : Option Link) → begins_at h d l ≡ true → option_map_or (has_end h) l false ≡ true
begins_has h d None e = absurd cc
begins_has h Plus (Some l) e = ap (λ b. b || is_at h l.minus) e
begins_has h Minus (Some l) e = ap (λ b. is_at h l.plus || b) e ∙ or_true (is_at h l.plus)

has_there : (h : Half) (l : Option Link) → option_map_or (has_end h) l false ≡ true → IsSome l
has_there h None e = absurd cc
has_there h (Some l) e = refl

-- it has come into the directions of these channels
abbrev pub HasSpread : Declarations → Parts → Half → Event → List ℕ → Entering → Entering → Type 0
HasSpread S v h event xs old new = HaveBeenNoted (λ y d. is_in xs y && comes_into S v h event y d) old new

-- one of these channels by which it leaves; none where it leaves by none of them
abbrev pub IsWayAmong : Declarations → Parts → Half → Event → List ℕ → Option ℕ → Type 0
IsWayAmong S v h event xs None = (x : ℕ) → is_in xs x ≡ true → leaves_at S v h event x ≡ false
IsWayAmong S v h event xs (Some x) = leaves_at S v h event x ≡ true

-- ---- each channel comes once

tail_up : (y : ℕ) (zs : List ℕ) → IsStrictlyIncreasing (y ∷ zs) → IsStrictlyIncreasing zs
tail_up y zs h k l =
    let e : suc k + 1 ≡ suc (k + 1) = omega arith in
    subst (λ n. slice_index zs k < slice_index (y ∷ zs) n) e (h (suc k) (omega (arith, l)))

first_below : (ys : List ℕ) (y x : ℕ) (rest : List ℕ) → IsStrictlyIncreasing (y ∷ (ys ++ x ∷ rest)) → y < x
first_below [] y x rest h = h 0 (omega arith)
first_below (z ∷ ys) y x rest h =
    let a : y < z = h 0 (omega arith) in
    let b = first_below ys z x rest (tail_up y (z ∷ (ys ++ x ∷ rest)) h) in
    omega (arith, a, b)

or_false : (a b : Bool) → a ≡ false → b ≡ false → (a || b) ≡ false
or_false true b e f = absurd cc
or_false false b e f = f

not_before : (ys : List ℕ) (x : ℕ) (rest : List ℕ) → IsStrictlyIncreasing (ys ++ x ∷ rest) → is_in ys x ≡ false
not_before [] x rest h = refl
not_before (y ∷ ys) x rest h =
    or_false (y == x) (is_in ys x) (ne_eqb y x (λ s. let b = first_below ys y x rest h in omega (arith, b, s))) (not_before ys x rest (tail_up y (ys ++ x ∷ rest) h))

in_more : (ys : List ℕ) (x y : ℕ) → is_in (ys ++ x ∷ []) y ≡ (is_in ys y || x == y)
in_more [] x y = go (x == y)
  where
    go : (b : Bool) → (b || false) ≡ b
    go true = refl
    go false = refl
in_more (z ∷ ys) x y = ap (λ b. z == y || b) (in_more ys x y) ∙ go (z == y) (is_in ys y) (x == y)
  where
    go : (a b c : Bool) → (a || (b || c)) ≡ ((a || b) || c)
    go true b c = refl
    go false b c = refl

is_here : (ys : List ℕ) (x : ℕ) (rest : List ℕ) → is_in (ys ++ x ∷ rest) x ≡ true
is_here [] x rest = ap (λ b. b || is_in rest x) (eq-eqb x x refl)
is_here (y ∷ ys) x rest = ap (λ b. y == x || b) (is_here ys x rest) ∙ or_true (y == x)

-- each of those that are plugged at the half lives
pub spread_there : (v : Parts) (h : Half) (ys : List ℕ) (x : ℕ) (rest xs : List ℕ) → ys ++ x ∷ rest ≡ xs → ((y : ℕ) → is_in xs y ≡ option_map_or (has_end h) ((state_of v).links y) false) → IsSome ((state_of v).links x)
spread_there v h ys x rest xs same each = has_there h ((state_of v).links x) (sym (each x) ∙ subst (λ l. is_in l x ≡ true) same (is_here ys x rest))

module _ (S : Declarations) (v : Parts) (h : Half) (event : Event) where
  abbrev t : ℕ → Dir → Bool
  t = comes_into S v h event

  pub spread_none : (w : Entering) → HasSpread S v h event [] w w
  spread_none w = noted_none (λ y d. is_in [] y && t y d) w (λ x d. refl)

  pub spread_more : (ys : List ℕ) (x : ℕ) (rest : List ℕ) (old k new : Entering) → IsStrictlyIncreasing (ys ++ x ∷ rest) → HasSpread S v h event ys old k → HaveBeenNoted (λ y d. x == y && t y d) k new
      → HasSpread S v h event (ys ++ x ∷ []) old new
  spread_more ys x rest old k new up m n =
      noted_both (λ y d. is_in ys y && t y d) (λ y d. x == y && t y d) (λ y d. is_in (ys ++ x ∷ []) y && t y d) old k new apart all m n
    where
      apart : (y : ℕ) (d : Dir) → ((is_in ys y && t y d) && (x == y && t y d)) ≡ false
      apart y d = go (x == y) refl
        where
          off : (a b : Bool) → (a && (false && b)) ≡ false
          off true b = refl
          off false b = refl

          go : (b : Bool) → (x == y) ≡ b → ((is_in ys y && t y d) && (x == y && t y d)) ≡ false
          go false e = ap (λ b. (is_in ys y && t y d) && (b && t y d)) e ∙ off (is_in ys y && t y d) (t y d)
          go true e = ap (λ b. (b && t y d) && (x == y && t y d)) (subst (λ z. is_in ys z ≡ false) (eqb-true x y e) (not_before ys x rest up))

      all : (y : ℕ) (d : Dir) → (is_in (ys ++ x ∷ []) y && t y d) ≡ ((is_in ys y && t y d) || (x == y && t y d))
      all y d = ap (λ b. b && t y d) (in_more ys x y) ∙ go (is_in ys y) (x == y) (t y d)
        where
          go : (a b c : Bool) → ((a || b) && c) ≡ ((a && c) || (b && c))
          go true true true = refl
          go true true false = refl
          go true false true = refl
          go true false false = refl
          go false b c = refl

  -- all that begin at the half were among them
  pub spread_all : (xs : List ℕ) (old new : Entering) → ((x : ℕ) → is_in xs x ≡ option_map_or (has_end h) ((state_of v).links x) false) → HasSpread S v h event xs old new → HaveBeenNoted t old new
  spread_all xs old new each m = noted_so (λ y d. is_in xs y && t y d) t old new (λ y d. go y d (t y d) refl) m
    where
      go : (y : ℕ) (d : Dir) (b : Bool) → t y d ≡ b → (is_in xs y && t y d) ≡ t y d
      go y d false e = ap (λ b. is_in xs y && b) e ∙ and_off (is_in xs y) ∙ sym e
      go y d true e = ap (λ b. b && t y d) (each y ∙ begins_has h d ((state_of v).links y) (and_both _ _ (and_both _ _ e).0).0)

  -- ---- the way out

  pub way_more_so : (ys : List ℕ) (x : ℕ) (b : Bool) → b ≡ leaves_at S v h event x → b ≡ true → IsWayAmong S v h event (ys ++ x ∷ []) (Some x)
  way_more_so ys x b e f = sym e ∙ f

  pub way_more_not : (ys : List ℕ) (x : ℕ) (b : Bool) (out : Option ℕ) → b ≡ leaves_at S v h event x → b ≡ false → IsWayAmong S v h event ys out → IsWayAmong S v h event (ys ++ x ∷ []) out
  way_more_not ys x b (Some z) e f w = w
  way_more_not ys x b None e f w = λ z i. go z (x == z) refl (sym (in_more ys x z) ∙ i)
    where
      left : (a b : Bool) → (a || b) ≡ true → b ≡ false → a ≡ true
      left true b h e = refl
      left false true h e = absurd cc
      left false false h e = absurd cc

      go : (z : ℕ) (q : Bool) → (x == z) ≡ q → (is_in ys z || x == z) ≡ true → leaves_at S v h event z ≡ false
      go z true q i = subst (λ y. leaves_at S v h event y ≡ false) (eqb-true x z q) (sym e ∙ f)
      go z false q i = w z (left (is_in ys z) (x == z) i q)

  pub way_all : (xs : List ℕ) (out : Option ℕ) → ((x : ℕ) → is_in xs x ≡ option_map_or (has_end h) ((state_of v).links x) false) → IsWayAmong S v h event xs out → IsWayOut S v h event out
  way_all xs (Some x) each w = w
  way_all xs None each w = λ x. go x (leaves_at S v h event x) refl
    where
      one : (x : ℕ) (d : Dir) → leaves_by S v h event x d ≡ true → is_in xs x ≡ true
      one x d e = each x ∙ begins_has h d ((state_of v).links x) (and_both _ _ (and_both _ _ e).0).0

      either : (x : ℕ) (b : Bool) → leaves_by S v h event x Plus ≡ b → leaves_at S v h event x ≡ true → is_in xs x ≡ true
      either x true e f = one x Plus e
      either x false e f = one x Minus (sym (ap (λ b. b || leaves_by S v h event x Minus) e) ∙ f)

      go : (x : ℕ) (b : Bool) → leaves_at S v h event x ≡ b → leaves_at S v h event x ≡ false
      go x false e = e
      go x true e = w x (either x (leaves_by S v h event x Plus) refl e)
