-- Lists of rising numbers.
use Rattle.std.proofs.Common.{◌≡◌, ℕ, suc, ◌+◌, ◌<◌, ◌≤◌, Bool, true, false, if◌then◌else◌, ◌||◌, ◌==◌, refl, sym, ap, ◌∙◌, subst, List, [], ◌∷◌, ◌++◌, length, map, filter, arith}
use Rattle.std.specs.List.{enumerate_from}
use Rattle.std.proofs.lemmas.Bool.{eqb-true, eq-eqb, ne_eqb}
use Rattle.kom_base.specs.Lists.{holds_number}
use Rattle.kom_marks.specs.Settling.{RisesFrom}

either_of : (a b : Bool) → b ≡ true → (a || b) ≡ true
either_of true b e = refl
either_of false b e = e

grouped : (a b c : Bool) → (a || (b || c)) ≡ ((a || b) || c)
grouped true b c = refl
grouped false b c = refl

pub held_in_both : (ws vs : List ℕ) (d : ℕ) → holds_number (ws ++ vs) d ≡ (holds_number ws d || holds_number vs d)
held_in_both [] vs d = refl
held_in_both (w ∷ ws) vs d = ap (λ b. (w == d) || b) (held_in_both ws vs d) ∙ grouped (w == d) (holds_number ws d) (holds_number vs d)

own : (w : ℕ) (ws : List ℕ) → holds_number (w ∷ ws) w ≡ true
own w ws = ap (λ b. b || holds_number ws w) (eq-eqb w w refl)

-- a greater number at the end
pub rises_on : (low c : ℕ) (ws : List ℕ) → RisesFrom low ws → low ≤ c → ((d : ℕ) → holds_number ws d ≡ true → d < c) → RisesFrom low (ws ++ c ∷ [])
rises_on low c [] r le h = (le, tt)
rises_on low c (w ∷ ws) r le h =
    let a : w < c = h w (own w ws) in
    (r.0, rises_on (suc w) c ws r.1 (omega (arith, a)) (λ d e. h d (either_of (w == d) (holds_number ws d) e)))

held_from : (low : ℕ) (ws : List ℕ) (d : ℕ) → RisesFrom low ws → holds_number ws d ≡ true → low ≤ d
held_from low [] d r h = absurd (cc)
held_from low (w ∷ ws) d r h = go (w == d) refl (held_from (suc w) ws d r.1)
  where
    go : (b : Bool) → (w == d) ≡ b → (holds_number ws d ≡ true → suc w ≤ d) → low ≤ d
    go true t rest = let e : w ≡ d = eqb-true w d t in let a : low ≤ w = r.0 in omega (arith, e, a)
    go false t rest = let a = rest (sym (ap (λ b. b || holds_number ws d) t) ∙ h) in let b : low ≤ w = r.0 in omega (arith, a, b)

module _ (p : ℕ → Bool) where
  abbrev Are : ℕ → List ℕ → Type 0
  Are low ws = (d : ℕ) → low ≤ d → holds_number ws d ≡ p d

  -- the list without its first number, which is the bound
  later : (low w : ℕ) (ws : List ℕ) → w ≡ low → Are low (w ∷ ws) → Are (low + 1) ws
  later low w ws e are d le = sym (ap (λ b. b || holds_number ws d) (ne_eqb w d (λ s. absurd (omega (arith, s, e, le))))) ∙ are d (omega (arith, le))

  is_first : (low w : ℕ) (ws : List ℕ) → RisesFrom low (w ∷ ws) → holds_number (w ∷ ws) low ≡ true → w ≡ low
  is_first low w ws r h = go (w == low) refl
    where
      go : (b : Bool) → (w == low) ≡ b → w ≡ low
      go true t = eqb-true w low t
      go false t = absurd (let a : suc w ≤ low = held_from (suc w) ws low r.1 (sym (ap (λ b. b || holds_number ws low) t) ∙ h) in let b : low ≤ w = r.0 in omega (arith, a, b))

  above : (low : ℕ) (ws : List ℕ) → RisesFrom low ws → holds_number ws low ≡ false → RisesFrom (low + 1) ws
  above low [] r h = tt
  above low (w ∷ ws) r h = (go (w == low) refl, r.1)
    where
      go : (b : Bool) → (w == low) ≡ b → low + 1 ≤ w
      go true t = absurd (cc (h, ap (λ b. b || holds_number ws low) t))
      go false t = let n : (w ≡ low → ⊥) = λ s. cc (t, eq-eqb w low s) in let b : low ≤ w = r.0 in omega (arith, b, n)

  one_on : (low : ℕ) (ws : List ℕ) → RisesFrom (suc low) ws → RisesFrom (low + 1) ws
  one_on low ws r = let e : suc low ≡ low + 1 = omega arith in subst (λ l. RisesFrom l ws) e r

  module _ {X : Type 0} where
    -- what a filter leaves of the numbers above a bound
    abbrev rest : ℕ → List X → List ℕ
    rest low xs = filter p (map (λ (i : ℕ × X). i.0) (enumerate_from (low + 1) xs))

    -- a rising list of what passes the test is what a filter leaves of the numbers up to a bound
    pub those : (low : ℕ) (xs : List X) (ws : List ℕ) → RisesFrom low ws → Are low ws → ((d : ℕ) → p d ≡ true → d < low + length xs) → ws ≡ filter p (map (λ (i : ℕ × X). i.0) (enumerate_from low xs))
    those low [] [] r are below = refl
    those low [] (w ∷ ws) r are below = absurd (let b : low ≤ w = r.0 in let a = below w (sym (are w b) ∙ own w ws) in omega (arith, a, b))
    those low (x ∷ xs) ws r are below = go ws r are (p low) refl (λ vs s more. those (low + 1) xs vs s more (λ d e. let a = below d e in omega (arith, a)))
      where
        go : (ws : List ℕ) → RisesFrom low ws → Are low ws → (b : Bool) → p low ≡ b → ((vs : List ℕ) → RisesFrom (low + 1) vs → Are (low + 1) vs → vs ≡ rest low xs) → ws ≡ (if p low then low ∷ rest low xs else rest low xs)
        go [] r are true t on = absurd (cc (are low (omega arith), t))
        go (w ∷ ws) r are true t on =
            let e : w ≡ low = is_first low w ws r (are low (omega arith) ∙ t) in
            let tail : ws ≡ rest low xs = on ws (one_on low ws (subst (λ l. RisesFrom (suc l) ws) e r.1)) (later low w ws e are) in
            (λ i. e i ∷ tail i) ∙ sym (ap (λ b. if b then low ∷ rest low xs else rest low xs) t)
        go ws r are false t on =
            on ws (above low ws r (are low (omega arith) ∙ t)) (λ d le. are d (omega (arith, le))) ∙ sym (ap (λ b. if b then low ∷ rest low xs else rest low xs) t)
