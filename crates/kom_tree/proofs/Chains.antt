-- Chains of living children, the youngest first.
use Rattle.std.proofs.Common.{◌≡◌, ◌≢◌, ℕ, zero, suc, ◌<◌, ◌≤◌, Bool, true, false, cond, ◌&&◌, eqb, List, Option, Some, None, refl, sym, ap, ◌∙◌, subst, arith}
use Rattle.std.specs.Option.{option_map_or}
use Rattle.kom_tree.specs.declared.family.Origin.{Origin}
use Rattle.kom_tree.specs.Parts.{parent_at, lives, hangs_at, newest, place_of}
use Rattle.kom_tree.proofs.Views.{both_left, both_right}
use Rattle.std.proofs.lemmas.Bool.{eq-eqb, eqb-true}

pub hangs : (os : List Origin) (p s c : ℕ) → parent_at os c ≡ Some (p, s) → hangs_at os p c ≡ true
hangs os p s c e = ap (λ q. option_map_or (λ (q : ℕ × ℕ). eqb q.0 p) q false) e ∙ eq-eqb p p refl

pub hangs_from : (os : List Origin) (p c : ℕ) → hangs_at os p c ≡ true → (s : ℕ) × (parent_at os c ≡ Some (p, s))
hangs_from os p c h = go (parent_at os c) refl
  where
    go : (q : Option (ℕ × ℕ)) → parent_at os c ≡ q → (s : ℕ) × (parent_at os c ≡ Some (p, s))
    go None e = absurd (cc)
    go (Some q) e = let same : q.0 ≡ p = eqb-true q.0 p (sym (ap (λ q. option_map_or (λ (q : ℕ × ℕ). eqb q.0 p) q false) e) ∙ h) in (q.1, e ∙ ap (λ n. Some (n, q.1)) same)

module _ (os : List Origin) (bs : List Bool) (p : ℕ) where
  abbrev pub IsChild : ℕ → Type 0
  IsChild c = (lives bs c ≡ true) × (hangs_at os p c ≡ true)

  both : (c : ℕ) → IsChild c → (lives bs c && hangs_at os p c) ≡ true
  both c h = ap (λ b. b && hangs_at os p c) h.0 ∙ h.1

  pub newest_is : (b c : ℕ) → newest os bs p b ≡ Some c → IsChild c × (c < b)
  unfolding newest
  newest_is zero c e = absurd (cc)
  newest_is (suc b) c e = go (lives bs b && hangs_at os p b) refl (newest_is b c)
    where
      go : (t : Bool) → (lives bs b && hangs_at os p b) ≡ t → (newest os bs p b ≡ Some c → IsChild c × (c < b)) → IsChild c × (c < suc b)
      go true t rest = let same : b ≡ c = cc in subst (λ n. IsChild n × (n < suc b)) same ((both_left _ _ t, both_right _ _ t), omega arith)
      go false t rest = let below = rest (cc) in (below.0, omega (arith, below.1))

  pub newest_above : (b c : ℕ) → IsChild c → c < b → (d : ℕ) × (newest os bs p b ≡ Some d) × (c ≤ d)
  unfolding newest
  newest_above zero c h l = absurd (omega arith)
  newest_above (suc b) c h l = go (lives bs b && hangs_at os p b) refl (newest_above b c h)
    where
      go : (t : Bool) → (lives bs b && hangs_at os p b) ≡ t → (c < b → (d : ℕ) × (newest os bs p b ≡ Some d) × (c ≤ d)) → (d : ℕ) × (newest os bs p (suc b) ≡ Some d) × (c ≤ d)
      go true t rest = (b, ap (λ t. cond t (Some b) (newest os bs p b)) t, omega arith)
      go false t rest =
          let other : c ≢ b = λ e. let at = subst IsChild e h in cc (both b at) in
          let below = rest (omega arith) in (below.0, ap (λ t. cond t (Some b) (newest os bs p b)) t ∙ below.1, below.2)

  -- the chain leads down
  pub place_newest : (b : ℕ) → place_of (newest os bs p b) < suc b
  place_newest b = go (newest os bs p b) refl
    where
      go : (n : Option ℕ) → newest os bs p b ≡ n → place_of (newest os bs p b) < suc b
      go None e = omega (arith, ap place_of e)
      go (Some c) e = omega (arith, ap place_of e, (newest_is b c e).1)
