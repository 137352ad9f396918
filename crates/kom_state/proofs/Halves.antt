-- The channels at a half.
use Rattle.std.proofs.Common.{◌≡◌, ◌≢◌, ℕ, zero, suc, ◌+◌, ◌<◌, ◌≤◌, Bool, true, false, ◌||◌, cond, List, [], ◌∷◌, length, map, Option, Some, None, refl, sym, ap, ◌∙◌, if◌then◌else◌, inl, inr, ◌⊎◌, arith, subst}
use Rattle.std.proofs.lemmas.Bool.{ne_eqb, eq-eqb}
use Rattle.std.specs.Prelude.{◌==◌, slice_index, filter}
use Rattle.std.specs.List.{list_any}
use Rattle.std.specs.List.Sorted.{IsStrictlyIncreasing}
use Rattle.std.specs.Option.{option_map, option_map_or}
use Rattle.std.specs.Ordering.{nat_cmp}
use Rattle.std.specs.declared.cmp.Ordering.TheVariants.{Less}
use Rattle.std.proofs.lemmas.Cmp.{ranked}
use Rattle.std.proofs.lemmas.Bool.Decides.{eqb_tells}
use Rattle.kom_base.specs.declared.numbers.Half.{Half}
use Rattle.kom_index.specs.Entries.{AllKeys, Rises}
use Rattle.kom_wiring.specs.declared.link.Link.{Link}
use Rattle.kom_wiring.specs.Wires as wires
use Rattle.kom_wiring.specs.Wires.{link_of, plugged_at}
use Rattle.kom_wiring.proofs.Plugging.{nat_is_eq}
use Rattle.kom_state.specs.Parts.{Parts, state_of, link_seen}
use Rattle.kom_state.specs.Readings.{has_end, AreAtHalf}

-- all numbers in a list lie above one
abbrev AllAbove : ℕ → List ℕ → Type 0
AllAbove x [] = Unit {0}
AllAbove x (y ∷ ys) = (x < y) × AllAbove x ys

-- each number lies above all before it
abbrev Rising : List ℕ → Type 0
Rising [] = Unit {0}
Rising (x ∷ xs) = AllAbove x xs × Rising xs

above_index : (x : ℕ) (xs : List ℕ) (k : ℕ) → AllAbove x xs → k < length xs → x < slice_index xs k
above_index x [] k a h = absurd (omega (arith, h))
above_index x (y ∷ ys) zero a h = a.0
above_index x (y ∷ ys) (suc k) a h = above_index x ys k a.1 (omega (arith, h))

increasing : (xs : List ℕ) → Rising xs → (k : ℕ) → suc k < length xs → slice_index xs k < slice_index xs (suc k)
increasing [] r k h = absurd (omega (arith, h))
increasing (x ∷ xs) r zero h = above_index x xs 0 r.0 (omega (arith, h))
increasing (x ∷ xs) r (suc k) h = increasing xs r.1 k (omega (arith, h))

pub is_increasing : (xs : List ℕ) → Rising xs → IsStrictlyIncreasing xs
is_increasing xs r k h =
    let e : suc k ≡ k + 1 = omega arith in
    let P : ℕ → Type 0 = λ j. slice_index xs k < slice_index xs j in
    subst P e (increasing xs r k (omega (arith, h)))

module _ (h : Half) where
  abbrev at_half : List (ℕ × Link) → List ℕ
  at_half links = plugged_at h links

  head : (b : Bool) (e : ℕ × Link) (es : List (ℕ × Link)) → wires.has_end h e.1 ≡ b → at_half (e ∷ es) ≡ (if b then e.0 ∷ at_half es else at_half es)
  head true e es t = ap (λ b. map (λ (e : ℕ × Link). e.0) (cond b (e ∷ filter (λ (e : ℕ × Link). wires.has_end h e.1) es) (filter (λ (e : ℕ × Link). wires.has_end h e.1) es))) t
  head false e es t = ap (λ b. map (λ (e : ℕ × Link). e.0) (cond b (e ∷ filter (λ (e : ℕ × Link). wires.has_end h e.1) es) (filter (λ (e : ℕ × Link). wires.has_end h e.1) es))) t

  all_above : (x : ℕ) (es : List (ℕ × Link)) → AllKeys (λ y. nat_cmp x y ≡ Less) es → AllAbove x (at_half es)
  all_above x [] a = tt
  all_above x (e ∷ es) a = at (wires.has_end h e.1) refl (all_above x es a.1)
    where
      at : (b : Bool) → wires.has_end h e.1 ≡ b → AllAbove x (at_half es) → AllAbove x (at_half (e ∷ es))
      at true t rest = subst (AllAbove x) (sym (head true e es t)) (ranked x e.0 Less (sym a.0), rest)
      at false t rest = subst (AllAbove x) (sym (head false e es t)) rest

  pub rising : (es : List (ℕ × Link)) → Rises nat_cmp es → Rising (at_half es)
  rising [] r = tt
  rising (e ∷ es) r = at (wires.has_end h e.1) refl (rising es r.1)
    where
      at : (b : Bool) → wires.has_end h e.1 ≡ b → Rising (at_half es) → Rising (at_half (e ∷ es))
      at true t rest = subst Rising (sym (head true e es t)) (all_above e.0 es r.0, rest)
      at false t rest = subst Rising (sym (head false e es t)) rest

  absent : (x z : ℕ) (es : List (ℕ × Link)) → AllKeys (λ y. nat_cmp x y ≡ Less) es → z ≤ x → link_of es z ≡ None
  absent x z [] a le = refl
  absent x z (e ∷ es) a le =
      let less : x < e.0 = ranked x e.0 Less (sym a.0) in
      ap (λ b. cond b (Some e.1) (link_of es z)) (nat_is_eq z e.0 ∙ ne_eqb z e.0 (λ s. absurd (omega (arith, less, le, s)))) ∙ absent x z es a.1 le

  -- what is in the list at the head and in its tail
  at_head : (b : Bool) (e : ℕ × Link) (es : List (ℕ × Link)) (x : ℕ) → wires.has_end h e.1 ≡ b → (e.0 == x) ≡ true → list_any (λ y. y == x) (at_half es) ≡ false → list_any (λ y. y == x) (at_half (e ∷ es)) ≡ b
  at_head true e es x t k rest = ap (list_any (λ y. y == x)) (head true e es t) ∙ ap (λ b. b || list_any (λ y. y == x) (at_half es)) k
  at_head false e es x t k rest = ap (list_any (λ y. y == x)) (head false e es t) ∙ rest

  in_tail : (b : Bool) (e : ℕ × Link) (es : List (ℕ × Link)) (x : ℕ) → wires.has_end h e.1 ≡ b → (e.0 == x) ≡ false → list_any (λ y. y == x) (at_half (e ∷ es)) ≡ list_any (λ y. y == x) (at_half es)
  in_tail true e es x t k = ap (list_any (λ y. y == x)) (head true e es t) ∙ ap (λ b. b || list_any (λ y. y == x) (at_half es)) k
  in_tail false e es x t k = ap (list_any (λ y. y == x)) (head false e es t)

  pub each : (es : List (ℕ × Link)) → Rises nat_cmp es → (x : ℕ) → list_any (λ y. y == x) (at_half es) ≡ option_map_or (wires.has_end h) (link_of es x) false
  each [] r x = refl
  each (e ∷ es) r x = at (eqb_tells e.0 x) (each es r.1 x)
    where
      at : ((e.0 == x) ≡ true) × (e.0 ≡ x) ⊎ ((e.0 == x) ≡ false) × (e.0 ≢ x) → list_any (λ y. y == x) (at_half es) ≡ option_map_or (wires.has_end h) (link_of es x) false
          → list_any (λ y. y == x) (at_half (e ∷ es)) ≡ option_map_or (wires.has_end h) (link_of (e ∷ es) x) false
      at (inl t) rest =
          at_head (wires.has_end h e.1) e es x refl t.0 (rest ∙ ap (λ o. option_map_or (wires.has_end h) o false) (absent e.0 x es r.0 (omega (arith, t.1))))
          ∙ sym (ap (λ b. option_map_or (wires.has_end h) (cond b (Some e.1) (link_of es x)) false) (nat_is_eq x e.0 ∙ eq-eqb x e.0 (sym t.1)))
      at (inr f) rest =
          in_tail (wires.has_end h e.1) e es x refl f.0 ∙ rest
          ∙ sym (ap (λ b. option_map_or (wires.has_end h) (cond b (Some e.1) (link_of es x)) false) (nat_is_eq x e.0 ∙ ne_eqb x e.0 (λ s. f.1 (sym s))))

module _ (v : Parts) (h : Half) where
  seen : (o : Option Link) → option_map_or (wires.has_end h) o false ≡ option_map_or (has_end h) (option_map link_seen o) false
  seen None = refl
  seen (Some l) = refl

  pub are_at_half : Rises nat_cmp v.wires.links → AreAtHalf (state_of v) h (plugged_at h v.wires.links)
  unfolding state_of
  are_at_half r = record {
    rising = is_increasing (plugged_at h v.wires.links) (rising h v.wires.links r);
    each = λ x. each h v.wires.links r x ∙ seen (link_of v.wires.links x);
  }
