-- Each step keeps the balance of a deque.
use Rattle.std.proofs.Common.{◌≡◌, ◌≢◌, ℕ, zero, suc, ◌+◌, ◌-◌, ◌<◌, ◌≤◌, List, [], ◌∷◌, ◌++◌, length, set, refl, sym, ap, ◌∙◌, subst, ⊎_elim, append_assoc, arith}
use Rattle.std.specs.List.{sum_by}
use Rattle.std.proofs.lemmas.List.Sums.{sum_by-append, sum_by-cons, sum_by_push}
use mathlib.Core.Option.{some, some-injective, some-ne-none}
use lib.ListN.{get_elem?}
use Rattle.atomic_table.proofs.Lists.{at_set, at_snoc, set_here}
use Rattle.crossbeam_deque.specs.Tasks.{Admits, FindsFew, Forks, Learns, Merges, Pushes, Takes, TakesBatch}
use Rattle.kom_ready.specs.declared.rule.Hand.{Hand}
use Rattle.kom_ready.specs.Rule.{Balanced, IdleIsEmpty, IsSettled, IsWithin, all_parts, hand}

-- the total after a change of one pass
total_set : (f : Hand → ℕ) (views : List Hand) (port : ℕ) (v w : Hand) → get_elem? views port ≡ some v → sum_by f (set views port w) + f v ≡ sum_by f views + f w
total_set f [] port v w at = absurd (some-ne-none v (sym at))
total_set f (x ∷ xs) zero v w at =
    let a = sum_by-cons f w xs in
    let b = sum_by-cons f x xs in
    let e = ap f (some-injective x v at) in
    omega (arith, a, b, e)
total_set f (x ∷ xs) (suc port) v w at =
    let a = sum_by-cons f x (set xs port w) in
    let b = sum_by-cons f x xs in
    let r = total_set f xs port v w at in
    omega (arith, a, b, r)

-- no pass has more than all have
part_of_total : (f : Hand → ℕ) (views : List Hand) (port : ℕ) (v : Hand) → get_elem? views port ≡ some v → f v ≤ sum_by f views
part_of_total f [] port v at = absurd (some-ne-none v (sym at))
part_of_total f (x ∷ xs) zero v at = let b = sum_by-cons f x xs in let e = ap f (some-injective x v at) in omega (arith, b, e)
part_of_total f (x ∷ xs) (suc port) v at = let b = sum_by-cons f x xs in let r = part_of_total f xs port v at in omega (arith, b, r)

idle_set : (views : List Hand) (port : ℕ) (w : Hand) → (w.parts ≡ 0 → (w.put ≡ []) × (w.taken ≡ [])) → IdleIsEmpty views → IdleIsEmpty (set views port w)
idle_set views port w mine idle j u at none = ⊎_elim (λ (x : (j ≡ port) × (w ≡ u)). subst (λ (y : Hand). (y.put ≡ []) × (y.taken ≡ [])) x.1 (mine (ap (λ (y : Hand). y.parts) x.1 ∙ none)))
    (λ (x : (j ≢ port) × (get_elem? views j ≡ some u)). idle j u x.1 none) (at_set views port j w u at)

-- where a pass with every part has nothing of what the idle have, it has all there is
whole : (f : Hand → ℕ) → ((u : Hand) → u.parts ≡ 0 → (u.put ≡ []) × (u.taken ≡ []) → f u ≡ 0) → (views : List Hand) → IdleIsEmpty views → (port : ℕ) (v : Hand) → get_elem? views port ≡ some v
    → sum_by (λ u. u.parts) views ≡ v.parts → sum_by f views ≡ f v
whole f idle [] all port v at full = absurd (some-ne-none v (sym at))
whole f idle (x ∷ xs) all zero v at full =
    let e : x ≡ v = some-injective x v at in
    let a = sum_by-cons (λ (u : Hand). u.parts) x xs in
    let b = sum_by-cons f x xs in
    let p = ap (λ (u : Hand). u.parts) e in
    let q = ap f e in
    let r = nothing xs (λ j u k. all (suc j) u k) (omega (arith, a, p, full)) in
    omega (arith, b, q, r)
  where
    nothing : (us : List Hand) → IdleIsEmpty us → sum_by (λ u. u.parts) us ≡ 0 → sum_by f us ≡ 0
    nothing [] _ _ = refl
    nothing (y ∷ ys) empty n =
        let a = sum_by-cons (λ (u : Hand). u.parts) y ys in
        let b = sum_by-cons f y ys in
        let none : y.parts ≡ 0 = omega (arith, a, n) in
        let k = idle y none (empty 0 y refl none) in
        let r = nothing ys (λ j u k. empty (suc j) u k) (omega (arith, a, n)) in
        omega (arith, b, k, r)
whole f idle (x ∷ xs) all (suc port) v at full =
    let a = sum_by-cons (λ (u : Hand). u.parts) x xs in
    let b = sum_by-cons f x xs in
    let m = part_of_total (λ (u : Hand). u.parts) xs port v at in
    let none : x.parts ≡ 0 = omega (arith, a, m, full) in
    let k = idle x none (all 0 x refl none) in
    let r = whole f idle xs (λ j u k. all (suc j) u k) port v at (omega (arith, a, m, full, none)) in
    omega (arith, b, k, r)

abbrev puts : (ℕ → ℕ) → Hand → ℕ
puts h v = sum_by h v.put

abbrev takes_out : (ℕ → ℕ) → Hand → ℕ
takes_out h v = sum_by h v.taken

pub begins : Balanced [] (hand all_parts [] [] [] ∷ [])
begins = (
  refl,
  (λ h. refl),
  λ j u at none. absurd (first j u at none),
)
  where
    first : (j : ℕ) (u : Hand) → get_elem? (hand all_parts [] [] [] ∷ []) j ≡ some u → u.parts ≡ 0 → ⊥
    first zero u at none = let e = ap (λ (y : Hand). y.parts) (some-injective _ u at) in omega (arith, e, none)
    first (suc j) u at none = some-ne-none u (sym at)

-- numbers come in, and the pass may also note them as pushed
pub comes : (port : ℕ) (v : Hand) (pushed xs : List ℕ) → 0 < v.parts → Pushes Balanced port v xs (λ w. w ≡ hand v.parts pushed (v.put ++ xs) v.taken)
comes port v pushed xs some_part items views b at =
    let w : Hand = hand v.parts pushed (v.put ++ xs) v.taken in (
      w,
      (
        (let s = total_set (λ u. u.parts) views port v w at in let p = b.0 in omega (arith, s, p)),
        (λ h.
            let s = total_set (puts h) views port v w at in
            let t = total_set (takes_out h) views port v w at in
            let p = b.1 h in
            let a = sum_by-append h v.put xs in
            let e = sum_by-append h items xs in
            omega (arith, s, t, p, a, e)),
        idle_set views port w (λ none. absurd (omega (arith, none, some_part))) b.2,
      ),
      refl,
    )

pub leaves : (port : ℕ) (v : Hand) (most : ℕ) → 0 < v.parts → Takes Balanced port v most (λ xs w. w ≡ hand v.parts v.pushed v.put (v.taken ++ xs))
leaves port v most some_part xs items views _ _ b at =
    let w : Hand = hand v.parts v.pushed v.put (v.taken ++ xs) in (
      w,
      (
        (let s = total_set (λ u. u.parts) views port v w at in let p = b.0 in omega (arith, s, p)),
        (λ h.
            let s = total_set (puts h) views port v w at in
            let t = total_set (takes_out h) views port v w at in
            let p = b.1 h in
            let a = sum_by-append h v.taken xs in
            let e = sum_by-append h xs items in
            omega (arith, s, t, p, a, e)),
        idle_set views port w (λ none. absurd (omega (arith, none, some_part))) b.2,
      ),
      refl,
    )

abbrev then : Hand → List ℕ → Hand → Type 0
then v xs w = w ≡ hand v.parts v.pushed v.put (v.taken ++ xs)

pub batches_leave : (port : ℕ) (v : Hand) (most : ℕ) → 0 < v.parts → TakesBatch Balanced port v most then
batches_leave port v most some_part = (
  leaves port v most some_part,
  λ xs u e. (
    leaves port u 1 (subst (λ (y : Hand). 0 < y.parts) (sym e) some_part),
    λ ys w k. k ∙ ap (λ (y : Hand). hand y.parts y.pushed y.put (y.taken ++ ys)) e ∙ ap (hand v.parts v.pushed v.put) (append_assoc v.taken xs ys),
  ),
)

pub settles : (port : ℕ) (v : Hand) → (views : List Hand) → Balanced [] views → get_elem? views port ≡ some v → IsSettled v
settles port v views b at full h =
    let a = whole (puts h) (λ u none e. ap (sum_by h) e.0) views b.2 port v at (b.0 ∙ sym full) in
    let t = whole (takes_out h) (λ u none e. ap (sum_by h) e.1) views b.2 port v at (b.0 ∙ sym full) in
    let p = b.1 h in
    omega (arith, a, t, p)

pub settles_few : (port : ℕ) (v : Hand) (most : ℕ) → most ≡ 0 → FindsFew Balanced most port v (IsSettled v)
settles_few port v most zero_most [] views few b at = settles port v views b at
settles_few port v most zero_most (x ∷ items) views few b at = absurd (omega (arith, few, zero_most))

pub within : (port : ℕ) (v : Hand) → Learns Balanced port v (λ items. IsWithin v)
within port v items views b at full h =
    let a = whole (puts h) (λ u none e. ap (sum_by h) e.0) views b.2 port v at (b.0 ∙ sym full) in
    let t = whole (takes_out h) (λ u none e. ap (sum_by h) e.1) views b.2 port v at (b.0 ∙ sym full) in
    let p = b.1 h in
    omega (arith, a, t, p)

pub forks : (port : ℕ) (v : Hand) → 1 < v.parts → Forks Balanced port v (hand (v.parts - 1) v.pushed v.put v.taken) (hand 1 [] [] [])
forks port v more items views b at =
    let l : Hand = hand (v.parts - 1) v.pushed v.put v.taken in
    let r : Hand = hand 1 [] [] [] in
    let vs : List Hand = set views port l in (
      (let s = total_set (λ u. u.parts) views port v l at in let p = b.0 in let a = sum_by_push (λ (u : Hand). u.parts) vs r in omega (arith, s, p, a, more)),
      (λ h.
          let s = total_set (puts h) views port v l at in
          let t = total_set (takes_out h) views port v l at in
          let p = b.1 h in
          let a = sum_by_push (puts h) vs r in
          let e = sum_by_push (takes_out h) vs r in
          omega (arith, s, t, p, a, e)),
      λ j u k none. ⊎_elim (λ x. idle_set views port l (λ n. absurd (omega (arith, n, more))) b.2 j u x none)
          (λ (is : r ≡ u). absurd (let e = ap (λ (y : Hand). y.parts) is in omega (arith, e, none))) (at_snoc vs r u j k),
    )

pub merges : (port : ℕ) (v : Hand) (other : ℕ) (w : Hand) → 0 < v.parts → Merges Balanced port v other w (hand (v.parts + w.parts) v.pushed (v.put ++ w.put) (v.taken ++ w.taken)) (hand 0 [] [] [])
merges port v other w some_part items views b at two at' =
    let both : Hand = hand (v.parts + w.parts) v.pushed (v.put ++ w.put) (v.taken ++ w.taken) in
    let spent : Hand = hand 0 [] [] [] in
    let vs : List Hand = set views port both in (
      (let s = total_set (λ u. u.parts) views port v both at in let q = total_set (λ u. u.parts) vs other w spent at' in let p = b.0 in omega (arith, s, q, p)),
      (λ h.
          let s = total_set (puts h) views port v both at in
          let t = total_set (takes_out h) views port v both at in
          let q = total_set (puts h) vs other w spent at' in
          let r = total_set (takes_out h) vs other w spent at' in
          let p = b.1 h in
          let a = sum_by-append h v.put w.put in
          let e = sum_by-append h v.taken w.taken in
          omega (arith, s, t, q, r, p, a, e)),
      idle_set vs other spent (λ _. (refl, refl)) (idle_set views port both (λ none. absurd (omega (arith, none, some_part))) b.2),
    )

pub admits : Admits Balanced (hand 0 [] [] [])
admits items views b =
    let r : Hand = hand 0 [] [] [] in (
      (let p = b.0 in let a = sum_by_push (λ (u : Hand). u.parts) views r in omega (arith, p, a)),
      (λ h.
          let p = b.1 h in
          let a = sum_by_push (puts h) views r in
          let e = sum_by_push (takes_out h) views r in
          omega (arith, p, a, e)),
      λ j u k none. ⊎_elim (λ x. b.2 j u x none) (λ (is : r ≡ u). (ap (λ (y : Hand). y.put) (sym is), ap (λ (y : Hand). y.taken) (sym is))) (at_snoc views r u j k),
    )

-- taken out, and no more than were put in
pub drains : (port : ℕ) (v : Hand) → 0 < v.parts → Takes Balanced port v 1 (λ xs w. (w ≡ hand v.parts v.pushed v.put (v.taken ++ xs)) × IsWithin w)
drains port v some_part xs items views more few b at =
    let t = leaves port v 1 some_part xs items views more few b at in
    let there : get_elem? (set views port t.0) port ≡ some t.0 = set_here views port t.0 (below_at views port v at) in
    (t.0, t.1, (t.2, within port t.0 items (set views port t.0) t.1 there))
  where
    below_at : (us : List Hand) (i : ℕ) (u : Hand) → get_elem? us i ≡ some u → i < length us
    below_at [] i u e = absurd (some-ne-none u (sym e))
    below_at (y ∷ ys) zero u e = omega arith
    below_at (y ∷ ys) (suc i) u e = let r = below_at ys i u e in omega (arith, r)
