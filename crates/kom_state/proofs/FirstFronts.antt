-- The first front for a component.
use Rattle.std.proofs.Common.{◌≡◌, ℕ, Bool, true, false, ◌||◌, ◌&&◌, not, cond, Option, Some, None, refl, sym, ap, ◌∙◌, if◌then◌else◌, inl, inr, arith}
use Rattle.std.specs.Prelude.{◌==◌, nat_lt}
use Rattle.std.specs.Option.{option_map, option_map_or}
use Rattle.std.specs.Ordering.{nat_cmp, is_lt, ordering_then}
use Rattle.std.specs.declared.cmp.Ordering.{Ordering}
use Rattle.std.specs.declared.cmp.Ordering.TheVariants.{Less, Equal, Greater}
use Rattle.std.proofs.lemmas.Bool.Decides.{eqb_tells}
use Rattle.std.proofs.lemmas.Bool.{ltb-false, lt-ltb}
use Rattle.kom_base.specs.declared.numbers.Dir.{Dir}
use Rattle.kom_base.specs.declared.numbers.Dir.TheVariants.{Plus, Minus}
use Rattle.kom_base.specs.declared.numbers.EntryNo.{EntryNo}
use Rattle.kom_base.specs.Lists.{first}
use Rattle.kom_base.specs.Numbers.{is_plus, is_earlier}
use Rattle.kom_queues.specs.Fronts.{number_cmp, dir_index}
use Rattle.kom_queues.specs.Waiting.{Waiting}
use Rattle.kom_queues.specs.Slots.{queue_of}
use Rattle.kom_queues.specs.Sound.{Arrives, IsFirstAt}
use Rattle.kom_wiring.specs.declared.link.Link as wiring
use Rattle.kom_wiring.specs.Wires.{link_of}
use Rattle.kom_numbers.specs.Numbering.{leads_out}
use Rattle.kom_refine.specs.Points.{receiver_of}
use Rattle.kom_refine.specs.Firsts.{front_for, IsFirst}
use Rattle.kom_state.specs.Parts.{Parts, state_of, link_seen, queue_in}
use Rattle.kom_state.specs.Readings.{front_seen}
use Rattle.kom_state.specs.Sound.{IsTied, aim_for}
use Rattle.kom_state.proofs.Keeping.{itself}

-- ---- the order of the fronts, by its tests

abbrev by_tests : (p q : Bool) → Ordering
by_tests p q = cond p Less (cond q Equal Greater)

not_earlier : (p q r s : Bool) (o : Ordering) → is_lt (ordering_then (ordering_then (by_tests p q) (by_tests r s)) o) ≡ false → (p || (q && r)) ≡ false
not_earlier true q r s o h = absurd (cc)
not_earlier false true true s o h = absurd (cc)
not_earlier false true false s o h = refl
not_earlier false false r s o h = refl

-- of two numbers that are equal the front in the direction that stands before comes first
not_both : (q s t u : Bool) (d e : Dir) → q ≡ true → s ≡ true → is_lt (ordering_then (ordering_then (by_tests false q) (by_tests false s)) (ordering_then (by_tests t u) (nat_cmp (dir_index d) (dir_index e)))) ≡ false
    → (t || (u && is_plus d && not (is_plus e))) ≡ true → ⊥
not_both false s t u d e a b h k = absurd (cc)
not_both true false t u d e a b h k = absurd (cc)
not_both true true true u d e a b h k = absurd (cc)
not_both true true false false d e a b h k = absurd (cc)
not_both true true false true Plus Plus a b h k = absurd (cc)
not_both true true false true Plus Minus a b h k = absurd (cc)
not_both true true false true Minus e a b h k = absurd (cc)

-- of two numbers one is the earlier, or they are equal
later : (a b : ℕ) → nat_lt a b ≡ false → (a == b) ≡ false → nat_lt b a ≡ true
later a b h k = elim (eqb_tells a b) [
  | inl t ↦ absurd (cc (k, t.0))
  | inr f ↦ lt-ltb b a (let g = ltb-false a b h in let n = f.1 in omega (arith, g, n))
]

same : (a b : ℕ) → (a == b) ≡ true → (b == a) ≡ true
same a b h = elim (eqb_tells a b) [
  | inl t ↦ ap (λ z. z == a) (sym t.1) ∙ itself a
  | inr f ↦ absurd (cc (h, f.0))
]

or_true : (x : Bool) → (x || true) ≡ true
or_true true = refl
or_true false = refl

abbrev order_by : EntryNo → EntryNo → (t u : Bool) → Dir → Dir → Ordering
order_by n m t u d e = ordering_then (number_cmp n m) (ordering_then (by_tests t u) (nat_cmp (dir_index d) (dir_index e)))

first_no : (n m : EntryNo) (t u : Bool) (d e : Dir) → is_lt (order_by n m t u d e) ≡ false → is_earlier n m ≡ false
first_no n m t u d e h = not_earlier (nat_lt n.position m.position) (n.position == m.position) (nat_lt n.place m.place) (n.place == m.place) (ordering_then (by_tests t u) (nat_cmp (dir_index d) (dir_index e))) h

-- two numbers of which the one is not earlier, and which are not equal
other_earlier : (n m : EntryNo) (t u : Bool) (d e : Dir) → is_lt (order_by n m t u d e) ≡ false
    → (t || (u && is_plus d && not (is_plus e))) ≡ true → is_earlier m n ≡ true
other_earlier n m t u d e h k = at (nat_lt n.position m.position) (n.position == m.position) (nat_lt n.place m.place) (n.place == m.place) refl refl refl refl
  where
    none : is_earlier n m ≡ false
    none = first_no n m t u d e h

    at : (p q r s : Bool) → nat_lt n.position m.position ≡ p → (n.position == m.position) ≡ q → nat_lt n.place m.place ≡ r → (n.place == m.place) ≡ s → is_earlier m n ≡ true
    at true q r s a b f g = let z : is_earlier n m ≡ true = ap (λ w. w || (n.position == m.position && nat_lt n.place m.place)) a in absurd (cc)
    at false false r s a b f g = ap (λ w. w || (m.position == n.position && nat_lt m.place n.place)) (later n.position m.position a b)
    at false true true s a b f g =
        let z : is_earlier n m ≡ true = ap (λ w. nat_lt n.position m.position || (w && nat_lt n.place m.place)) b ∙ ap (λ w. nat_lt n.position m.position || w) f ∙ or_true (nat_lt n.position m.position) in
        absurd (cc)
    at false true false true a b f g =
        let h' : is_lt (ordering_then (ordering_then (by_tests false (n.position == m.position)) (by_tests false (n.place == m.place))) (ordering_then (by_tests t u) (nat_cmp (dir_index d) (dir_index e)))) ≡ false =
        sym (ap (λ w. is_lt (ordering_then (ordering_then (by_tests w (n.position == m.position)) (by_tests (nat_lt n.place m.place) (n.place == m.place))) (ordering_then (by_tests t u) (nat_cmp (dir_index d) (dir_index e))))) a
        ∙ ap (λ w. is_lt (ordering_then (ordering_then (by_tests false (n.position == m.position)) (by_tests w (n.place == m.place))) (ordering_then (by_tests t u) (nat_cmp (dir_index d) (dir_index e))))) f) ∙ h in
        absurd (not_both (n.position == m.position) (n.place == m.place) t u d e b g h' k)
    at false true false false a b f g =
        ap (λ w. nat_lt m.position n.position || (w && nat_lt m.place n.place)) (same n.position m.position b)
        ∙ ap (λ w. nat_lt m.position n.position || w) (later n.place m.place f g)
        ∙ or_true (nat_lt m.position n.position)

-- ---- the fronts

module _ (v : Parts) (t : IsTied v) where
  -- a direction that leads out waits for nobody
  no_aim : (x : ℕ) (d : Dir) (w : Waiting) → leads_out v.numbers x d ≡ true → queue_of v.slots x d ≡ Some w → w.aim ≡ None
  no_aim x d w out e = at (link_of v.wires.links x) (ap (option_map (λ (w : Waiting). w.aim)) (sym e) ∙ t.queues x d)
    where
      at : (o : Option wiring.Link) → Some w.aim ≡ option_map (aim_for v.numbers x d) o → w.aim ≡ None
      at None h = absurd (cc)
      at (Some l) h =
          let g : w.aim ≡ aim_for v.numbers x d l = cc in
          g ∙ ap (λ b. if b then None else receiver_of d (link_seen l)) out

  front_by : (c x : ℕ) (d : Dir) (n : EntryNo) (b : Bool) (o : Option Waiting) → leads_out v.numbers x d ≡ b → queue_of v.slots x d ≡ o
      → front_for c (queue_in b o) ≡ Some n → Arrives v.slots c x d n
  front_by c x d n true o out e h = absurd (cc)
  front_by c x d n false None out e h = absurd (cc)
  front_by c x d n false (Some w) out e h = aimed w.aim refl h
    where
      at_front : (a : ℕ) (b : Bool) → w.aim ≡ Some a → (a == c) ≡ b → (if b then first w.numbers else None) ≡ Some n → Arrives v.slots c x d n
      at_front a true f g h = elim (eqb_tells a c) [
        | inl q ↦ record { queue = w; is = e; aim = f ∙ ap Some q.1; front = h }
        | inr q ↦ absurd (cc (g, q.0))
      ]
      at_front a false f g h = absurd (cc)

      aimed : (a : Option ℕ) → w.aim ≡ a → (if option_map_or (λ r. r == c) a false then first w.numbers else None) ≡ Some n → Arrives v.slots c x d n
      aimed None f h = absurd (cc)
      aimed (Some a) f h = at_front a (a == c) f refl h

  front_arrives : (c x : ℕ) (d : Dir) (n : EntryNo) → front_for c ((state_of v).queues x d) ≡ Some n → Arrives v.slots c x d n
  unfolding state_of
  front_arrives c x d n h = front_by c x d n (leads_out v.numbers x d) (queue_of v.slots x d) refl refl h

  arrives_front : (c x : ℕ) (d : Dir) (n : EntryNo) → Arrives v.slots c x d n → front_for c ((state_of v).queues x d) ≡ Some n
  unfolding state_of
  arrives_front c x d n a = at (leads_out v.numbers x d) refl
    where
      at : (b : Bool) → leads_out v.numbers x d ≡ b → front_for c (queue_in (leads_out v.numbers x d) (queue_of v.slots x d)) ≡ Some n
      at true out = let e = no_aim x d a.queue out a.is in absurd (cc (e, a.aim))
      at false out =
          ap (λ b. front_for c (queue_in b (queue_of v.slots x d))) out
          ∙ ap (λ o. front_for c (queue_in false o)) a.is
          ∙ ap (λ g. if option_map_or (λ r. r == c) g false then first a.queue.numbers else None) a.aim
          ∙ ap (λ b. if b then first a.queue.numbers else None) (itself c)
          ∙ a.front

  nothing : (c : ℕ) → IsFirstAt v.slots c None → (y : ℕ) (e : Dir) → front_for c ((state_of v).queues y e) ≡ None
  nothing c none y e = at (front_for c ((state_of v).queues y e)) refl
    where
      at : (o : Option EntryNo) → front_for c ((state_of v).queues y e) ≡ o → front_for c ((state_of v).queues y e) ≡ None
      at None f = f
      at (Some n) f = absurd (none y e n (front_arrives c y e n f))

  -- the first that arrives is the first of the fronts
  pub is_first : (c : ℕ) (a : Option (ℕ × Dir × EntryNo)) → IsFirstAt v.slots c a → IsFirst (state_of v) c (option_map front_seen a)
  is_first c None h = nothing c h
  is_first c (Some a) h = (
    arrives_front c a.0 a.1 a.2 h.0,
    (λ y e k f.
        let later = h.1 y e k (front_arrives c y e k f) in
        (first_no k a.2 (nat_lt y a.0) (y == a.0) e a.1 later, other_earlier k a.2 (nat_lt y a.0) (y == a.0) e a.1 later)),
  )
