-- What waits in the channels of components.
use Rattle.std.proofs.Common.{◌≡◌, ℕ, zero, suc, ◌+◌, ◌-◌, ◌<◌, ◌≤◌, Bool, true, false, if◌then◌else◌, ◌&&◌, ◌||◌, ◌==◌, refl, sym, ap, ◌∙◌, List, [], ◌∷◌, length, Option, Some, None, ◌⊎◌, inl, inr, arith}
use Rattle.std.specs.Prelude.{is_some, nat_lt, slice_get}
use Rattle.std.specs.Option.{option_map, option_map_or}
use Rattle.std.proofs.lemmas.Bool.{eqb-true, eq-eqb, lt-ltb}
use Rattle.std.proofs.lemmas.List.Sums.{sum_by_more_le}
use Rattle.kom_base.specs.declared.numbers.Dir.{Dir}
use Rattle.kom_base.specs.declared.numbers.Dir.TheVariants.{Plus, Minus}
use Rattle.kom_base.specs.Numbers.{same_dir}
use Rattle.kom_record.specs.Channels.{Environment, Own}
use Rattle.kom_numbers.specs.Numbering.{Numbering, count_of, first_of, is_of, is_pair, is_wire, leads_out, total, wire_among, wire_at}
use Rattle.kom_numbers.proofs.Ownership.{names_one, owns}
use Rattle.kom_refine.specs.Points.{receiver_of}
use Rattle.kom_refine.specs.States.{Queue, State}
use Rattle.kom_refine.specs.Steps.{is_below}
use Rattle.kom_state.specs.Facts.{HoldsTogether, is_of_living}
use Rattle.kom_state.specs.Parts.{Parts, state_of}
use Rattle.kom_state.specs.Removals.{dies_with}
use Rattle.kom_wakes.specs.Laws.{queue_length}
use Rattle.kom_changes.specs.Below.{lives_below, lives_in, lives_in_first}
use Rattle.kom_changes.proofs.Below.{all_slots, below_is_in, below_none, first_slots, no_slots, same_first, slots_apart}
use Rattle.kom_queued.specs.Counting.{waiting_at, waiting_below}
use Rattle.kom_losses.specs.Owned.{owned, waiting_of}
use Rattle.kom_losses.proofs.Waiting.{in_most, in_none, in_same, in_span, in_sum, within}

-- ---- the numbers of the channels of one component

pub fits : (n : Numbering) (d : ℕ) → d < length n.counts → first_of n d + count_of n d ≤ total n
fits n d h = let a = sum_by_more_le (λ x. x) n.counts d 0 h in omega (arith, a)

-- the number of its channel k
pub number_is : (n : Numbering) (d k x : ℕ) → k < count_of n d → ((y : ℕ) → is_wire n d k y ≡ (y == x)) → x ≡ first_of n d + k
number_is n d k x h e = eqb-true x (first_of n d + k) (sym (names_one n d k x h) ∙ e x ∙ eq-eqb x x refl)

module _ (v : Parts) (h : HoldsTogether v) where
  abbrev m : State
  m = state_of v

  pub own_all : (d : ℕ) → d < length v.numbers.counts → waiting_of v (is_of v.numbers d) + waiting_below m (first_of v.numbers d) ≡ waiting_below m (first_of v.numbers d + count_of v.numbers d)
  own_all d made =
      let a = in_same m (is_of v.numbers d) (within (first_of v.numbers d) (count_of v.numbers d)) (total v.numbers) (λ x. inl (owns v.numbers d x made)) in
      let b = in_span m (first_of v.numbers d) (count_of v.numbers d) (total v.numbers) (fits v.numbers d made) in
      omega (arith, a, b)

  -- ---- who has queues

  not_out : (x : ℕ) (q : ℕ × ℕ) → wire_at v.numbers x ≡ Some q → nat_lt x (length v.numbers.outs) ≡ false
  not_out x q e = go (nat_lt x (length v.numbers.outs)) refl
    where
      go : (b : Bool) → nat_lt x (length v.numbers.outs) ≡ b → nat_lt x (length v.numbers.outs) ≡ false
      go true t = absurd (let f = sym (ap (λ b. if b then None else wire_among 0 v.numbers.counts (x - length v.numbers.outs)) t) ∙ e in cc)
      go false t = t

  linked : (x : ℕ) (q : ℕ × ℕ) → wire_at v.numbers x ≡ Some q → is_some (m.links x) ≡ m.living q.0
  linked x q e =
      h.links_living x
      ∙ ap (λ b. option_map_or (is_of_living m) (if b then Some (Environment x) else option_map (λ q. Own q.0 q.1) (wire_at v.numbers x)) false) (not_out x q e)
      ∙ ap (λ w. option_map_or (is_of_living m) (option_map (λ q. Own q.0 q.1) w) false) e

  beyond : {X : Type 0} (xs : List X) (i : ℕ) → length xs ≤ i → slice_get xs i ≡ None
  beyond [] i l = refl
  beyond (x ∷ xs) zero l = absurd (omega (arith, l))
  beyond (x ∷ xs) (suc i) l = beyond xs i (omega (arith, l))

  inward : (x : ℕ) (q : ℕ × ℕ) (d : Dir) → wire_at v.numbers x ≡ Some q → leads_out v.numbers x d ≡ false
  inward x q d e = ap (λ o. option_map_or (λ f. same_dir f d) o false) (beyond v.numbers.outs x (after (nat_lt x (length v.numbers.outs)) refl (not_out x q e)))
    where
      after : (b : Bool) → nat_lt x (length v.numbers.outs) ≡ b → nat_lt x (length v.numbers.outs) ≡ false → length v.numbers.outs ≤ x
      after b t f = elim (below_or x (length v.numbers.outs)) [
        | inl l ↦ absurd (let g = lt-ltb x (length v.numbers.outs) l in cc (f, g))
        | inr l ↦ l
      ]
        where
          below_or : (a b : ℕ) → (a < b) ⊎ (b ≤ a)
          below_or a zero = inr (omega arith)
          below_or zero (suc b) = inl (omega arith)
          below_or (suc a) (suc b) = elim (below_or a b) [
            | inl l ↦ inl (omega (arith, l))
            | inr l ↦ inr (omega (arith, l))
          ]

  some_map : {X Y : Type 0} (f : X → Y) (o : Option X) → is_some (option_map f o) ≡ is_some o
  some_map f None = refl
  some_map f (Some x) = refl

  queued_where_linked : (x : ℕ) (q : ℕ × ℕ) (d : Dir) → wire_at v.numbers x ≡ Some q → is_some (m.queues x d) ≡ m.living q.0
  queued_where_linked x q d e =
      sym (some_map (λ (k : Queue). k.receiver) (m.queues x d))
      ∙ ap is_some (h.receivers x d ∙ ap (λ b. if b then None else option_map (receiver_of d) (m.links x)) (inward x q d e))
      ∙ some_map (receiver_of d) (m.links x) ∙ linked x q e

  pub queue_there : (d k x : ℕ) (e : Dir) → m.living d ≡ true → is_wire v.numbers d k x ≡ true → is_some (m.queues x e) ≡ true
  queue_there d k x e l t = go (wire_at v.numbers x) refl
    where
      go : (w : Option (ℕ × ℕ)) → wire_at v.numbers x ≡ w → is_some (m.queues x e) ≡ true
      go None s = absurd (let f = sym (ap (λ w. option_map_or (is_pair d k) w false) s) ∙ t in cc)
      go (Some q) s =
          let f : (d == q.0 && k == q.1) ≡ true = sym (ap (λ w. option_map_or (is_pair d k) w false) s) ∙ t in
          queued_where_linked x q e s ∙ ap m.living (sym (eqb-true d q.0 (both_left (d == q.0) (k == q.1) f))) ∙ l
        where
          both_left : (a b : Bool) → (a && b) ≡ true → a ≡ true
          both_left true b z = refl
          both_left false b z = z

  no_queue : (o : Option Queue) → is_some o ≡ false → queue_length o ≡ 0
  no_queue None e = refl
  no_queue (Some q) e = absurd cc

  -- nothing waits in the channels of the dead
  none_of_dead : (x : ℕ) (q : ℕ × ℕ) → wire_at v.numbers x ≡ Some q → m.living q.0 ≡ false → waiting_at m x ≡ 0
  none_of_dead x q e dead =
      let a = no_queue (m.queues x Plus) (queued_where_linked x q Plus e ∙ dead) in
      let b = no_queue (m.queues x Minus) (queued_where_linked x q Minus e ∙ dead) in
      omega (arith, a, b)

  -- ---- in a tree

  owned_same : (f g : ℕ → Bool) → ((e : ℕ) → f e ≡ g e) → (x : ℕ) → owned v f x ≡ owned v g x
  owned_same f g e x = go (wire_at v.numbers x)
    where
      go : (w : Option (ℕ × ℕ)) → option_map_or (λ q. f q.0) w false ≡ option_map_or (λ q. g q.0) w false
      go None = refl
      go (Some q) = e q.0

  of_same : (f g : ℕ → Bool) → ((e : ℕ) → f e ≡ g e) → waiting_of v (owned v f) ≡ waiting_of v (owned v g)
  of_same f g e = in_same m (owned v f) (owned v g) (total v.numbers) (λ x. inl (owned_same f g e x))

  pub first_own : (d : ℕ) → waiting_of v (is_of v.numbers d) ≡ waiting_of v (owned v (lives_in_first m d 0))
  first_own d = of_same (λ e. d == e) (lives_in_first m d 0) (λ e. sym (no_slots v h d e))

  pub skip : (d s k : ℕ) → m.child d s ≡ None → k ≡ waiting_of v (owned v (lives_in_first m d s)) → k ≡ waiting_of v (owned v (lives_in_first m d (s + 1)))
  skip d s k c e = e ∙ of_same (lives_in_first m d s) (lives_in_first m d (s + 1)) (λ x. sym (same_first v h d s c x))

  pub more : (d s q : ℕ) → m.child d s ≡ Some q → waiting_of v (owned v (lives_in_first m d (s + 1))) ≡ waiting_of v (owned v (lives_in_first m d s)) + waiting_of v (owned v (lives_in m q))
  more d s q c =
      in_sum m (owned v (lives_in_first m d s)) (owned v (lives_below m d s)) (owned v (lives_in_first m d (s + 1))) (total v.numbers)
      (λ x. either (wire_at v.numbers x)) (λ x. apart (wire_at v.numbers x))
      ∙ ap (λ n. waiting_of v (owned v (lives_in_first m d s)) + n) (of_same (lives_below m d s) (lives_in m q) (λ e. below_is_in v h d s q e c))
    where
      either : (w : Option (ℕ × ℕ)) → option_map_or (λ q. lives_in_first m d (s + 1) q.0) w false ≡ (option_map_or (λ q. lives_in_first m d s q.0) w false || option_map_or (λ q. lives_below m d s q.0) w false)
      either None = refl
      either (Some q) = first_slots v h d s q.0

      apart : (w : Option (ℕ × ℕ)) → option_map_or (λ q. lives_in_first m d s q.0) w false ≡ true → option_map_or (λ q. lives_below m d s q.0) w false ≡ true → ⊥
      apart None a b = cc
      apart (Some q) a b = slots_apart v h d s q.0 a b

  pub all : (d s k : ℕ) → m.living d ≡ true → ((t q : ℕ) → m.child d t ≡ Some q → t < s) → k ≡ waiting_of v (owned v (lives_in_first m d s)) → k ≡ waiting_of v (owned v (lives_in m d))
  all d s k a within e = e ∙ of_same (lives_in_first m d s) (lives_in m d) (λ x. all_slots v h d s x a within)

  pub most : (f : ℕ → Bool) → waiting_of v f ≤ waiting_below m (total v.numbers)
  most f = in_most m f (total v.numbers)

  -- ---- what ends with a slot

  -- the dead below it have nothing
  dying : (c slot x : ℕ) → (dies_with v c slot x ≡ owned v (lives_below m c slot) x) ⊎ (waiting_at m x ≡ 0)
  dying c slot x = go (wire_at v.numbers x) refl
    where
      go : (w : Option (ℕ × ℕ)) → wire_at v.numbers x ≡ w → (dies_with v c slot x ≡ owned v (lives_below m c slot) x) ⊎ (waiting_at m x ≡ 0)
      go None e = inl (ap (λ w. option_map_or (λ q. is_below m c slot q.0) w false) e ∙ sym (ap (λ w. option_map_or (λ q. lives_below m c slot q.0) w false) e))
      go (Some q) e = at (m.living q.0) refl
        where
          at : (b : Bool) → m.living q.0 ≡ b → (dies_with v c slot x ≡ owned v (lives_below m c slot) x) ⊎ (waiting_at m x ≡ 0)
          at true l = inl (
              ap (λ w. option_map_or (λ q. is_below m c slot q.0) w false) e ∙ sym (ap (λ b. b && is_below m c slot q.0) l) ∙ sym (ap (λ w. option_map_or (λ q. lives_below m c slot q.0) w false) e))
          at false l = inr (none_of_dead x q e l)

  pub under_some : (c slot q : ℕ) → m.child c slot ≡ Some q → waiting_of v (owned v (lives_in m q)) ≡ waiting_of v (dies_with v c slot)
  under_some c slot q e =
      sym (in_same m (dies_with v c slot) (owned v (lives_below m c slot)) (total v.numbers) (dying c slot)
      ∙ of_same (lives_below m c slot) (lives_in m q) (λ x. below_is_in v h c slot q x e))

  pub under_none : (c slot : ℕ) → m.child c slot ≡ None → 0 ≡ waiting_of v (dies_with v c slot)
  under_none c slot e =
      sym (in_same m (dies_with v c slot) (owned v (lives_below m c slot)) (total v.numbers) (dying c slot)
      ∙ in_none m (owned v (lives_below m c slot)) (total v.numbers) (λ x. nobody (wire_at v.numbers x)))
    where
      nobody : (w : Option (ℕ × ℕ)) → option_map_or (λ q. lives_below m c slot q.0) w false ≡ false
      nobody None = refl
      nobody (Some q) = below_none v h c slot q.0 e
