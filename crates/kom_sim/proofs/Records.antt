-- How the line follows the record.
use Rattle.std.proofs.Common.{◌≡◌, ℕ, suc, ◌+◌, ◌<◌, ◌≤◌, Bool, true, false, cond, not, ◌&&◌, ◌==◌, refl, sym, ap, ◌∙◌, List, [], ◌∷◌, length, filter, Option, Some, inl, inr, arith}
use Rattle.std.specs.Prelude.{map, is_none, nat_le}
use Rattle.std.specs.List.{enumerate_from, count_by}
use Rattle.std.specs.Option.{option_map}
use Rattle.std.proofs.lemmas.Bool.{and_parts, and_from, or_cases, or_parts, or_right, or_left, both_ways, cases_Bool, not_from_false, not-true, eqb-true, eq-eqb, lt-ltb, leb-false}
use Rattle.kom_base.specs.Lists.{first, holds_number}
use Rattle.kom_lang.specs.Declarations.{Declarations}
use Rattle.kom_record.specs.Model.{model}
use Rattle.kom_record.specs.declared.plan.Plan.{Plan}
use Rattle.kom_record.specs.declared.item.Item.{Item}
use Rattle.kom_record.specs.declared.entry.Entry.{Entry}
use Rattle.kom_record.specs.declared.entry.Entry.TheVariants.{Took, Did, Moved}
use Rattle.kom_record.specs.declared.entry.Outcome.{Outcome}
use Rattle.kom_record.specs.declared.entry.Release.{Release}
use Rattle.kom_record.specs.Entries.{History, acts, in_hand}
use Rattle.kom_record.specs.Instances.{born}
use Rattle.kom_record.specs.Time.{pending}
use Rattle.kom_record.specs.Ready.{runnable, ready, ready_list, instance_numbers, is_took, is_moved, is_closed, is_idle, is_finished, has_unhandled}
use Rattle.kom_record.specs.Legal.{MayTake}
use Rattle.kom_record.specs.Answers.{wakes}
use Rattle.kom_record.specs.Simulated.{ready_since, longest_ready}
use Rattle.kom_laws.proofs.InstanceLaws.{alive_born}
use Rattle.kom_laws.proofs.Woken.{wakes_took}
use Rattle.kom_sim.specs.Line.{all_at_end}
use Rattle.kom_sim.specs.Order.{IsLineOf}
use Rattle.kom_sim.specs.Simulations.{left}
use Rattle.kom_sim.proofs.Lines.{holds_filter}
use Rattle.kom_sim.proofs.Counts.{count_cons}
use Rattle.kom_sim.proofs.Orders.{Rising, rising_filter, behind_first, first_is_least, line_goes_on}

-- ---- the numbers of a list's places

held_numbers : {X : Type 0} (n : ℕ) (xs : List X) (d : ℕ) → n ≤ d → d < n + length xs → holds_number (map (λ q. q.0) (enumerate_from n xs)) d ≡ true
held_numbers n [] d l h = absurd (omega (arith, l, h))
held_numbers n (x ∷ xs) d l h = elim (cases_Bool (n == d)) [
  | inl e ↦ or_left (n == d) (holds_number (map (λ q. q.0) (enumerate_from (n + 1) xs)) d) e
  | inr e ↦ or_right (n == d) (holds_number (map (λ q. q.0) (enumerate_from (n + 1) xs)) d) (held_numbers (n + 1) xs d (let k : (n ≡ d → ⊥) = λ f. both_ways (n == d) e (eq-eqb n d f) in grind (arith, l, k)) (omega (arith, h)))
]

least_number : {X : Type 0} (n : ℕ) (xs : List X) (d : ℕ) → holds_number (map (λ q. q.0) (enumerate_from n xs)) d ≡ true → n ≤ d
least_number n [] d k = absurd cc
least_number n (x ∷ xs) d k = elim (or_cases (n == d) (holds_number (map (λ q. q.0) (enumerate_from (n + 1) xs)) d) k) [
  | inl e ↦ omega (arith, eqb-true n d e)
  | inr e ↦ omega (arith, least_number (n + 1) xs d e)
]

rising_numbers : {X : Type 0} (n : ℕ) (xs : List X) → Rising (map (λ q. q.0) (enumerate_from n xs))
rising_numbers n [] = tt
rising_numbers n (x ∷ xs) = (rising_numbers (n + 1) xs, λ d k. lt-ltb n d (omega (arith, least_number (n + 1) xs d k)))

same_filter : (f g : ℕ → Bool) (xs : List ℕ) → ((x : ℕ) → f x ≡ g x) → filter f xs ≡ filter g xs
same_filter f g [] h = refl
same_filter f g (x ∷ xs) h = ap (λ b. cond b (x ∷ filter f xs) (filter f xs)) (h x) ∙ ap (λ l. cond (g x) (x ∷ l) l) (same_filter f g xs h)

and_true : (b : Bool) → (b && true) ≡ b
and_true true = refl
and_true false = refl

none_at : {X : Type 0} (xs : List X) → xs ≡ [] → is_none (first xs) ≡ true
none_at xs e = ap (λ l. is_none (first l)) e

module _ (S : Declarations) (Z : Plan) where
  -- ---- since when a component is ready

  since_at : (P : History) (c n : ℕ) (b : Bool) → n ≤ length P → cond b n (suc (length P)) ≤ suc (length P)
  since_at P c n true l = omega (arith, l)
  since_at P c n false l = omega arith

  since_bound : (P : History) (c : ℕ) → ready_since S Z P c ≤ length P
  unfolding model
  since_bound [] c = omega arith
  since_bound (e ∷ P) c = since_at P c (ready_since S Z P c) (ready S Z P c) (since_bound P c)

  still_since : (P : History) (e : Entry) (c : ℕ) → ready S Z P c ≡ true → ready_since S Z (e ∷ P) c ≡ ready_since S Z P c
  unfolding model
  still_since P e c h = ap (λ b. cond b (ready_since S Z P c) (suc (length P))) h

  since_now : (P : History) (e : Entry) (c : ℕ) → ready S Z P c ≡ false → ready_since S Z (e ∷ P) c ≡ suc (length P)
  unfolding model
  since_now P e c h = ap (λ b. cond b (ready_since S Z P c) (suc (length P))) h

  -- ---- who became ready

  ready_number : (P : History) (c : ℕ) → ready S Z P c ≡ true → holds_number (instance_numbers S P) c ≡ true
  unfolding model
  ready_number P c h =
      let a = (and_parts _ _ (and_parts _ _ (and_parts (runnable S P c) (not (is_closed S Z P)) h).0).0).0 in
      held_numbers 0 (born S (acts P)) c (omega arith) (omega (arith, alive_born S (acts P) c a))

  pub in_ready_list : (P : History) (c : ℕ) → ready S Z P c ≡ true → holds_number (ready_list S Z P) c ≡ true
  unfolding model
  in_ready_list P c h = holds_filter (ready S Z P) (instance_numbers S P) c ∙ and_from (ready S Z P c) _ h (ready_number P c h)

  woken : (P Q : History) (d : ℕ) → ready S Z Q d ≡ true → ready S Z P d ≡ false → holds_number (wakes S Z P Q) d ≡ true
  unfolding wakes
  woken P Q d h k = holds_filter (λ c. not (ready S Z P c)) (ready_list S Z Q) d ∙ and_from (not (ready S Z P d)) _ (not_from_false _ k) (in_ready_list Q d h)

  was_idle : (P Q : History) (d : ℕ) → holds_number (wakes S Z P Q) d ≡ true → ready S Z P d ≡ false
  unfolding wakes
  was_idle P Q d h = not-true _ (and_parts _ _ (sym (holds_filter (λ c. not (ready S Z P c)) (ready_list S Z Q) d) ∙ h)).0

  list_rises : (P : History) → Rising (ready_list S Z P)
  unfolding model
  list_rises P = rising_filter (ready S Z P) (instance_numbers S P) (rising_numbers 0 (born S (acts P)))

  wakes_rise : (P Q : History) → Rising (wakes S Z P Q)
  unfolding wakes
  wakes_rise P Q = rising_filter (λ c. not (ready S Z P c)) (ready_list S Z Q) (list_rises Q)

  was_ready : (P Q : History) (d : ℕ) → ready S Z Q d ≡ true → holds_number (wakes S Z P Q) d ≡ false → ready S Z P d ≡ true
  was_ready P Q d h k = elim (cases_Bool (ready S Z P d)) [
    | inl e ↦ e
    | inr e ↦ absurd (both_ways _ k (woken P Q d h e))
  ]

  -- ---- the line

  pub at_begin : IsLineOf S Z [] (all_at_end [] (ready_list S Z []))
  unfolding model
  at_begin = line_goes_on (λ d. false) (ready S Z []) (λ d. 0) (ready_since S Z []) 0 [] (ready_list S Z [])
      (record { all = λ c k. absurd cc; in_order = tt })
      (list_rises [])
      (λ d h k. absurd (both_ways _ k (in_ready_list [] d h)))
      (λ d h. refl)
      (λ d h k. absurd cc)

  pub after_move : (P : History) (e : Entry) → ready_list S Z P ≡ [] → IsLineOf S Z (e ∷ P) (all_at_end [] (wakes S Z P (e ∷ P)))
  after_move P e h = line_goes_on (ready S Z P) (ready S Z (e ∷ P)) (ready_since S Z P) (ready_since S Z (e ∷ P)) (suc (length P)) [] (wakes S Z P (e ∷ P))
      (record { all = λ c k. absurd (none_ready c k); in_order = tt })
      (wakes_rise P (e ∷ P))
      (λ d a k. absurd (none_ready d (was_ready P (e ∷ P) d a k)))
      (λ d a. since_now P e d (was_idle P (e ∷ P) d a))
      (λ d a k. absurd cc)
    where
      none_ready : (c : ℕ) → ready S Z P c ≡ true → ⊥
      none_ready c k = let a : false ≡ true = sym (ap (λ l. holds_number l c) h) ∙ in_ready_list P c k in cc

  not_busy : (P : History) (w c : ℕ) (item : Item) (d : ℕ) → ready S Z (Took w c item ∷ P) d ≡ true → not (c == d) ≡ true
  unfolding model
  not_busy P w c item d h =
      let a = (and_parts _ _ (and_parts _ _ (and_parts (runnable S (Took w c item ∷ P) d) (not (is_closed S Z (Took w c item ∷ P))) h).0).0).1 in
      not_from_false (c == d) (or_parts (c == d) _ (not-true _ a)).0

  pub after_handling : (P : History) (c : ℕ) (item : Item) (e : Entry) (cs : List ℕ) → MayTake S Z P 0 c item → IsLineOf S Z P (c ∷ cs)
      → IsLineOf S Z (e ∷ Took 0 c item ∷ P) (all_at_end cs (wakes S Z (Took 0 c item ∷ P) (e ∷ Took 0 c item ∷ P)))
  after_handling P c item e cs may line =
      line_goes_on (λ d. ready S Z P d && not (c == d)) (ready S Z (e ∷ Took 0 c item ∷ P)) (ready_since S Z P) (ready_since S Z (e ∷ Took 0 c item ∷ P))
      (suc (length (Took 0 c item ∷ P))) cs (wakes S Z (Took 0 c item ∷ P) (e ∷ Took 0 c item ∷ P))
      (behind_first (ready S Z P) (ready_since S Z P) c cs line)
      (wakes_rise (Took 0 c item ∷ P) (e ∷ Took 0 c item ∷ P))
      (λ d h k.
      let a = was_ready (Took 0 c item ∷ P) (e ∷ Took 0 c item ∷ P) d h k in
      let b = wakes_took S Z P 0 c item d may a in
      (and_from (ready S Z P d) (not (c == d)) b (not_busy P 0 c item d a), still_since (Took 0 c item ∷ P) e d a ∙ still_since P (Took 0 c item) d b))
      (λ d h. since_now (Took 0 c item ∷ P) e d (was_idle (Took 0 c item ∷ P) (e ∷ Took 0 c item ∷ P) d h))
      (λ d h k. omega (arith, since_bound P d))

  pub first_is_longest : (P : History) (c : ℕ) (cs : List ℕ) → IsLineOf S Z P (c ∷ cs) → ready S Z P c ≡ true → longest_ready S Z P ≡ Some c
  unfolding model
  first_is_longest P c cs line h = ap (option_map (λ q. q.1)) (first_is_least (ready S Z P) (ready_since S Z P) c cs (instance_numbers S P) line h (ready_number P c h))

  pub none_is_ready : (P : History) → IsLineOf S Z P [] → ready_list S Z P ≡ []
  unfolding model
  none_is_ready P line = none_passes (ready S Z P) (instance_numbers S P) (λ c. elim (cases_Bool (ready S Z P c)) [
    | inl e ↦ absurd (let a : false ≡ true = line.all c e in cc)
    | inr e ↦ e
  ])
    where
      none_passes : (f : ℕ → Bool) (xs : List ℕ) → ((x : ℕ) → f x ≡ false) → filter f xs ≡ []
      none_passes f [] h = refl
      none_passes f (x ∷ xs) h = ap (λ b. cond b (x ∷ filter f xs) (filter f xs)) (h x) ∙ none_passes f xs h

  -- ---- the end

  pub ready_not_closed : (P : History) (c : ℕ) → ready S Z P c ≡ true → is_closed S Z P ≡ false
  unfolding ready
  ready_not_closed P c h = not-true _ (and_parts (runnable S P c) (not (is_closed S Z P)) h).1

  pub steps_are_left : (P : History) → is_closed S Z P ≡ false → count_by is_took P < Z.steps
  unfolding is_closed
  steps_are_left P h = leb-false Z.steps (count_by is_took P) (or_parts (has_unhandled S P) _ (or_parts _ _ h).0).1

  pub instants_are_left : (P : History) → is_closed S Z P ≡ false → count_by is_moved P < Z.instants
  unfolding is_closed
  instants_are_left P h = leb-false Z.instants (count_by is_moved P) (or_parts _ (nat_le Z.instants (count_by is_moved P)) h).1

  pub closed_is_finished : (P : History) → in_hand P ≡ [] → is_closed S Z P ≡ true → is_finished S Z P ≡ true
  unfolding is_finished
  closed_is_finished P a b = and_from _ _ (none_at (in_hand P) a) (or_left (is_closed S Z P) (is_idle S Z P) b)

  pub ended_is_finished : (P : History) → in_hand P ≡ [] → is_closed S Z P ≡ false → ready_list S Z P ≡ [] → pending S Z P ≡ [] → is_finished S Z P ≡ true
  unfolding model
  ended_is_finished P a b r p =
      let all_idle : filter (runnable S P) (instance_numbers S P) ≡ [] = same_filter (runnable S P) (ready S Z P) (instance_numbers S P) (λ c. sym (ap (λ v. runnable S P c && not v) b ∙ and_true (runnable S P c))) ∙ r in
      and_from _ _ (none_at (in_hand P) a) (or_right (is_closed S Z P) (is_idle S Z P) (and_from _ _ (none_at (filter (runnable S P) (instance_numbers S P)) all_idle) (none_at (pending S Z P) p)))

-- ---- what is left to do

pub left_took : (Z : Plan) (P : History) (w c : ℕ) (item : Item) → count_by is_took P < Z.steps → left Z (Took w c item ∷ P) < left Z P
left_took Z P w c item h = omega (arith, h, count_cons is_took (Took w c item) P, count_cons is_moved (Took w c item) P)

pub left_did : (Z : Plan) (P : History) (w c took : ℕ) (o : Outcome) (to : Option ℕ) (places : List ℕ) → left Z (Did w c took o to places ∷ P) ≡ left Z P
left_did Z P w c took o to places = omega (arith, count_cons is_took (Did w c took o to places) P, count_cons is_moved (Did w c took o to places) P)

pub left_moved : (Z : Plan) (P : History) (w t : ℕ) (released : List Release) → count_by is_moved P < Z.instants → left Z (Moved w t released ∷ P) < left Z P
left_moved Z P w t released h = omega (arith, h, count_cons is_took (Moved w t released) P, count_cons is_moved (Moved w t released) P)
