-- The parts of an environment that stands for a record, and what one event more makes of them.
use Rattle.std.proofs.Common.{◌≡◌, ℕ, zero, suc, ◌+◌, ◌-◌, ◌%◌, Bool, true, false, cond, not, ◌&&◌, ◌||◌, refl, sym, ap, ◌∙◌, subst, List, [], ◌∷◌, ◌++◌, length, map, filter, Option, Some, None, if◌then◌else◌, ◌⊎◌, inl, inr, arith}
use Rattle.std.specs.Prelude.{slice_get, ◌==◌, nat_lt, unwrap_or}
use Rattle.std.specs.List.{count_by}
use Rattle.std.specs.Option.{option_map, option_map_or}
use Rattle.std.proofs.lemmas.Bool.{eqb-true, ne_eqb, le-ltb, ltb-true}
use Rattle.std.proofs.lemmas.List.{append-nil}
use Rattle.std.proofs.lemmas.List.Elements.{filter-append}
use Rattle.std.proofs.lemmas.List.Folds.{list_any-append}
use Rattle.std.proofs.lemmas.List.Sums.{sum_by-append, sum_by-cons}
use Rattle.std.proofs.lemmas.Option.{slice_get-map}
use Rattle.rand_pcg.specs.Lcg.{Lcg, started, increment_of}
use Rattle.rand_pcg.specs.Pcg.{multiplier_64, pcg32}
use Rattle.kom_base.specs.Numbers.{same_int, is_earlier}
use Rattle.kom_base.specs.Lists.{find_map, if_so}
use Rattle.kom_lang.specs.Declarations.{Declarations, kind_of}
use Rattle.kom_lang.specs.declared.kind.PortDecl.{PortDecl}
use Rattle.kom_record.specs.Model.{model}
use Rattle.kom_record.specs.declared.plan.Plan.{Plan}
use Rattle.kom_record.specs.declared.item.Control.TheVariants.{Start}
use Rattle.kom_record.specs.declared.item.Item.TheVariants.{Control}
use Rattle.kom_record.specs.declared.entry.Entry.TheVariants.{Took}
use Rattle.kom_record.specs.Entries.{History}
use Rattle.kom_record.specs.Time.{Outgoing, Scheduled, clock, first_value, is_timer, is_network, is_message, is_set_timer, is_cancel_timer, is_cancelled, is_still_due, message, nth_word, same_timer, scheduled, time_of, timer, went_by}
use Rattle.kom_env.specs.declared.service.Service.{Service}
use Rattle.kom_env.specs.declared.service.Service.TheVariants.{Timer, Network, Nothing}
use Rattle.kom_env.specs.Outside.{Outside, absorbed, clock_of, is_named, message_of, serve, service_at, service_of, timer_of}
use Rattle.kom_laws.proofs.Members.{IsIn, here, there}
use Rattle.kom_laws.proofs.Unaffected.{and_both, or_either}
use Rattle.kom_laws.proofs.TimeLaws.{scheduled_more, scheduled_all, new_still}

-- ---- the generator

-- the generator after so many words
abbrev pub generator_after : ℕ → Lcg → Lcg
generator_after zero g = g
generator_after (suc k) g = generator_after k (pcg32 g).1

word_of : (k : ℕ) (g : Lcg) → nth_word k g ≡ (pcg32 (generator_after k g)).0
unfolding model
word_of zero g = refl
word_of (suc k) g = word_of k (pcg32 g).1

after_more : (k : ℕ) (g : Lcg) → generator_after (k + 1) g ≡ (pcg32 (generator_after k g)).1
after_more zero g = refl
after_more (suc k) g = ap (λ n. generator_after n g) (let e : suc k + 1 ≡ suc (k + 1) = omega arith in e) ∙ after_more k (pcg32 g).1

-- ---- filters

both_filters : {X : Type 0} (f g : X → Bool) (x : X) (xs : List X) (a b : Bool) → f x ≡ a → g x ≡ b → filter f (filter g xs) ≡ filter g (filter f xs) → filter f (cond b (x ∷ filter g xs) (filter g xs)) ≡ filter g (cond a (x ∷ filter f xs) (filter f xs))
both_filters f g x xs true true p q e = ap (λ t. cond t (x ∷ filter f (filter g xs)) (filter f (filter g xs))) p ∙ ap (λ r. x ∷ r) e ∙ sym (ap (λ t. cond t (x ∷ filter g (filter f xs)) (filter g (filter f xs))) q)
both_filters f g x xs true false p q e = e ∙ sym (ap (λ t. cond t (x ∷ filter g (filter f xs)) (filter g (filter f xs))) q)
both_filters f g x xs false true p q e = ap (λ t. cond t (x ∷ filter f (filter g xs)) (filter f (filter g xs))) p ∙ e
both_filters f g x xs false false p q e = e

pub filters_swap : {X : Type 0} (f g : X → Bool) (xs : List X) → filter f (filter g xs) ≡ filter g (filter f xs)
filters_swap f g [] = refl
filters_swap f g (x ∷ xs) = both_filters f g x xs (f x) (g x) refl refl (filters_swap f g xs)

-- ---- services

abbrev IsWay : Service → (t n : Bool) → Type 0
IsWay s t n = ((s ≡ Timer) × (t ≡ true) × (n ≡ false)) ⊎ (((s ≡ Network) × (t ≡ false) × (n ≡ true)) ⊎ ((s ≡ Nothing) × (t ≡ false) × (n ≡ false)))

port_way_at : (p : PortDecl) (a b : Bool) → is_timer p ≡ a → is_network p ≡ b → IsWay (if a then Timer else if b then Network else Nothing) a b
port_way_at p true true e f = absurd (go (not p.provided) e f)
  where
    go : (x : Bool) → (x && p.port == 0) ≡ true → (x && p.port == 1) ≡ true → ⊥
    go true s t = let a = eqb-true p.port 0 s in let b = eqb-true p.port 1 t in omega (arith, a, b)
    go false s t = absurd cc
port_way_at p true false e f = inl (refl, refl, refl)
port_way_at p false true e f = inr (inl (refl, refl, refl))
port_way_at p false false e f = inr (inr (refl, refl, refl))

way_by : (o : Option PortDecl) → IsWay (unwrap_or (option_map service_of o) Nothing) (option_map_or is_timer o false) (option_map_or is_network o false)
way_by None = inr (inr (refl, refl, refl))
way_by (Some p) = port_way_at p (is_timer p) (is_network p) refl refl

true_not_false : (b : Bool) → b ≡ true → b ≡ false → ⊥
true_not_false b e f = let g : true ≡ false = sym e ∙ f in cc

module _ (S : Declarations) (Z : Plan) where
  way_of : (v : Outside) (o : Outgoing) → v.services ≡ map service_of (kind_of S S.root.kind).ports → IsWay (service_at v o.chan) (went_by S is_timer o) (went_by S is_network o)
  way_of v o e =
      subst (λ s. IsWay (unwrap_or s Nothing) (went_by S is_timer o) (went_by S is_network o))
      (sym (ap (λ ss. slice_get ss o.chan) e ∙ slice_get-map service_of (kind_of S S.root.kind).ports o.chan)) (way_by (slice_get (kind_of S S.root.kind).ports o.chan))

  -- two events of one channel have one service
  same_way : (f : PortDecl → Bool) (p o : Outgoing) → (p.chan == o.chan) ≡ true → went_by S f p ≡ went_by S f o
  same_way f p o e = ap (λ c. option_map_or f (slice_get (kind_of S S.root.kind).ports c) false) (eqb-true p.chan o.chan e)

  timer_or_network : (o : Outgoing) → went_by S is_timer o ≡ true → went_by S is_network o ≡ true → ⊥
  timer_or_network o t n = elim (way_by (slice_get (kind_of S S.root.kind).ports o.chan)) [
    | inl a ↦ true_not_false _ n a.2
    | inr b ↦ elim b [ inl c ↦ true_not_false _ t c.1 | inr c ↦ true_not_false _ t c.1 ]
  ]

  -- ---- what an environment that stands for a record has

  abbrev pub first_generator : Lcg
  first_generator = started 64 multiplier_64 Z.seed (increment_of 64 2)

  -- the parts, when `all` went out by the record P and by its next entry so far
  pub record Stands (P : History) (all : List Outgoing) (v : Outside) : Type 0 where
    pub services : v.services ≡ map service_of (kind_of S S.root.kind).ports
    pub plan : v.plan ≡ Z
    pub last : v.last ≡ find_map time_of P
    pub waits : v.waits ≡ filter (is_still_due S P) (scheduled S Z all 0 all)
    pub generator : v.generator ≡ generator_after (count_by (is_message S) all) first_generator

  -- o goes out after all of these
  pub record GoesAfter (P : History) (all : List Outgoing) (o : Outgoing) : Type 0 where
    pub position : o.no.position ≡ length P
    pub at : o.at ≡ clock P
    pub after : (p : Outgoing) → IsIn p all → is_earlier p.no o.no ≡ true

  -- ---- cancels

  and_false : (b : Bool) → (b && false) ≡ false
  and_false true = refl
  and_false false = refl

  not_itself : (o : Outgoing) → is_earlier o.no o.no ≡ false
  not_itself o =
      ap (λ b. b || (o.no.position == o.no.position && nat_lt o.no.place o.no.place)) (le-ltb o.no.position o.no.position (omega arith))
      ∙ ap (λ b. o.no.position == o.no.position && b) (le-ltb o.no.place o.no.place (omega arith))
      ∙ and_false (o.no.position == o.no.position)

  not_earlier_at : (p o : Outgoing) → (nat_lt p.no.position o.no.position ≡ true) ⊎ ((p.no.position == o.no.position && nat_lt p.no.place o.no.place) ≡ true) → is_earlier o.no p.no ≡ false
  not_earlier_at p o (inl h) =
      let l = ltb-true p.no.position o.no.position h in
      ap (λ b. b || (o.no.position == p.no.position && nat_lt o.no.place p.no.place)) (le-ltb o.no.position p.no.position (omega (arith, l)))
      ∙ ap (λ b. b && nat_lt o.no.place p.no.place) (ne_eqb o.no.position p.no.position (λ e. absurd (omega (arith, l, e))))
  not_earlier_at p o (inr h) =
      let t = and_both _ _ h in
      let e = eqb-true p.no.position o.no.position t.0 in
      let l = ltb-true p.no.place o.no.place t.1 in
      ap (λ b. b || (o.no.position == p.no.position && nat_lt o.no.place p.no.place)) (le-ltb o.no.position p.no.position (omega (arith, e)))
      ∙ ap (λ b. o.no.position == p.no.position && b) (le-ltb o.no.place p.no.place (omega (arith, l)))
      ∙ and_false (o.no.position == p.no.position)

  not_earlier : (p o : Outgoing) → is_earlier p.no o.no ≡ true → is_earlier o.no p.no ≡ false
  not_earlier p o h = not_earlier_at p o (or_either _ _ h)

  off : (a b c : Bool) → c ≡ false → (a && b && c) ≡ false
  off true true c e = e
  off true false c e = refl
  off false b c e = refl

  none_cancels : (all : List Outgoing) (o : Outgoing) → ((p : Outgoing) → IsIn p all → is_earlier o.no p.no ≡ false) → is_cancelled S all o ≡ false
  unfolding model
  none_cancels [] o h = refl
  none_cancels (p ∷ all) o h = ap (λ b. b || is_cancelled S all o) (off (is_cancel_timer S p) (same_timer o p) (is_earlier o.no p.no) (h p here)) ∙ none_cancels all o (λ q m. h q (there m))

  or_false : (b : Bool) → (b || false) ≡ b
  or_false true = refl
  or_false false = refl

  -- what went out last is not cancelled
  last_stays : (all : List Outgoing) (o : Outgoing) → ((p : Outgoing) → IsIn p all → is_earlier p.no o.no ≡ true) → is_cancelled S (all ++ o ∷ []) o ≡ false
  unfolding model
  last_stays all o h =
      list_any-append (λ c. is_cancel_timer S c && same_timer o c && is_earlier o.no c.no) all (o ∷ [])
      ∙ ap (λ b. b || ((is_cancel_timer S o && same_timer o o && is_earlier o.no o.no) || false)) (none_cancels all o (λ p m. not_earlier p o (h p m)))
      ∙ or_false (is_cancel_timer S o && same_timer o o && is_earlier o.no o.no)
      ∙ off (is_cancel_timer S o) (same_timer o o) (is_earlier o.no o.no) (not_itself o)

  -- one cancel more
  cancel_more : (all : List Outgoing) (o p : Outgoing) → is_cancel_timer S o ≡ true → is_earlier p.no o.no ≡ true → is_cancelled S (all ++ o ∷ []) p ≡ (is_cancelled S all p || same_timer p o)
  unfolding model
  cancel_more all o p c e =
      list_any-append (λ c. is_cancel_timer S c && same_timer p c && is_earlier p.no c.no) all (o ∷ [])
      ∙ ap (λ b. is_cancelled S all p || ((b && same_timer p o && is_earlier p.no o.no) || false)) c
      ∙ ap (λ b. is_cancelled S all p || ((same_timer p o && b) || false)) e
      ∙ ap (λ b. is_cancelled S all p || b) (or_false (same_timer p o && true) ∙ and_true (same_timer p o))
    where
      and_true : (b : Bool) → (b && true) ≡ b
      and_true true = refl
      and_true false = refl

  timer_kept : (s x y : Bool) (w : Scheduled) (named : Scheduled → Bool) → named w ≡ y → if_so (s && not (x || y)) (w ∷ []) ≡ filter (λ z. not (named z)) (if_so (s && not x) (w ∷ []))
  timer_kept true false true w named e = sym (ap (λ b. cond (not b) (w ∷ []) []) e)
  timer_kept true false false w named e = sym (ap (λ b. cond (not b) (w ∷ []) []) e)
  timer_kept true true y w named e = refl
  timer_kept false x y w named e = refl

  message_kept : (m : Bool) (w : Scheduled) (named : Scheduled → Bool) → (m ≡ true → named w ≡ false) → if_so m (w ∷ []) ≡ filter (λ z. not (named z)) (if_so m (w ∷ []))
  message_kept true w named e = sym (ap (λ b. cond (not b) (w ∷ []) []) (e refl))
  message_kept false w named e = refl

  -- a message is into a channel of the network, and so no timer of this one
  message_unnamed : (k : ℕ) (p o : Outgoing) → is_cancel_timer S o ≡ true → is_message S p ≡ true → (b : Bool) → (p.chan == o.chan) ≡ b → is_named o.chan (first_value o.event) (message S Z k p) ≡ false
  unfolding model
  message_unnamed k p o c m true e = absurd (timer_or_network o (cancels_by (went_by S is_timer o) (o.event.kind == 1) c) (sym (same_way is_network p o e) ∙ m))
    where
      cancels_by : (a b : Bool) → (a && b) ≡ true → a ≡ true
      cancels_by true b e = refl
      cancels_by false b e = absurd cc
  message_unnamed k p o c m false e = ap (λ b. b && same_int (first_value p.event) (first_value o.event)) e

  -- a cancel takes the timers of its channel with its id, and nothing else
  cancelled : (all os : List Outgoing) (k : ℕ) (o : Outgoing) → is_cancel_timer S o ≡ true → ((p : Outgoing) → IsIn p os → is_earlier p.no o.no ≡ true)
      → scheduled S Z (all ++ o ∷ []) k os ≡ filter (λ s. not (is_named o.chan (first_value o.event) s)) (scheduled S Z all k os)
  unfolding model
  cancelled all [] k o c h = refl
  cancelled all (p ∷ os) k o c h =
      let named = is_named o.chan (first_value o.event) in
      let rest = scheduled S Z all (if is_message S p then suc k else k) os in
      ap (λ b. if_so (is_set_timer S p && not b) (timer S p ∷ []) ++ (if_so (is_message S p) (message S Z k p ∷ []) ++ scheduled S Z (all ++ o ∷ []) (if is_message S p then suc k else k) os)) (cancel_more all o p c (h p here))
      ∙ ap (λ r. r ++ (if_so (is_message S p) (message S Z k p ∷ []) ++ scheduled S Z (all ++ o ∷ []) (if is_message S p then suc k else k) os)) (timer_kept (is_set_timer S p) (is_cancelled S all p) (same_timer p o) (timer S p) named refl)
      ∙ ap (λ r. filter (λ z. not (named z)) (if_so (is_set_timer S p && not (is_cancelled S all p)) (timer S p ∷ [])) ++ (r ++ scheduled S Z (all ++ o ∷ []) (if is_message S p then suc k else k) os))
      (message_kept (is_message S p) (message S Z k p) named (λ m. message_unnamed k p o c m _ refl))
      ∙ ap (λ r. filter (λ z. not (named z)) (if_so (is_set_timer S p && not (is_cancelled S all p)) (timer S p ∷ [])) ++ (filter (λ z. not (named z)) (if_so (is_message S p) (message S Z k p ∷ [])) ++ r))
      (cancelled all os (if is_message S p then suc k else k) o c (λ q m. h q (there m)))
      ∙ ap (λ r. filter (λ z. not (named z)) (if_so (is_set_timer S p && not (is_cancelled S all p)) (timer S p ∷ [])) ++ r) (sym (filter-append (λ z. not (named z)) (if_so (is_message S p) (message S Z k p ∷ [])) rest))
      ∙ sym (filter-append (λ z. not (named z)) (if_so (is_set_timer S p && not (is_cancelled S all p)) (timer S p ∷ [])) (if_so (is_message S p) (message S Z k p ∷ []) ++ rest))

  -- ---- one event more

  abbrev last_one : List Outgoing → ℕ → Outgoing → List Scheduled
  last_one all k o = if_so (is_set_timer S o && not (is_cancelled S all o)) (timer S o ∷ []) ++ (if_so (is_message S o) (message S Z k o ∷ []) ++ [])

  -- what is scheduled by one event more that cancels nothing
  added : (all : List Outgoing) (o : Outgoing) → is_cancel_timer S o ≡ false → scheduled S Z (all ++ o ∷ []) 0 (all ++ o ∷ []) ≡ scheduled S Z all 0 all ++ last_one (all ++ o ∷ []) (0 + count_by (is_message S) all) o
  unfolding model
  added all o c = scheduled_more S Z (all ++ o ∷ []) all 0 o ∙ ap (λ r. r ++ last_one (all ++ o ∷ []) (0 + count_by (is_message S) all) o) (scheduled_all S Z all all 0 o c)

  counts_more : (all : List Outgoing) (o : Outgoing) (b : Bool) → is_message S o ≡ b → count_by (is_message S) (all ++ o ∷ []) ≡ count_by (is_message S) all + cond b 1 0
  counts_more all o b e =
      let a : count_by (is_message S) (all ++ o ∷ []) ≡ count_by (is_message S) all + count_by (is_message S) (o ∷ []) = sum_by-append (λ x. cond (is_message S x) 1 0) all (o ∷ []) in
      let c : count_by (is_message S) (o ∷ []) ≡ cond (is_message S o) 1 0 + 0 = sum_by-cons (λ x. cond (is_message S x) 1 0) o [] in
      let d : ◌≡◌ {A = ℕ} (cond (is_message S o) 1 0) (cond b 1 0) = ap {A = Bool} {B = ℕ} (λ x. cond x 1 0) e in
      omega (arith, a, c, d)

  still_new : (P : History) (s : Scheduled) → s.no.position ≡ length P → is_still_due S P s ≡ true
  unfolding model
  still_new P s h = new_still S Z P (Took 0 0 (Control Start)) s h

  kept_new : (P : History) (s : Scheduled) → s.no.position ≡ length P → filter (is_still_due S P) (s ∷ []) ≡ s ∷ []
  kept_new P s h = ap (λ b. cond b (s ∷ []) []) (still_new P s h)

  waits_added : (P : History) (all : List Outgoing) (o : Outgoing) (v : Outside) (x : Scheduled) → Stands P all v → is_cancel_timer S o ≡ false → last_one (all ++ o ∷ []) (0 + count_by (is_message S) all) o ≡ x ∷ [] → x.no.position ≡ length P
      → v.waits ++ x ∷ [] ≡ filter (is_still_due S P) (scheduled S Z (all ++ o ∷ []) 0 (all ++ o ∷ []))
  waits_added P all o v x h c e q =
      ap (λ r. r ++ x ∷ []) h.waits
      ∙ ap (λ r. filter (is_still_due S P) (scheduled S Z all 0 all) ++ r) (sym (kept_new P x q))
      ∙ sym (filter-append (is_still_due S P) (scheduled S Z all 0 all) (x ∷ []))
      ∙ ap (λ r. filter (is_still_due S P) (scheduled S Z all 0 all ++ r)) (sym e)
      ∙ ap (filter (is_still_due S P)) (sym (added all o c))

  waits_same : (P : History) (all : List Outgoing) (o : Outgoing) (v : Outside) → Stands P all v → is_cancel_timer S o ≡ false → last_one (all ++ o ∷ []) (0 + count_by (is_message S) all) o ≡ []
      → v.waits ≡ filter (is_still_due S P) (scheduled S Z (all ++ o ∷ []) 0 (all ++ o ∷ []))
  waits_same P all o v h c e =
      h.waits
      ∙ ap (filter (is_still_due S P)) (sym (append-nil (scheduled S Z all 0 all)))
      ∙ ap (λ r. filter (is_still_due S P) (scheduled S Z all 0 all ++ r)) (sym e)
      ∙ ap (filter (is_still_due S P)) (sym (added all o c))

  last_is : (all : List Outgoing) (k : ℕ) (o : Outgoing) (s m x : Bool) → is_set_timer S o ≡ s → is_message S o ≡ m → is_cancelled S all o ≡ x → last_one all k o ≡ if_so (s && not x) (timer S o ∷ []) ++ (if_so m (message S Z k o ∷ []) ++ [])
  last_is all k o s m x e f g =
      ap (λ b. if_so (b && not (is_cancelled S all o)) (timer S o ∷ []) ++ (if_so (is_message S o) (message S Z k o ∷ []) ++ [])) e
      ∙ ap (λ b. if_so (s && not b) (timer S o ∷ []) ++ (if_so (is_message S o) (message S Z k o ∷ []) ++ [])) g
      ∙ ap (λ b. if_so (s && not x) (timer S o ∷ []) ++ (if_so b (message S Z k o ∷ []) ++ [])) f

  same_count : (all : List Outgoing) (o : Outgoing) (v : Outside) (P : History) → Stands P all v → is_message S o ≡ false → v.generator ≡ generator_after (count_by (is_message S) (all ++ o ∷ [])) first_generator
  same_count all o v P h e = h.generator ∙ ap (λ n. generator_after n first_generator) (let f = counts_more all o false e in let g : count_by (is_message S) all ≡ count_by (is_message S) (all ++ o ∷ []) = omega (arith, f) in g)

  waits_cancelled : (P : History) (all : List Outgoing) (o : Outgoing) (v : Outside) → Stands P all v → GoesAfter P all o → is_cancel_timer S o ≡ true → is_set_timer S o ≡ false → is_message S o ≡ false
      → filter (λ s. not (is_named o.chan (first_value o.event) s)) v.waits ≡ filter (is_still_due S P) (scheduled S Z (all ++ o ∷ []) 0 (all ++ o ∷ []))
  unfolding scheduled
  waits_cancelled P all o v h g c s m =
      let named = λ (z : Scheduled). not (is_named o.chan (first_value o.event) z) in
      ap (filter named) h.waits
      ∙ filters_swap named (is_still_due S P) (scheduled S Z all 0 all)
      ∙ ap (filter (is_still_due S P)) (sym (cancelled all all 0 o c g.after))
      ∙ ap (filter (is_still_due S P)) (sym (append-nil (scheduled S Z (all ++ o ∷ []) 0 all)))
      ∙ ap (λ r. filter (is_still_due S P) (scheduled S Z (all ++ o ∷ []) 0 all ++ r)) (sym (last_is (all ++ o ∷ []) (0 + count_by (is_message S) all) o false false _ s m refl))
      ∙ ap (filter (is_still_due S P)) (sym (scheduled_more S Z (all ++ o ∷ []) all 0 o))

  message_same : (P : History) (all : List Outgoing) (o : Outgoing) (v : Outside) → Stands P all v → message S Z (0 + count_by (is_message S) all) o ≡ message_of v o
  unfolding model
  message_same P all o v h =
      let g = λ (n : ℕ). generator_after n first_generator in
      ap (λ n. record { due = o.at + (Z.lo + n % (Z.hi - Z.lo + 1)); no = o.no; release = record { chan = o.chan; event = o.event } })
      (word_of (0 + count_by (is_message S) all) first_generator ∙ ap (λ n. (pcg32 (g n)).0) (let e : 0 + count_by (is_message S) all ≡ count_by (is_message S) all = omega arith in e) ∙ ap (λ x. (pcg32 x).0) (sym h.generator))
      ∙ ap (λ z. record { due = o.at + (z.lo + (pcg32 v.generator).0 % (z.hi - z.lo + 1)); no = o.no; release = record { chan = o.chan; event = o.event } }) (sym h.plan)

  no_both : (n : ℕ) → (n == 0) ≡ true → (n == 1) ≡ true → ⊥
  no_both n e f = let a = eqb-true n 0 e in let b = eqb-true n 1 f in omega (arith, a, b)

  timer_step : (P : History) (all : List Outgoing) (o : Outgoing) (v : Outside) → Stands P all v → GoesAfter P all o → went_by S is_timer o ≡ true → went_by S is_network o ≡ false → (a b : Bool) → (o.event.kind == 0) ≡ a → (o.event.kind == 1) ≡ b
      → Stands P (all ++ o ∷ []) (if a then record v { waits = v.waits ++ timer_of o ∷ [] } else if b then record v { waits = filter (λ s. not (is_named o.chan (first_value o.event) s)) v.waits } else v)
  unfolding model
  timer_step P all o v h g t n true true e f = absurd (no_both o.event.kind e f)
  timer_step P all o v h g t n true false e f =
      let s : is_set_timer S o ≡ true = ap (λ b. b && o.event.kind == 0) t ∙ e in
      let c : is_cancel_timer S o ≡ false = ap (λ b. b && o.event.kind == 1) t ∙ f in
      record {
        services = h.services;
        plan = h.plan;
        last = h.last;
        generator = same_count all o v P h n;
        waits = waits_added P all o v (timer_of o) h c (last_is (all ++ o ∷ []) (0 + count_by (is_message S) all) o true false false s n (last_stays all o g.after)) g.position;
      }
  timer_step P all o v h g t n false true e f =
      let s : is_set_timer S o ≡ false = ap (λ b. b && o.event.kind == 0) t ∙ e in
      let c : is_cancel_timer S o ≡ true = ap (λ b. b && o.event.kind == 1) t ∙ f in
      record { services = h.services; plan = h.plan; last = h.last; generator = same_count all o v P h n; waits = waits_cancelled P all o v h g c s n }
  timer_step P all o v h g t n false false e f =
      let s : is_set_timer S o ≡ false = ap (λ b. b && o.event.kind == 0) t ∙ e in
      let c : is_cancel_timer S o ≡ false = ap (λ b. b && o.event.kind == 1) t ∙ f in
      record { services = h.services; plan = h.plan; last = h.last; generator = same_count all o v P h n; waits = waits_same P all o v h c (last_is (all ++ o ∷ []) (0 + count_by (is_message S) all) o false false _ s n refl) }

  network_step : (P : History) (all : List Outgoing) (o : Outgoing) (v : Outside) → Stands P all v → GoesAfter P all o → went_by S is_timer o ≡ false → went_by S is_network o ≡ true → Stands P (all ++ o ∷ []) (serve Network v o)
  unfolding model
  network_step P all o v h g t n =
      let s : is_set_timer S o ≡ false = ap (λ b. b && o.event.kind == 0) t in
      let c : is_cancel_timer S o ≡ false = ap (λ b. b && o.event.kind == 1) t in
      record {
        services = h.services;
        plan = h.plan;
        last = h.last;
        generator =
            ap (λ x. (pcg32 x).1) h.generator ∙ sym (after_more (count_by (is_message S) all) first_generator) ∙ ap (λ n. generator_after n first_generator) (sym (counts_more all o true n));
        waits = waits_added P all o v (message_of v o) h c (last_is (all ++ o ∷ []) (0 + count_by (is_message S) all) o false true _ s n refl ∙ ap (λ x. x ∷ []) (message_same P all o v h)) g.position;
      }

  nothing_step : (P : History) (all : List Outgoing) (o : Outgoing) (v : Outside) → Stands P all v → went_by S is_timer o ≡ false → went_by S is_network o ≡ false → Stands P (all ++ o ∷ []) v
  unfolding model
  nothing_step P all o v h t n =
      let s : is_set_timer S o ≡ false = ap (λ b. b && o.event.kind == 0) t in
      let c : is_cancel_timer S o ≡ false = ap (λ b. b && o.event.kind == 1) t in
      record { services = h.services; plan = h.plan; last = h.last; generator = same_count all o v P h n; waits = waits_same P all o v h c (last_is (all ++ o ∷ []) (0 + count_by (is_message S) all) o false false _ s n refl) }

  served : (P : History) (all : List Outgoing) (o : Outgoing) (v : Outside) → Stands P all v → GoesAfter P all o → IsWay (service_at v o.chan) (went_by S is_timer o) (went_by S is_network o) → Stands P (all ++ o ∷ []) (serve (service_at v o.chan) v o)
  served P all o v h g (inl w) = subst (λ s. Stands P (all ++ o ∷ []) (serve s v o)) (sym w.0) (timer_step P all o v h g w.1 w.2 (o.event.kind == 0) (o.event.kind == 1) refl refl)
  served P all o v h g (inr (inl w)) = subst (λ s. Stands P (all ++ o ∷ []) (serve s v o)) (sym w.0) (network_step P all o v h g w.1 w.2)
  served P all o v h g (inr (inr w)) = subst (λ s. Stands P (all ++ o ∷ []) (serve s v o)) (sym w.0) (nothing_step P all o v h w.1 w.2)

  clock_is : (P : History) (all : List Outgoing) (v : Outside) → Stands P all v → clock_of v ≡ clock P
  unfolding model
  clock_is P all v h = ap (λ o. unwrap_or o 0) h.last

  -- one event more is absorbed
  pub stands_more : (P : History) (all : List Outgoing) (o : Outgoing) (v : Outside) → Stands P all v → GoesAfter P all o → Stands P (all ++ o ∷ []) (absorbed v o.chan o.no o.event)
  stands_more P all o v h g =
      let at : clock_of v ≡ o.at = clock_is P all v h ∙ sym g.at in
      let same : record { no = o.no; chan = o.chan; event = o.event; at = clock_of v } ≡ o = ap {A = ℕ} {B = Outgoing} (λ t. record { no = o.no; chan = o.chan; event = o.event; at = t }) at in
      let r = subst (λ q. Stands P (all ++ o ∷ []) (serve (service_at v o.chan) v q)) (sym same) (served P all o v h g (way_of v o h.services)) in
      record { services = r.services; plan = r.plan; last = r.last; waits = r.waits; generator = r.generator }
