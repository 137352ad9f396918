-- Who can become runnable or ready by an entry.
use Rattle.std.proofs.Common.{◌≡◌, ℕ, ◌+◌, ◌<◌, Bool, true, false, cond, if◌then◌else◌, not, ◌&&◌, ◌||◌, ◌==◌, refl, sym, ap, ◌∙◌, subst, List, [], ◌∷◌, ◌++◌, length, filter, Option, Some, None, ◌⊎◌, inl, inr, arith, eq-eqb}
use Rattle.std.specs.Prelude.{slice_get, is_some, nat_le}
use Rattle.std.specs.List.{count_by, flat_map, enumerate_from, list_any}
use Rattle.std.specs.Option.{option_map, option_map_or, option_and_then}
use Rattle.std.proofs.lemmas.List.{append-nil}
use Rattle.std.proofs.lemmas.Bool.{eqb-true, leb-false, lt-leb}
use Rattle.std.proofs.lemmas.List.Sums.{sum_by-cons}
use Rattle.std.proofs.lemmas.Option.{slice_get_within}
use Rattle.kom_base.specs.declared.numbers.Dir.{Dir}
use Rattle.kom_base.specs.declared.numbers.Dir.TheVariants.{Plus, Minus}
use Rattle.kom_base.specs.declared.numbers.Half.{Half}
use Rattle.kom_base.specs.Numbers.{opposite, same_no}
use Rattle.kom_base.specs.Lists.{first}
use Rattle.kom_lang.specs.Declarations.{Declarations}
use Rattle.kom_record.specs.Model.{model}
use Rattle.kom_record.specs.declared.plan.Plan.{Plan}
use Rattle.kom_record.specs.declared.entry.Outcome.{Outcome}
use Rattle.kom_record.specs.declared.entry.Entry.{Entry}
use Rattle.kom_record.specs.declared.entry.Entry.TheVariants.{Did}
use Rattle.kom_record.specs.Entries.{History, Act, acts, acts_of}
use Rattle.kom_record.specs.Instances.{born}
use Rattle.kom_record.specs.Channels.{Channel, Environment, Own, channels, channel_alive, channel_end, destination, place, held, is_living, goes_out}
use Rattle.kom_record.specs.Bodies.{outcome_of}
use Rattle.kom_record.specs.Queues.{Envelope, entering, entered, received, waiting, taken_from, before_moved}
use Rattle.kom_record.specs.Controls.{control_waiting, putting, getting}
use Rattle.kom_record.specs.Ready.{Candidate, arriving, candidate, candidates, directions, is_active, is_busy, runnable, is_closed, ready, is_took, is_moved}
use Rattle.kom_laws.proofs.Members.{IsIn, here, there, made_by}
use Rattle.kom_laws.proofs.ListFacts.{makes, first_some, first_is, in_numbered}
use Rattle.kom_laws.proofs.NextItem.{mapped, chosen}
use Rattle.kom_laws.proofs.InstanceLaws.{alive_all_before}
use Rattle.kom_laws.proofs.ChannelLaws.{channel_stays, owner_born}
use Rattle.kom_laws.proofs.ControlLaws.{control_same, body_other}

-- ---- small facts

pub and_both : (a b : Bool) → (a && b) ≡ true → (a ≡ true) × (b ≡ true)
unfolding model
and_both true b e = (refl, e)
and_both false b e = absurd cc

pub and_make : (a b : Bool) → a ≡ true → b ≡ true → (a && b) ≡ true
unfolding model
and_make true b e f = f
and_make false b e f = absurd cc

pub or_either : (a b : Bool) → (a || b) ≡ true → (a ≡ true) ⊎ (b ≡ true)
unfolding model
or_either true b e = inl refl
or_either false b e = inr e

pub or_right : (a b : Bool) → b ≡ true → (a || b) ≡ true
unfolding model
or_right true b e = refl
or_right false b e = e

pub or_left : (a b : Bool) → a ≡ true → (a || b) ≡ true
unfolding model
or_left true b e = refl
or_left false b e = absurd cc

pub not_true : (a : Bool) → not a ≡ true → a ≡ false
unfolding model
not_true true e = absurd cc
not_true false e = refl

no_or : (a b : Bool) → a ≡ false → b ≡ false → (a || b) ≡ false
unfolding model
no_or true b e f = absurd cc
no_or false b e f = f

test_of : {A : Type 0} (b : Bool) (o : Option A) (y : A) → cond b o None ≡ Some y → b ≡ true
unfolding model
test_of true o y e = refl
test_of false o y e = absurd cc

found : {A B : Type 0} (f : A → Option B) (o : Option A) (y : B) → option_and_then f o ≡ Some y → (x : A) × (o ≡ Some x) × (f x ≡ Some y)
unfolding model
found f None y e = absurd cc
found f (Some x) y e = (x, refl, e)

module _ (S : Declarations) where
  -- a direction is at its place in the list
  ways : List (ℕ × Channel) → List (ℕ × Dir)
  unfolding model
  ways cs = flat_map (λ x. (x.0, Plus) ∷ (x.0, Minus) ∷ []) cs

  way_in : (cs : List (ℕ × Channel)) (q : ℕ × Channel) (d : Dir) → IsIn q cs → IsIn {X = ℕ × Dir} (q.0, d) (flat_map (λ x. (x.0, Plus) ∷ (x.0, Minus) ∷ []) cs)
  unfolding model
  way_in [] q d h = elim h [ ]
  way_in (q ∷ cs) q' Plus here = here
  way_in (q ∷ cs) q' Minus here = there here
  way_in (p ∷ cs) q d (there h) = there (there (way_in cs q d h))

  -- what a candidate says
  pub record IsCandidate (P : History) (c x : ℕ) (d : Dir) : Type 0 where
    pub half : Half
    pub envelope : Envelope
    pub ends : destination S (acts P) x d ≡ Some half
    pub at : half.comp ≡ c
    pub living : is_living S (acts P) x ≡ true
    pub free : held S (acts P) x ≡ false
    pub first_is : first (waiting S P x d) ≡ Some envelope

  pub candidate_is : (P : History) (c x : ℕ) (d : Dir) (a : Candidate) → candidate S P c (x, d) ≡ Some a → IsCandidate P c x d
  unfolding model
  candidate_is P c x d a e =
      let b = found _ (destination S (acts P) x d) a e in
      let t = test_of (b.0.comp == c && is_living S (acts P) x && not (held S (acts P) x)) _ a b.2 in
      let u = and_both _ _ t in
      let v = and_both _ _ u.0 in
      let m = mapped (arriving S x d b.0) (first (waiting S P x d)) a (chosen _ _ a b.2) in
      record { half = b.0; envelope = m.0; ends = b.1; at = eqb-true _ _ v.0; living = v.1; free = not_true _ u.1; first_is = m.1 }

  candidate_made : (P : History) (c x : ℕ) (d : Dir) → IsCandidate P c x d → (a : Candidate) × (candidate S P c (x, d) ≡ Some a)
  unfolding model
  candidate_made P c x d k = (
    arriving S x d k.half k.envelope,
    ap (option_and_then (λ h. if h.comp == c && is_living S (acts P) x && not (held S (acts P) x) then option_map (arriving S x d h) (first (waiting S P x d)) else None)) k.ends
        ∙ ap (λ b. if b then option_map (arriving S x d k.half) (first (waiting S P x d)) else None)
        (and_make _ _ (and_make _ _ (eq-eqb k.half.comp c k.at) k.living) (ap not k.free))
        ∙ ap (option_map (arriving S x d k.half)) k.first_is,
  )

  -- a place is that of a channel that is there
  there_is : (done : List Act) (x : ℕ) (e : Dir) (h : Half) → place S done x e ≡ Some h → (ch : Channel) × (slice_get (channels S done) x ≡ Some ch)
  unfolding model
  there_is done x e h p = go (slice_get (channels S done) x) p
    where
      go : (o : Option Channel) → option_and_then (channel_end S done e) o ≡ Some h → (ch : Channel) × (o ≡ Some ch)
      go None q = absurd cc
      go (Some ch) q = (ch, refl)

  pub candidate_from : (P : History) (c x : ℕ) (d : Dir) → IsCandidate P c x d → is_some (first (candidates S P c)) ≡ true
  unfolding model
  candidate_from P c x d k =
      let m = candidate_made P c x d k in
      let ch = there_is (acts P) x (opposite d) k.half k.ends in
      let n = in_numbered 0 (channels S (acts P)) x ch.0 ch.1 in
      let w : IsIn {X = ℕ × Channel} (x, ch.0) (enumerate_from 0 (channels S (acts P))) = subst (λ i. IsIn {X = ℕ × Channel} (i, ch.0) (enumerate_from 0 (channels S (acts P)))) (let f : 0 + x ≡ x = omega arith in f) n in
      first_some (candidates S P c) m.0 (makes (candidate S P c) (directions S P) (x, d) m.0 (way_in (enumerate_from 0 (channels S (acts P))) (x, ch.0) d w) m.1)

  pub has_candidate : (P : History) (c : ℕ) → is_some (first (candidates S P c)) ≡ true → (x : ℕ) × (d : Dir) × IsCandidate P c x d
  unfolding model
  has_candidate P c h =
      let f = first_is (candidates S P c) h in
      let m = made_by (candidate S P c) (directions S P) f.0 f.1 in
      (m.0.0, m.0.1, candidate_is P c m.0.0 m.0.1 f.0 m.1)

  -- ---- a component that an entry leaves alone

  pub record IsUnaffected (P : History) (e : Entry) (c : ℕ) : Type 0 where
    pub born_before : c < length (born S (acts P))
    pub not_own : outcome_of c e ≡ None
    pub busy_still : is_busy S P c ≡ true → is_busy S (e ∷ P) c ≡ true
    pub nothing_got : getting S e c ≡ []
    pub nothing_put : putting S P e c ≡ []
    -- each direction that ends at c now ended so before, was as free, and has what it had
    pub as_before : (x : ℕ) (d : Dir) (h : Half) → destination S (acts (e ∷ P)) x d ≡ Some h → h.comp ≡ c → is_living S (acts (e ∷ P)) x ≡ true → held S (acts (e ∷ P)) x ≡ false
        → (destination S (acts P) x d ≡ Some h) × (held S (acts P) x ≡ false) × (waiting S (e ∷ P) x d ≡ waiting S P x d)

  -- a living channel at which a direction ended before lived before
  alive_one : (mine done : List Act) (x : ℕ) (ch : Channel) → slice_get (channels S done) x ≡ Some ch → channel_alive S (mine ++ done) ch ≡ true → channel_alive S done ch ≡ true
  unfolding model
  alive_one mine done x (Environment q) e h = refl
  alive_one mine done x (Own c k) e h = alive_all_before S mine done c (owner_born S done x c k e) h

  lived : (mine done : List Act) (x : ℕ) (ch : Channel) → slice_get (channels S done) x ≡ Some ch → is_living S (mine ++ done) x ≡ true → is_living S done x ≡ true
  unfolding model
  lived mine done x ch e h =
      let same : slice_get (channels S (mine ++ done)) x ≡ Some ch = channel_stays S mine done x (slice_get_within (channels S done) x ch e) ∙ e in
      ap (λ o. option_map_or (channel_alive S done) o false) e
      ∙ alive_one mine done x ch e (sym (ap (λ o. option_map_or (channel_alive S (mine ++ done)) o false) same) ∙ h)

  still_candidate : (P : History) (e : Entry) (c x : ℕ) (d : Dir) → IsUnaffected P e c → IsCandidate (e ∷ P) c x d → IsCandidate P c x d
  unfolding model
  still_candidate P e c x d k a =
      let b = k.as_before x d a.half a.ends a.at a.living a.free in
      let ch = there_is (acts P) x (opposite d) a.half b.0 in
      record { half = a.half; envelope = a.envelope; ends = b.0; at = a.at; living = lived (acts_of P e) (acts P) x ch.0 ch.1 a.living; free = b.1; first_is = ap first (sym b.2) ∙ a.first_is }

  still_waits : (P : History) (e : Entry) (c : ℕ) → IsUnaffected P e c
      → (is_some (first (control_waiting S (e ∷ P) c)) || (is_active S (e ∷ P) c && is_some (first (candidates S (e ∷ P) c)))) ≡ true
      → (is_some (first (control_waiting S P c)) || (is_active S P c && is_some (first (candidates S P c)))) ≡ true
  unfolding model
  still_waits P e c k h = go (or_either _ _ h)
    where
      go : (is_some (first (control_waiting S (e ∷ P) c)) ≡ true) ⊎ ((is_active S (e ∷ P) c && is_some (first (candidates S (e ∷ P) c))) ≡ true)
          → (is_some (first (control_waiting S P c)) || (is_active S P c && is_some (first (candidates S P c)))) ≡ true
      go (inl t) = or_left _ _ (ap (λ cs. is_some (first cs)) (sym (control_same S P e c k.nothing_got k.nothing_put)) ∙ t)
      go (inr t) =
          let u = and_both _ _ t in
          let w = has_candidate (e ∷ P) c u.1 in
          or_right _ _ (and_make _ _
          (ap (λ b. option_map_or (λ y. y.active) b false) (sym (body_other S P e c k.not_own k.born_before)) ∙ u.0)
          (candidate_from P c w.0 w.1 (still_candidate P e c w.0 w.1 k w.2)))

  not_busy : (P : History) (e : Entry) (c : ℕ) → IsUnaffected P e c → not (is_busy S (e ∷ P) c) ≡ true → not (is_busy S P c) ≡ true
  unfolding model
  not_busy P e c k h = go (is_busy S P c) refl
    where
      go : (b : Bool) → is_busy S P c ≡ b → not b ≡ true
      go true q = sym (ap not (k.busy_still q)) ∙ h
      go false q = refl

  -- a component that an entry leaves alone does not become runnable
  pub unaffected_runnable : (P : History) (e : Entry) (c : ℕ) → IsUnaffected P e c → runnable S (e ∷ P) c ≡ true → runnable S P c ≡ true
  unfolding model
  unaffected_runnable P e c k h =
      let a = and_both _ _ h in
      let b = and_both _ _ a.0 in
      and_make _ _ (and_make _ _ (alive_all_before S (acts_of P e) (acts P) c k.born_before b.0) (not_busy P e c k b.1)) (still_waits P e c k a.1)

  -- a record that is closed stays closed
  or_false : (a b : Bool) → (a || b) ≡ false → (a ≡ false) × (b ≡ false)
  unfolding model
  or_false true b e = absurd cc
  or_false false b e = (refl, e)

  pub count_grows : (test : Entry → Bool) (n : ℕ) (P : History) (e : Entry) → nat_le n (count_by test (e ∷ P)) ≡ false → nat_le n (count_by test P) ≡ false
  unfolding model
  count_grows test n P e h =
      let g = leb-false n (count_by test (e ∷ P)) h in
      let s = sum_by-cons (λ x. cond (test x) 1 0) e P in
      lt-leb n (count_by test P) (omega (arith, g, s))

  pub stays_open : (Z : Plan) (P : History) (e : Entry) → is_closed S Z (e ∷ P) ≡ false → is_closed S Z P ≡ false
  unfolding model
  stays_open Z P e h =
      let a = or_false _ _ h in
      let b = or_false _ _ a.0 in
      let r = or_false _ _ b.0 in
      no_or _ _ (no_or _ _ r.0 (count_grows is_took Z.steps P e b.1)) (count_grows is_moved Z.instants P e a.1)

  -- who is ready after an entry that leaves it alone was ready before
  pub unaffected_ready : (Z : Plan) (P : History) (e : Entry) (c : ℕ) → IsUnaffected P e c → ready S Z (e ∷ P) c ≡ true → ready S Z P c ≡ true
  unfolding model
  unaffected_ready Z P e c k h =
      let a = and_both _ _ h in
      and_make _ _ (unaffected_runnable P e c k a.0) (ap not (stays_open Z P e (not_true _ a.1)))

  -- what an entry other than a Took leaves in a direction that nothing enters
  pub waiting_same : (P : History) (w d took : ℕ) (o : Outcome) (to : Option ℕ) (places : List ℕ) (x : ℕ) (e : Dir)
      → entering S P (Did w d took o to places) x e ≡ [] → waiting S (Did w d took o to places ∷ P) x e ≡ waiting S P x e
  unfolding model
  waiting_same P w d took o to places x e h =
      ap (λ r. filter (λ p. not (list_any (λ q. same_no q.no p.no) r)) (entered S P x e ++ entering S P (Did w d took o to places) x e)) (ap (λ ys. if goes_out S x e then entered S (before_moved S P) x e else ys) (append-nil (taken_from S P x e)))
      ∙ ap (λ ys. filter (λ p. not (list_any (λ q. same_no q.no p.no) (received S P x e))) (entered S P x e ++ ys)) h
      ∙ ap (filter (λ p. not (list_any (λ q. same_no q.no p.no) (received S P x e)))) (append-nil (entered S P x e))
