-- All events of a legal record are of their types.
use Rattle.std.proofs.Common.{◌≡◌, ℕ, suc, Bool, true, false, if◌then◌else◌, not, ◌&&◌, ◌==◌, refl, sym, ap, subst, List, [], ◌∷◌, ◌++◌, length, map, filter, Option, Some, None, ◌⊎◌, inl, inr}
use Rattle.std.specs.List.{enumerate_from, filter_map, list_all}
use Rattle.kom_base.specs.declared.numbers.Dir.{Dir}
use Rattle.kom_base.specs.declared.numbers.Side.TheVariants.{Outside, Inside}
use Rattle.kom_base.specs.declared.values.Event.{Event}
use Rattle.kom_base.specs.Lists.{first, if_so}
use Rattle.kom_base.specs.Numbers.{other_side}
use Rattle.kom_lang.specs.Declarations.{Declarations}
use Rattle.kom_lang.specs.declared.body.Body.{Body}
use Rattle.kom_lang.specs.declared.body.Effect.{Effect}
use Rattle.kom_lang.specs.declared.body.Effect.TheVariants as effect
use Rattle.kom_system.specs.WellFormed.{IsDeclared}
use Rattle.kom_record.specs.Model.{model}
use Rattle.kom_record.specs.declared.plan.Plan.{Plan}
use Rattle.kom_record.specs.declared.plan.Raise.{Raise}
use Rattle.kom_record.specs.declared.item.Back.TheVariants.{Plain}
use Rattle.kom_record.specs.declared.item.Item.{Item}
use Rattle.kom_record.specs.declared.item.Item.TheVariants.{Control, Arrival}
use Rattle.kom_record.specs.declared.entry.Outcome.{Outcome}
use Rattle.kom_record.specs.declared.entry.Outcome.TheVariants as outcome
use Rattle.kom_record.specs.declared.entry.Release.{Release}
use Rattle.kom_record.specs.declared.entry.Entry.{Entry}
use Rattle.kom_record.specs.declared.entry.Entry.TheVariants.{Took, Did, Moved}
use Rattle.kom_record.specs.Entries.{History, Act, acts, entry_at, item_at, item_of}
use Rattle.kom_record.specs.Legal.{IsLegal}
use Rattle.kom_record.specs.Offers.{Offer, AtHalf, FromOutside, relayed_back, offers, offers_for, offer_of, relayed}
use Rattle.kom_record.specs.Plans.{PlanFits, comes_in_at, is_of_its_type}
use Rattle.kom_record.specs.Queues.{Envelope, entered, entering, enters, is_among, received, waiting}
use Rattle.kom_record.specs.Ready.{next}
use Rattle.kom_record.specs.Time.{Outgoing, Scheduled, batch, clock, is_cancelled, is_message, is_set_timer, is_still_due, is_unraised, message, outgoing, outgoing_by, outgoing_of, outward, pending, root_ports, scheduled, timer, first_value}
use Rattle.kom_laws.proofs.Members.{IsIn, here, there, Some-injective}
use Rattle.kom_laws.proofs.Rising.{in_append}
use Rattle.kom_laws.proofs.ListFacts.{got_in, in_flat, in_cons, numbered}
use Rattle.kom_laws.proofs.ActLaws.{in_filter}
use Rattle.kom_laws.proofs.NextItem.{first_waits}
use Rattle.kom_agree.specs.Effects.{AreMet, IsMet}
use Rattle.kom_agree.proofs.Born.{both}
use Rattle.kom_agree.proofs.Reacting.{made_from}
use Rattle.kom_agree.proofs.Records.{effects_met}
use Rattle.kom_typed.proofs.Types.{leaving_typed, timeout_typed}
use Rattle.kom_typed.proofs.Ends.{bound_of, chosen_true, from_map}

-- ---- members

pub in_all : {X : Type 0} (f : X → Bool) (x : X) (xs : List X) → list_all f xs ≡ true → IsIn x xs → f x ≡ true
in_all f x [] e h = elim h [ ]
in_all f x (x' ∷ xs) e here = (both _ _ e).0
in_all f x (y ∷ xs) e (there h) = in_all f x xs (both _ _ e).1 h

pub first_in : {X : Type 0} (xs : List X) (x : X) → first xs ≡ Some x → IsIn x xs
first_in [] x e = absurd cc
first_in (y ∷ xs) x e = subst (λ z. IsIn z (y ∷ xs)) (Some-injective e) here

pub in_so : {X : Type 0} (b : Bool) (x y : X) → IsIn x (if_so b (y ∷ [])) → x ≡ y
in_so true x x' here = refl
in_so true x y (there h) = elim h [ ]
in_so false x y h = elim h [ ]

pub entry_in : (P : History) (i : ℕ) (x : Entry) → entry_at P i ≡ Some x → IsIn x P
unfolding entry_at
entry_in [] i x e = absurd cc
entry_in (y ∷ P) i x e = go (length P == i) (entry_in P i x) e
  where
    go : (b : Bool) → (entry_at P i ≡ Some x → IsIn x P) → (if b then Some y else entry_at P i) ≡ Some x → IsIn x (y ∷ P)
    go true k q = subst (λ z. IsIn z (y ∷ P)) (Some-injective q) here
    go false k q = there (k q)

-- the item that a Took took
took_of : (e : Entry) (item : Item) → item_of e ≡ Some item → (w : ℕ) × (c : ℕ) × (e ≡ Took w c item)
took_of (Took w c i) item q = (w, c, ap (Took w c) (Some-injective q))
took_of (Did w c took o to places) item q = absurd cc
took_of (Moved w t rs) item q = absurd cc

pub item_in : (P : History) (i : ℕ) (item : Item) → item_at P i ≡ Some item → (w : ℕ) × (c : ℕ) × IsIn (Took w c item) P
unfolding item_at
item_in P i item q =
    let b = bound_of item_of (entry_at P i) item q in
    let t = took_of b.0 item b.2 in
    (t.0, t.1, subst (λ z. IsIn z P) t.2 (entry_in P i b.0 b.1))

module _ (S : Declarations) where
  abbrev pub IsTyped : Event → Type 0
  IsTyped event = is_of_its_type S event ≡ true

  abbrev pub IsItemTyped : Item → Type 0
  IsItemTyped (Control k) = Unit {0}
  IsItemTyped (Arrival x d n port side event back) = IsTyped event

  -- what was taken, entered a channel and went out is of its type
  pub record AreTyped (P : History) : Type 0 where
    pub items : (w c : ℕ) (item : Item) → IsIn (Took w c item) P → IsItemTyped item
    pub events : (x : ℕ) (d : Dir) (q : Envelope) → IsIn q (entered S P x d) → IsTyped q.event
    pub outgoing : (o : Outgoing) → IsIn o (outgoing S P) → IsTyped o.event

  -- ---- a Did

  pub met_in : (done : List Act) (c kind : ℕ) (item : Item) (es : List Effect) (e : Effect) → AreMet S done c kind item es → IsIn e es → (at : List Act) × IsMet S at c kind item e
  met_in done c kind item [] e h m = elim m [ ]
  met_in done c kind item (e ∷ es) e' h here = (done, h.0)
  met_in done c kind item (x ∷ es) e h (there m) = met_in (record { by = c; item = item; effect = x } ∷ done) c kind item es e h.1 m

  answer_typed : (done : List Act) (c took kind : ℕ) (item : Item) (event : Event) (o : Offer) → IsMet S done c kind item (effect.Answer event) → offer_of c took item (effect.Answer event) ≡ Some o → IsTyped o.event
  answer_typed done c took kind (Control k) event o m e = absurd cc
  answer_typed done c took kind (Arrival x d n port Outside arrived back) event o m e = subst (λ z. IsTyped z.event) (Some-injective e) (leaving_typed S kind port event m)
  answer_typed done c took kind (Arrival x d n port Inside arrived back) event o m e = absurd m

  effect_typed : (done : List Act) (c took kind : ℕ) (item : Item) (e : Effect) (o : Offer) → IsMet S done c kind item e → offer_of c took item e ≡ Some o → IsTyped o.event
  effect_typed done c took kind item (effect.Trigger port event) o m e = subst (λ z. IsTyped z.event) (Some-injective e) (leaving_typed S kind port event m)
  effect_typed done c took kind item (effect.Answer event) o m e = answer_typed done c took kind item event o m e
  effect_typed done c took kind item (effect.Create s k b) o m e = absurd cc
  effect_typed done c took kind item (effect.Start s) o m e = absurd cc
  effect_typed done c took kind item (effect.Stop s) o m e = absurd cc
  effect_typed done c took kind item (effect.Destroy s) o m e = absurd cc
  effect_typed done c took kind item (effect.Dump s) o m e = absurd cc
  effect_typed done c took kind item (effect.Hold k) o m e = absurd cc
  effect_typed done c took kind item (effect.Resume k) o m e = absurd cc
  effect_typed done c took kind item (effect.Unplug k f) o m e = absurd cc
  effect_typed done c took kind item (effect.Plug k f p) o m e = absurd cc
  effect_typed done c took kind item effect.Escalate o m e = absurd cc

  relayed_typed : (P : History) (c : ℕ) (item : Item) (o : Offer) → IsItemTyped item → IsIn o (relayed P c item) → IsTyped o.event
  relayed_typed P c (Control k) o t h = elim h [ ]
  relayed_typed P c (Arrival x d n port side event back) o t h =
      elim (in_cons o (record { origin = AtHalf (record { comp = c; port = port; side = other_side side }); event = event; back = relayed_back P back }) [] h) [
        | inl e ↦ subst (λ z. IsTyped z.event) (sym e) t
        | inr m ↦ elim m [ ]
      ]

  offers_typed : (Z : Plan) → IsDeclared S → (P : History) (w c took : ℕ) (body : Body) (es : List Effect) (to : Option ℕ) (places : List ℕ) → AreTyped P → IsLegal S Z (Did w c took (outcome.Done body es) to places ∷ P)
      → (o : Offer) → IsIn o (offers_for P c took es (item_at P took)) → IsTyped o.event
  offers_typed Z D P w c took body es to places h l o m = go (item_at P took) refl m
    where
      go : (i : Option Item) → item_at P took ≡ i → IsIn o (offers_for P c took es i) → IsTyped o.event
      go None e m = elim m [ ]
      go (Some item) e m =
          let t = item_in P took item e in
          elim (in_append o (relayed P c item) (filter_map (offer_of c took item) es) m) [
            | inl x ↦ relayed_typed P c item o (h.items t.0 t.1 item t.2) x
            | inr x ↦
                let r = made_from (offer_of c took item) es o x in
                let k = met_in (acts P) c body.kind item es r.0 (effects_met S Z D P w c took body es to places item l e) r.1 in
                effect_typed k.0 c took body.kind item r.0 o k.1 r.2
          ]

  -- ---- a Moved

  scheduled_typed : (Z : Plan) → IsDeclared S → (all os : List Outgoing) (k : ℕ) (s : Scheduled) → ((o : Outgoing) → IsIn o os → IsTyped o.event) → IsIn s (scheduled S Z all k os) → IsTyped s.release.event
  unfolding model
  scheduled_typed Z D all [] k s h m = elim m [ ]
  scheduled_typed Z D all (o ∷ os) k s h m =
      let rest = scheduled S Z all (if is_message S o then suc k else k) os in
      elim (in_append s (if_so (is_set_timer S o && not (is_cancelled S all o)) (timer S o ∷ [])) (if_so (is_message S o) (message S Z k o ∷ []) ++ rest) m) [
        | inl a ↦ subst (λ z. IsTyped z.release.event) (sym (in_so (is_set_timer S o && not (is_cancelled S all o)) s (timer S o) a)) (timeout_typed S D (first_value o.event))
        | inr a ↦ elim (in_append s (if_so (is_message S o) (message S Z k o ∷ [])) rest a) [
          | inl b ↦ subst (λ z. IsTyped z.release.event) (sym (in_so (is_message S o) s (message S Z k o) b)) (h o here)
          | inr b ↦ scheduled_typed Z D all os (if is_message S o then suc k else k) s (λ p q. h p (there q)) b
        ]
      ]

  raise_typed : (Z : Plan) → PlanFits S Z → (r : Raise) → IsIn r Z.raises → IsTyped r.event
  unfolding comes_in_at
  raise_typed Z F r m = (both _ _ (in_all (λ r. comes_in_at S r.chan r.event) r Z.raises F.come_in m)).1

  pending_typed : (Z : Plan) → IsDeclared S → PlanFits S Z → (P : History) → AreTyped P → (q : ℕ × Release) → IsIn q (pending S Z P) → IsTyped q.1.event
  unfolding pending
  pending_typed Z D F P h q m =
      elim (in_append q (filter_map {Y = ℕ × Release} (λ r. if is_unraised S P r then Some (r.time, record { chan = r.chan; event = r.event }) else None) Z.raises) (map (λ s. (s.due, s.release)) (filter (is_still_due S P) (scheduled S Z (outgoing S P) 0 (outgoing S P)))) m) [
        | inl a ↦
            let f = made_from (λ r. if is_unraised S P r then Some (r.time, record { chan = r.chan; event = r.event }) else None) Z.raises q a in
            let c = chosen_true (is_unraised S P f.0) (Some (f.0.time, record { chan = f.0.chan; event = f.0.event })) q f.2 in
            subst (λ z. IsTyped z.1.event) (Some-injective c.1) (raise_typed Z F f.0 f.1)
        | inr a ↦
            let f = from_map (λ s. (s.due, s.release)) (filter (is_still_due S P) (scheduled S Z (outgoing S P) 0 (outgoing S P))) q a in
            let g = in_filter (is_still_due S P) (scheduled S Z (outgoing S P) 0 (outgoing S P)) f.0 f.1 in
            subst (λ z. IsTyped z.1.event) f.2 (scheduled_typed Z D (outgoing S P) (outgoing S P) 0 f.0 h.outgoing g.0)
      ]

  batch_typed : (Z : Plan) → IsDeclared S → PlanFits S Z → (P : History) → AreTyped P → (t : ℕ) (r : Release) → IsIn r (batch S Z P t) → IsTyped r.event
  unfolding batch
  batch_typed Z D F P h t r m =
      let f = made_from (λ p. if p.0 == t then Some p.1 else None) (pending S Z P) r m in
      let c = chosen_true (f.0.0 == t) (Some f.0.1) r f.2 in
      subst (λ z. IsTyped z.event) (Some-injective c.1) (pending_typed Z D F P h f.0 f.1)

  -- ---- what an entry offers, and where that goes

  all_offers : (Z : Plan) → IsDeclared S → PlanFits S Z → (P : History) (e : Entry) → AreTyped P → IsLegal S Z (e ∷ P) → (o : Offer) → IsIn o (offers P e) → IsTyped o.event
  unfolding offers IsLegal
  all_offers Z D F P (Took w c item) h l o m = elim m [ ]
  all_offers Z D F P (Did w c took outcome.Void to places) h l o m = elim m [ ]
  all_offers Z D F P (Did w c took (outcome.Fault n) to places) h l o m = elim m [ ]
  all_offers Z D F P (Did w c took (outcome.Done body es) to places) h l o m = offers_typed Z D P w c took body es to places h l o m
  all_offers Z D F P (Moved w t rs) h l o m =
      let f = from_map (λ r. record { origin = FromOutside r.chan; event = r.event; back = Plain }) rs o m in
      subst (λ z. IsTyped z.event) f.2 (batch_typed Z D F P h t f.0 (subst (IsIn f.0) l.1.all_released f.1))

  entering_typed : (P : History) (e : Entry) (x : ℕ) (d : Dir) (q : Envelope) → ((o : Offer) → IsIn o (offers P e) → IsTyped o.event) → IsIn q (entering S P e x d) → IsTyped q.event
  unfolding entering
  entering_typed P e x d q h m =
      let f = made_from (λ q. if enters S P x d q.1 then Some (record { no = record { position = length P; place = q.0 }; event = q.1.event; back = q.1.back }) else None) (enumerate_from 0 (offers P e)) q m in
      let c = chosen_true (enters S P x d f.0.1) (Some (record { no = record { position = length P; place = f.0.0 }; event = f.0.1.event; back = f.0.1.back })) q f.2 in
      let n = numbered 0 (offers P e) f.0 f.1 in
      subst (λ z. IsTyped z.event) (Some-injective c.1) (h f.0.1 (got_in (offers P e) n.0 f.0.1 n.2))

  outgoing_typed : (P : History) (e : Entry) (o : Outgoing) → ((o : Offer) → IsIn o (offers P e) → IsTyped o.event) → IsIn o (outgoing_of S P e) → IsTyped o.event
  unfolding outgoing_of
  outgoing_typed P e o h m =
      let g = in_flat (outgoing_by S P) (enumerate_from 0 (offers P e)) o m in
      let f = made_from (λ x. if enters S P x.0 (outward x.1) g.0.1 then Some (record { no = record { position = length P; place = g.0.0 }; chan = x.0; event = g.0.1.event; at = clock P }) else None) (root_ports S) o g.2 in
      let c = chosen_true (enters S P f.0.0 (outward f.0.1) g.0.1) (Some (record { no = record { position = length P; place = g.0.0 }; chan = f.0.0; event = g.0.1.event; at = clock P })) o f.2 in
      let n = numbered 0 (offers P e) g.0 g.1 in
      subst (λ z. IsTyped z.event) (Some-injective c.1) (h g.0.1 (got_in (offers P e) n.0 g.0.1 n.2))

  pub taken_typed : (P : History) (c : ℕ) (item : Item) → AreTyped P → next S P c ≡ Some item → IsItemTyped item
  unfolding waiting
  taken_typed P c (Control k) h e = tt
  taken_typed P c (Arrival x d n port side event back) h e =
      let m = first_in (waiting S P x d) (record { no = n; event = event; back = back }) (first_waits S P c x d n port side event back e) in
      h.events x d (record { no = n; event = event; back = back }) (in_filter (λ p. not (is_among S (received S P x d) p)) (entered S P x d) (record { no = n; event = event; back = back }) m).0

  pub head_or : (w c v e : ℕ) (item i : Item) (P : History) → IsIn (Took w c item) (Took v e i ∷ P) → (item ≡ i) ⊎ IsIn (Took w c item) P
  head_or w c v e item i P h = elim (in_cons (Took w c item) (Took v e i) P h) [ inl q ↦ inl cc | inr m ↦ inr m ]

  pub later_did : (P : History) (w c v d took : ℕ) (o : Outcome) (to : Option ℕ) (places : List ℕ) (item : Item) → IsIn (Took w c item) (Did v d took o to places ∷ P) → IsIn (Took w c item) P
  later_did P w c v d took o to places item h = elim (in_cons (Took w c item) (Did v d took o to places) P h) [ inl q ↦ absurd cc | inr m ↦ m ]

  pub later_moved : (P : History) (w c v t : ℕ) (rs : List Release) (item : Item) → IsIn (Took w c item) (Moved v t rs ∷ P) → IsIn (Took w c item) P
  later_moved P w c v t rs item h = elim (in_cons (Took w c item) (Moved v t rs) P h) [ inl q ↦ absurd cc | inr m ↦ m ]

  pub typed : (Z : Plan) → IsDeclared S → PlanFits S Z → (P : History) → IsLegal S Z P → AreTyped P
  unfolding IsLegal entered outgoing
  typed Z D F [] l = record { items = λ w c item m. elim m [ ]; events = λ x d q m. elim m [ ]; outgoing = λ o m. elim m [ ] }
  typed Z D F (Took v e i ∷ P) l =
      let h = typed Z D F P l.0 in
      record {
        items = λ w c item m. elim (head_or w c v e item i P m) [ inl q ↦ subst IsItemTyped (sym q) (taken_typed P e i h l.1.next) | inr k ↦ h.items w c item k ];
        events = h.events;
        outgoing = h.outgoing;
      }
  typed Z D F (Did v d took o to places ∷ P) l =
      let h = typed Z D F P l.0 in
      let off = all_offers Z D F P (Did v d took o to places) h l in
      record {
        items = λ w c item m. h.items w c item (later_did P w c v d took o to places item m);
        events = λ x f q m. elim (in_append q (entered S P x f) (entering S P (Did v d took o to places) x f) m) [ inl a ↦ h.events x f q a | inr a ↦ entering_typed P (Did v d took o to places) x f q off a ];
        outgoing = λ q m. elim (in_append q (outgoing S P) (outgoing_of S P (Did v d took o to places)) m) [ inl a ↦ h.outgoing q a | inr a ↦ outgoing_typed P (Did v d took o to places) q off a ];
      }
  typed Z D F (Moved v t rs ∷ P) l =
      let h = typed Z D F P l.0 in
      let off = all_offers Z D F P (Moved v t rs) h l in
      record {
        items = λ w c item m. h.items w c item (later_moved P w c v t rs item m);
        events = λ x f q m. elim (in_append q (entered S P x f) (entering S P (Moved v t rs) x f) m) [ inl a ↦ h.events x f q a | inr a ↦ entering_typed P (Moved v t rs) x f q off a ];
        outgoing = λ q m. elim (in_append q (outgoing S P) (outgoing_of S P (Moved v t rs)) m) [ inl a ↦ h.outgoing q a | inr a ↦ outgoing_typed P (Moved v t rs) q off a ];
      }
