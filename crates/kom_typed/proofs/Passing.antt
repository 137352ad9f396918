-- All events of a legal record pass the channels that they entered.
use Rattle.std.proofs.Common.{◌≡◌, ℕ, zero, suc, ◌+◌, ◌<◌, Bool, true, false, if◌then◌else◌, not, ◌&&◌, ◌||◌, ◌==◌, refl, sym, ap, ◌∙◌, subst, List, [], ◌∷◌, ◌++◌, length, map, filter, Option, Some, None, inl, inr, arith, eq-eqb}
use Rattle.std.specs.Prelude.{slice_get, take}
use Rattle.std.specs.List.{enumerate_from, filter_map, flat_map, list_any}
use Rattle.std.specs.Option.{option_and_then, option_map, option_map_or}
use Rattle.std.proofs.lemmas.Bool.{eqb-true}
use Rattle.std.proofs.lemmas.Option.{slice_get_within}
use Rattle.kom_base.specs.declared.numbers.Dir.{Dir}
use Rattle.kom_base.specs.declared.numbers.Dir.TheVariants.{Plus, Minus}
use Rattle.kom_base.specs.declared.numbers.Half.{Half}
use Rattle.kom_base.specs.declared.numbers.Side.{Side}
use Rattle.kom_base.specs.declared.numbers.Side.TheVariants.{Outside, Inside}
use Rattle.kom_base.specs.declared.values.Event.{Event}
use Rattle.kom_base.specs.Lists.{if_so}
use Rattle.kom_base.specs.Numbers.{agree, is_plus, opposite, other_side, same_half}
use Rattle.kom_events.specs.declared.event_types.EventRow.{EventRow}
use Rattle.kom_events.specs.declared.port_types.PortRow.{PortRow}
use Rattle.kom_events.specs.Kin.{ancestors, kin}
use Rattle.kom_events.specs.Ports.{listed, lists, passes}
use Rattle.kom_lang.specs.Declarations.{Declarations, kind_of}
use Rattle.kom_lang.specs.declared.kind.PortDecl.{PortDecl}
use Rattle.kom_lang.specs.declared.body.Body.{Body}
use Rattle.kom_lang.specs.declared.body.Effect.{Effect}
use Rattle.kom_lang.specs.declared.body.Effect.TheVariants as effect
use Rattle.kom_system.specs.Fitting.{built_in_ports}
use Rattle.kom_system.specs.Statements.{event_leaves, outwards}
use Rattle.kom_system.specs.WellFormed.{IsDeclared}
use Rattle.kom_record.specs.declared.plan.Plan.{Plan}
use Rattle.kom_record.specs.declared.plan.Raise.{Raise}
use Rattle.kom_record.specs.declared.item.Back.TheVariants.{Plain}
use Rattle.kom_record.specs.declared.item.Item.{Item}
use Rattle.kom_record.specs.declared.item.Item.TheVariants.{Control, Arrival}
use Rattle.kom_record.specs.declared.entry.Outcome.TheVariants as outcome
use Rattle.kom_record.specs.declared.entry.Release.{Release}
use Rattle.kom_record.specs.declared.entry.Entry.{Entry}
use Rattle.kom_record.specs.declared.entry.Entry.TheVariants.{Took, Did, Moved}
use Rattle.kom_record.specs.Entries.{History, Act, acts, acts_of, entry_at, in_hand, item_at, item_of}
use Rattle.kom_record.specs.Instances.{Instance, born}
use Rattle.kom_record.specs.Channels.{Channel, Environment, channels, channels_of, comes_in, destination, is_outer, place, source}
use Rattle.kom_record.specs.Legal.{IsLegal, MayDo}
use Rattle.kom_record.specs.Offers.{Origin, AtHalf, FromOutside, Offer, offers, offers_for, offer_of, relayed, relayed_back}
use Rattle.kom_record.specs.Plans.{PlanFits, comes_in_at, inward}
use Rattle.kom_record.specs.Queues.{Envelope, entered, entering, enters, is_among, received, starts_at, waiting}
use Rattle.kom_record.specs.Ready.{next}
use Rattle.kom_record.specs.Time.{Outgoing, Scheduled, batch, clock, is_cancelled, is_message, is_network, is_set_timer, is_still_due, is_timer, is_unraised, message, outgoing, outgoing_by, outgoing_of, outward, pending, root_ports, scheduled, timer}
use Rattle.kom_laws.proofs.Members.{IsIn, here, there, Some-injective}
use Rattle.kom_laws.proofs.Rising.{in_append}
use Rattle.kom_laws.proofs.ListFacts.{got_in, in_cons, in_flat, numbered}
use Rattle.kom_laws.proofs.ActLaws.{in_filter, job_entry}
use Rattle.kom_laws.proofs.Handlings.{found_in}
use Rattle.kom_laws.proofs.NextItem.{first_waits}
use Rattle.kom_agree.specs.Effects.{IsMet, may_leave}
use Rattle.kom_agree.proofs.Born.{both, some_of}
use Rattle.kom_agree.proofs.Reacting.{made_from}
use Rattle.kom_agree.proofs.Records.{body_good, good, handled}
use Rattle.kom_typed.specs.Types.{PassesChannel, port_type, port_type_of}
use Rattle.kom_typed.proofs.Ends.{chosen_true, from_map}
use Rattle.kom_typed.proofs.Events.{entry_in, first_in, in_all, in_so, later_did, later_moved, met_in}
use Rattle.kom_typed.proofs.Jobs.{half_of_next}
use Rattle.kom_typed.proofs.Taken.{HalfPasses, away, goes_on, half_is, half_stays, passes_stay, passes_there, taken, taken_away}
use Rattle.kom_typed.proofs.Types.{third_at}

outwards_is : (p : PortDecl) → outwards p.provided ≡ away p Outside
outwards_is p = go p.provided
  where
    go : (b : Bool) → outwards b ≡ (if agree b true then Plus else Minus)
    go true = refl
    go false = refl

inward_is : (p : PortDecl) (d : Dir) → not (agree p.provided (is_plus d)) ≡ true → d ≡ inward p
inward_is p d e = go p.provided d e
  where
    go : (b : Bool) (d : Dir) → not (agree b (is_plus d)) ≡ true → d ≡ (if b then Minus else Plus)
    go true Plus e = absurd cc
    go true Minus e = refl
    go false Plus e = refl
    go false Minus e = absurd cc

or_true : (b : Bool) → (b || true) ≡ true
or_true true = refl
or_true false = refl

-- a declared type is kin of itself
own_kin : (rows : List EventRow) (a : ℕ) (row : EventRow) → slice_get rows a ≡ Some row → kin rows a a ≡ true
own_kin rows a row e = go (length rows) (slice_get_within rows a row e)
  where
    go : (n : ℕ) → a < n → list_any (λ c. c == a) (ancestors n rows a) ≡ true
    go zero h = absurd (omega (arith, h))
    go (suc n) h =
        ap (λ o. list_any (λ c. c == a) (option_map_or (λ row. a ∷ option_map_or (ancestors n rows) row.parent []) o [])) e
        ∙ ap (λ b. b || list_any (λ c. c == a) (option_map_or (ancestors n rows) row.parent [])) (eq-eqb a a refl)

port_rows : (rows : List PortRow) → take 2 rows ≡ built_in_ports → (slice_get rows 0 ≡ Some (record { plus = 2 ∷ []; minus = 0 ∷ 1 ∷ [] })) × (slice_get rows 1 ≡ Some (record { plus = 3 ∷ []; minus = 3 ∷ [] }))
port_rows [] e = absurd cc
port_rows (a ∷ []) e = absurd cc
port_rows (a ∷ b ∷ rows) e = (ap (λ l. slice_get l 0) e, ap (λ l. slice_get l 1) e)

item_by : (P : History) (n : ℕ) (e : Entry) (i : Item) → entry_at P n ≡ Some e → item_of e ≡ Some i → item_at P n ≡ Some i
unfolding item_at
item_by P n e i q r = ap (option_and_then item_of) q ∙ r

module _ (S : Declarations) where
  -- events of the type come in at a port of the root, or go out by it
  abbrev ComesIn : ℕ → ℕ → Type 0
  ComesIn y kind = (p : PortDecl) × (slice_get (kind_of S S.root.kind).ports y ≡ Some p) × (passes S.events S.ports p.port (inward p) kind ≡ true)

  abbrev pub GoesOut : ℕ → ℕ → Type 0
  GoesOut y kind = (p : PortDecl) × (slice_get (kind_of S S.root.kind).ports y ≡ Some p) × (passes S.events S.ports p.port (outward p) kind ≡ true)

  abbrev OriginPasses : List Act → Origin → ℕ → Type 0
  OriginPasses done (AtHalf h) kind = HalfPasses S done h kind
  OriginPasses done (FromOutside y) kind = ComesIn y kind

  abbrev relay_half : ℕ → ℕ → Side → Half
  relay_half c port side = record { comp = c; port = port; side = other_side side }

  abbrev ItemPasses : List Act → ℕ → Item → Type 0
  ItemPasses done c (Control k) = Unit {0}
  ItemPasses done c (Arrival x d n port side event back) = HalfPasses S done (relay_half c port side) event.kind

  pub record ArePassing (P : History) : Type 0 where
    pub items : (w c : ℕ) (item : Item) → IsIn (Took w c item) P → ItemPasses (acts P) c item
    pub events : (x : ℕ) (d : Dir) (q : Envelope) → IsIn q (entered S P x d) → PassesChannel S (acts P) x d q.event.kind
    pub outgoing : (o : Outgoing) → IsIn o (outgoing S P) → GoesOut o.chan o.event.kind

  item_stays : (mine done : List Act) (c : ℕ) (item : Item) → ItemPasses done c item → ItemPasses (mine ++ done) c item
  item_stays mine done c (Control k) h = tt
  item_stays mine done c (Arrival x d n port side event back) h = half_stays S mine done (relay_half c port side) event.kind h

  -- ---- a Did

  leaves : (done : List Act) (c port : ℕ) (i : Instance) (event : Event) → slice_get (born S done) c ≡ Some i → may_leave S i.kind port event ≡ true → HalfPasses S done (record { comp = c; port = port; side = Outside }) event.kind
  leaves done c port i event at h =
      let r = some_of (event_leaves S event.kind (length event.values)) (slice_get (kind_of S i.kind).ports port) h in
      record { instance = i; at = at; port = r.0; port_is = r.1; passes = ap (λ d. passes S.events S.ports r.0.port d event.kind) (sym (outwards_is r.0)) ∙ (both _ _ r.2).0 }

  answer_passes : (done at : List Act) (c took : ℕ) (i : Instance) (item : Item) (event : Event) (o : Offer) → slice_get (born S done) c ≡ Some i → IsMet S at c i.kind item (effect.Answer event) → offer_of c took item (effect.Answer event) ≡ Some o
      → OriginPasses done o.origin o.event.kind
  answer_passes done at c took i (Control k) event o b m e = absurd cc
  answer_passes done at c took i (Arrival x d n port Outside arrived back) event o b m e = subst (λ z. OriginPasses done z.origin z.event.kind) (Some-injective e) (leaves done c port i event b m)
  answer_passes done at c took i (Arrival x d n port Inside arrived back) event o b m e = absurd m

  effect_passes : (done at : List Act) (c took : ℕ) (i : Instance) (item : Item) (e : Effect) (o : Offer) → slice_get (born S done) c ≡ Some i → IsMet S at c i.kind item e → offer_of c took item e ≡ Some o → OriginPasses done o.origin o.event.kind
  effect_passes done at c took i item (effect.Trigger port event) o b m e = subst (λ z. OriginPasses done z.origin z.event.kind) (Some-injective e) (leaves done c port i event b m)
  effect_passes done at c took i item (effect.Answer event) o b m e = answer_passes done at c took i item event o b m e
  effect_passes done at c took i item (effect.Create s k x) o b m e = absurd cc
  effect_passes done at c took i item (effect.Start s) o b m e = absurd cc
  effect_passes done at c took i item (effect.Stop s) o b m e = absurd cc
  effect_passes done at c took i item (effect.Destroy s) o b m e = absurd cc
  effect_passes done at c took i item (effect.Dump s) o b m e = absurd cc
  effect_passes done at c took i item (effect.Hold k) o b m e = absurd cc
  effect_passes done at c took i item (effect.Resume k) o b m e = absurd cc
  effect_passes done at c took i item (effect.Unplug k f) o b m e = absurd cc
  effect_passes done at c took i item (effect.Plug k f p) o b m e = absurd cc
  effect_passes done at c took i item effect.Escalate o b m e = absurd cc

  relay_passes : (P : History) (c : ℕ) (item : Item) (o : Offer) → ItemPasses (acts P) c item → IsIn o (relayed P c item) → OriginPasses (acts P) o.origin o.event.kind
  relay_passes P c (Control k) o t h = elim h [ ]
  relay_passes P c (Arrival x d n port side event back) o t h =
      elim (in_cons o (record { origin = AtHalf (record { comp = c; port = port; side = other_side side }); event = event; back = relayed_back P back }) [] h) [
        | inl e ↦ subst (λ z. OriginPasses (acts P) z.origin z.event.kind) (sym e) t
        | inr m ↦ elim m [ ]
      ]

  did_passes : (Z : Plan) → IsDeclared S → (P : History) (w c took : ℕ) (body : Body) (es : List Effect) (to : Option ℕ) (places : List ℕ) → ArePassing P → IsLegal S Z P → MayDo S Z P w c took (outcome.Done body es) to places
      → (o : Offer) → IsIn o (offers_for P c took es (item_at P took)) → OriginPasses (acts P) o.origin o.event.kind
  did_passes Z D P w c took body es to places h l t o m =
      let f = found_in (λ j. j.took == took) (in_hand P) t.job t.in_hand in
      let entry = job_entry P t.job f.0 in
      let same = eqb-true t.job.took took f.1 in
      let taken_in : IsIn (Took t.job.w c t.job.item) P = subst (λ z. IsIn (Took t.job.w z t.job.item) P) t.component (entry_in P t.job.took (Took t.job.w t.job.c t.job.item) entry.1) in
      let b = body_good S Z D P c t.body l t.body_is in
      let k = handled S Z D P w c took body es to places (good S Z D P l) t b.0 b.1 in
      let item : item_at P took ≡ Some t.job.item = ap (item_at P) (sym same) ∙ item_by P t.job.took (Took t.job.w t.job.c t.job.item) t.job.item entry.1 refl in
      elim (in_append o (relayed P c t.job.item) (filter_map (offer_of c took t.job.item) es) (subst (λ i. IsIn o (offers_for P c took es i)) item m)) [
        | inl x ↦ relay_passes P c t.job.item o (h.items t.job.w c t.job.item taken_in) x
        | inr x ↦
            let r = made_from (offer_of c took t.job.item) es o x in
            let q = met_in S (acts P) c b.0.kind t.job.item es r.0 k.met r.1 in
            effect_passes (acts P) q.0 c took b.0 t.job.item r.0 o b.1 q.1 r.2
      ]

  -- ---- a Moved

  raise_passes : (Z : Plan) → PlanFits S Z → (r : Raise) → IsIn r Z.raises → ComesIn r.chan r.event.kind
  unfolding comes_in_at
  raise_passes Z F r m =
      let a = both _ _ (in_all (λ r. comes_in_at S r.chan r.event) r Z.raises F.come_in m) in
      some_of (λ p. passes S.events S.ports p.port (inward p) r.event.kind) (slice_get (kind_of S S.root.kind).ports r.chan) a.0

  required : (p : PortDecl) (n : ℕ) → (not p.provided && p.port == n) ≡ true → (p.provided ≡ false) × (p.port ≡ n)
  required p n e = let a = both _ _ e in (not_true p.provided a.0, eqb-true p.port n a.1)
    where
      not_true : (b : Bool) → not b ≡ true → b ≡ false
      not_true true e = absurd cc
      not_true false e = refl

  -- a Timeout comes in at a served Timer port
  timer_passes : IsDeclared S → (o : Outgoing) → is_set_timer S o ≡ true → ComesIn o.chan 2
  unfolding is_set_timer
  timer_passes D o e =
      let r = some_of is_timer (slice_get (kind_of S S.root.kind).ports o.chan) (both _ _ e).0 in
      let q = required r.0 0 r.2 in
      let row = (port_rows S.ports D.built_in_ports_first).0 in
      let self = own_kin S.events 2 (record { parent = None; own = 1 }) (third_at S S.events D.built_in_events_first) in (
        r.0,
        r.1,
        ap (λ t. passes S.events S.ports t (inward r.0) 2) q.1
            ∙ ap (λ b. passes S.events S.ports 0 (if b then Minus else Plus) 2) q.0
            ∙ ap (λ o. option_map_or (λ row. lists S.events (listed row Plus) 2) o false) row
            ∙ ap (λ b. b || false) self,
      )

  -- a message comes in where it went out
  message_passes : IsDeclared S → (o : Outgoing) → is_message S o ≡ true → GoesOut o.chan o.event.kind → ComesIn o.chan o.event.kind
  unfolding is_message
  message_passes D o e g =
      let r = some_of is_network (slice_get (kind_of S S.root.kind).ports o.chan) e in
      let same : g.0 ≡ r.0 = Some-injective (sym g.1 ∙ r.1) in
      let q = required r.0 1 r.2 in
      let row = (port_rows S.ports D.built_in_ports_first).1 in
      let out = subst (λ p. passes S.events S.ports p.port (outward p) o.event.kind ≡ true) same g.2 in
      let out2 = sym (ap (λ t. passes S.events S.ports t (outward r.0) o.event.kind) q.1 ∙ ap (λ b. passes S.events S.ports 1 (if b then Plus else Minus) o.event.kind) q.0) ∙ out in
      let out3 = sym (ap (λ o'. option_map_or (λ row. lists S.events (listed row Minus) o.event.kind) o' false) row) ∙ out2 in (
        r.0,
        r.1,
        ap (λ t. passes S.events S.ports t (inward r.0) o.event.kind) q.1
            ∙ ap (λ b. passes S.events S.ports 1 (if b then Minus else Plus) o.event.kind) q.0
            ∙ ap (λ o'. option_map_or (λ row. lists S.events (listed row Plus) o.event.kind) o' false) row ∙ out3,
      )

  scheduled_passes : (Z : Plan) → IsDeclared S → (all os : List Outgoing) (k : ℕ) (s : Scheduled) → ((o : Outgoing) → IsIn o os → GoesOut o.chan o.event.kind) → IsIn s (scheduled S Z all k os) → ComesIn s.release.chan s.release.event.kind
  unfolding scheduled timer message
  scheduled_passes Z D all [] k s h m = elim m [ ]
  scheduled_passes Z D all (o ∷ os) k s h m =
      let rest = scheduled S Z all (if is_message S o then suc k else k) os in
      elim (in_append s (if_so (is_set_timer S o && not (is_cancelled S all o)) (timer S o ∷ [])) (if_so (is_message S o) (message S Z k o ∷ []) ++ rest) m) [
        | inl a ↦
            let t = so_true (is_set_timer S o && not (is_cancelled S all o)) s (timer S o) a in
            subst (λ z. ComesIn z.release.chan z.release.event.kind) (sym t.1) (timer_passes D o (both _ _ t.0).0)
        | inr a ↦ elim (in_append s (if_so (is_message S o) (message S Z k o ∷ [])) rest a) [
          | inl b ↦
              let t = so_true (is_message S o) s (message S Z k o) b in
              subst (λ z. ComesIn z.release.chan z.release.event.kind) (sym t.1) (message_passes D o t.0 (h o here))
          | inr b ↦ scheduled_passes Z D all os (if is_message S o then suc k else k) s (λ p q. h p (there q)) b
        ]
      ]
    where
      so_true : {X : Type 0} (b : Bool) (x y : X) → IsIn x (if_so b (y ∷ [])) → (b ≡ true) × (x ≡ y)
      so_true true x y h = (refl, in_so true x y h)
      so_true false x y h = elim h [ ]

  batch_passes : (Z : Plan) → IsDeclared S → PlanFits S Z → (P : History) → ArePassing P → (t : ℕ) (r : Release) → IsIn r (batch S Z P t) → ComesIn r.chan r.event.kind
  unfolding batch pending
  batch_passes Z D F P h t r m =
      let f = made_from (λ p. if p.0 == t then Some p.1 else None) (pending S Z P) r m in
      let c = chosen_true (f.0.0 == t) (Some f.0.1) r f.2 in
      subst (λ z. ComesIn z.chan z.event.kind) (Some-injective c.1) (go f.0 f.1)
    where
      go : (q : ℕ × Release) → IsIn q (pending S Z P) → ComesIn q.1.chan q.1.event.kind
      go q m =
          elim (in_append q (filter_map {Y = ℕ × Release} (λ r. if is_unraised S P r then Some (r.time, record { chan = r.chan; event = r.event }) else None) Z.raises) (map (λ s. (s.due, s.release)) (filter (is_still_due S P) (scheduled S Z (outgoing S P) 0 (outgoing S P)))) m) [
            | inl a ↦
                let f = made_from (λ r. if is_unraised S P r then Some (r.time, record { chan = r.chan; event = r.event }) else None) Z.raises q a in
                let c = chosen_true (is_unraised S P f.0) (Some (f.0.time, record { chan = f.0.chan; event = f.0.event })) q f.2 in
                subst (λ z. ComesIn z.1.chan z.1.event.kind) (Some-injective c.1) (raise_passes Z F f.0 f.1)
            | inr a ↦
                let f = from_map (λ s. (s.due, s.release)) (filter (is_still_due S P) (scheduled S Z (outgoing S P) 0 (outgoing S P))) q a in
                let g = in_filter (is_still_due S P) (scheduled S Z (outgoing S P) 0 (outgoing S P)) f.0 f.1 in
                subst (λ z. ComesIn z.1.chan z.1.event.kind) f.2 (scheduled_passes Z D (outgoing S P) (outgoing S P) 0 f.0 h.outgoing g.0)
          ]

  all_offers_pass : (Z : Plan) → IsDeclared S → PlanFits S Z → (P : History) (e : Entry) → ArePassing P → IsLegal S Z (e ∷ P) → (o : Offer) → IsIn o (offers P e) → OriginPasses (acts P) o.origin o.event.kind
  unfolding offers IsLegal
  all_offers_pass Z D F P (Took w c item) h l o m = elim m [ ]
  all_offers_pass Z D F P (Did w c took outcome.Void to places) h l o m = elim m [ ]
  all_offers_pass Z D F P (Did w c took (outcome.Fault n) to places) h l o m = elim m [ ]
  all_offers_pass Z D F P (Did w c took (outcome.Done body es) to places) h l o m = did_passes Z D P w c took body es to places h l.0 l.1 o m
  all_offers_pass Z D F P (Moved w t rs) h l o m =
      let f = from_map (λ r. record { origin = FromOutside r.chan; event = r.event; back = Plain }) rs o m in
      subst (λ z. OriginPasses (acts P) z.origin z.event.kind) f.2 (batch_passes Z D F P h t f.0 (subst (IsIn f.0) l.1.all_released f.1))

  -- ---- what enters

  environment_at : (n : ℕ) (ps : List PortDecl) (more : List Channel) (i : ℕ) (p : PortDecl) → slice_get ps i ≡ Some p → slice_get (map (λ q. Environment q.0) (enumerate_from n ps) ++ more) i ≡ Some (Environment (n + i))
  environment_at n [] more i p e = absurd cc
  environment_at n (q ∷ ps) more zero p e = ap (λ m. Some (Environment m)) (let f : n ≡ n + 0 = omega arith in f)
  environment_at n (q ∷ ps) more (suc i) p e = environment_at (n + 1) ps more i p e ∙ ap (λ m. Some (Environment m)) (let f : (n + 1) + i ≡ n + suc i = omega arith in f)

  -- the port type of an environment channel is that of its port
  environment_type : (done : List Act) (x : ℕ) (p : PortDecl) → slice_get (kind_of S S.root.kind).ports x ≡ Some p → port_type_of S done x ≡ Some p.port
  unfolding channels
  environment_type done x p e =
      ap (option_map (port_type S done)) (environment_at 0 (kind_of S S.root.kind).ports (flat_map (channels_of S) (enumerate_from 0 (born S done))) x p e ∙ ap (λ m. Some (Environment m)) (let f : 0 + x ≡ x = omega arith in f))
      ∙ ap (λ o. Some (option_map_or (λ p. p.port) o 0)) e

  origin_enters : (Z : Plan) → IsDeclared S → (P : History) → IsLegal S Z P → (x : ℕ) (d : Dir) (o : Origin) (kind : ℕ) → starts_at S P x d o ≡ true → OriginPasses (acts P) o kind → PassesChannel S (acts P) x d kind
  unfolding starts_at source comes_in is_outer
  origin_enters Z D P l x d (AtHalf h) kind e p =
      let r = some_of (same_half h) (place S (acts P) x d) e in
      passes_there S (acts P) x d h kind (taken S Z D P l x d h (r.1 ∙ ap Some (sym (half_is S h r.0 r.2)))) p
  origin_enters Z D P l x d (FromOutside y) kind e p =
      let a = both _ _ e in
      let same : y ≡ x = eqb-true y x a.0 in
      let port : slice_get (kind_of S S.root.kind).ports x ≡ Some p.0 = ap (slice_get (kind_of S S.root.kind).ports) (sym same) ∙ p.1 in
      let dir : d ≡ inward p.0 = inward_is p.0 d (sym (ap (λ o. option_map_or (λ p. not (agree p.provided (is_plus d))) o false) port) ∙ a.1) in
      (p.0.port, environment_type (acts P) x p.0 port, ap (λ z. passes S.events S.ports p.0.port z kind) dir ∙ p.2)

  enters_passing : (Z : Plan) → IsDeclared S → (P : History) → IsLegal S Z P → (x : ℕ) (d : Dir) (o : Offer) → enters S P x d o ≡ true → OriginPasses (acts P) o.origin o.event.kind → PassesChannel S (acts P) x d o.event.kind
  unfolding enters
  enters_passing Z D P l x d o e p = origin_enters Z D P l x d o.origin o.event.kind (both _ _ (both _ _ e).0).0 p

  entering_passes : (Z : Plan) → IsDeclared S → (P : History) → IsLegal S Z P → (e : Entry) (x : ℕ) (d : Dir) (q : Envelope) → ((o : Offer) → IsIn o (offers P e) → OriginPasses (acts P) o.origin o.event.kind) → IsIn q (entering S P e x d)
      → PassesChannel S (acts P) x d q.event.kind
  unfolding entering
  entering_passes Z D P l e x d q h m =
      let f = made_from (λ q. if enters S P x d q.1 then Some (record { no = record { position = length P; place = q.0 }; event = q.1.event; back = q.1.back }) else None) (enumerate_from 0 (offers P e)) q m in
      let c = chosen_true (enters S P x d f.0.1) (Some (record { no = record { position = length P; place = f.0.0 }; event = f.0.1.event; back = f.0.1.back })) q f.2 in
      let n = numbered 0 (offers P e) f.0 f.1 in
      subst (λ z. PassesChannel S (acts P) x d z.event.kind) (Some-injective c.1) (enters_passing Z D P l x d f.0.1 c.0 (h f.0.1 (got_in (offers P e) n.0 f.0.1 n.2)))

  outgoing_passes : (Z : Plan) → IsDeclared S → (P : History) → IsLegal S Z P → (e : Entry) (o : Outgoing) → ((o : Offer) → IsIn o (offers P e) → OriginPasses (acts P) o.origin o.event.kind) → IsIn o (outgoing_of S P e) → GoesOut o.chan o.event.kind
  unfolding outgoing_of
  outgoing_passes Z D P l e o h m =
      let g = in_flat (outgoing_by S P) (enumerate_from 0 (offers P e)) o m in
      let f = made_from (λ x. if enters S P x.0 (outward x.1) g.0.1 then Some (record { no = record { position = length P; place = g.0.0 }; chan = x.0; event = g.0.1.event; at = clock P }) else None) (root_ports S) o g.2 in
      let c = chosen_true (enters S P f.0.0 (outward f.0.1) g.0.1) (Some (record { no = record { position = length P; place = g.0.0 }; chan = f.0.0; event = g.0.1.event; at = clock P })) o f.2 in
      let n = numbered 0 (offers P e) g.0 g.1 in
      let k = numbered 0 (kind_of S S.root.kind).ports f.0 f.1 in
      let port : slice_get (kind_of S S.root.kind).ports f.0.0 ≡ Some f.0.1 = ap (slice_get (kind_of S S.root.kind).ports) (let z : f.0.0 ≡ k.0 = omega (arith, k.1) in z) ∙ k.2 in
      let p = enters_passing Z D P l f.0.0 (outward f.0.1) g.0.1 c.0 (h g.0.1 (got_in (offers P e) n.0 g.0.1 n.2)) in
      let type : p.0 ≡ f.0.1.port = Some-injective (sym p.1 ∙ environment_type (acts P) f.0.0 f.0.1 port) in
      subst (λ z. GoesOut z.chan z.event.kind) (Some-injective c.1) (f.0.1, port, subst (λ t. passes S.events S.ports t (outward f.0.1) g.0.1.event.kind ≡ true) type p.2)

  -- what a component takes may go on from the other side of its port
  taken_passes : (Z : Plan) → IsDeclared S → (P : History) → IsLegal S Z P → (c : ℕ) (item : Item) → ArePassing P → next S P c ≡ Some item → ItemPasses (acts P) c item
  unfolding waiting destination
  taken_passes Z D P l c (Control k) h e = tt
  taken_passes Z D P l c (Arrival x d n port side event back) h e =
      let m = first_in (waiting S P x d) (record { no = n; event = event; back = back }) (first_waits S P c x d n port side event back e) in
      let q = h.events x d (record { no = n; event = event; back = back }) (in_filter (λ p. not (is_among S (received S P x d) p)) (entered S P x d) (record { no = n; event = event; back = back }) m).0 in
      let r = half_of_next S P c x d n port side event back e in
      let t = taken S Z D P l x (opposite d) r.0 r.1 in
      let same : q.0 ≡ t.type = Some-injective (sym q.1 ∙ t.type_is) in
      let end = taken_away t.type (opposite d) r.0.side t.port t.takes in
      let dir = goes_on t.type d r.0.side t.port t.takes in
      let type : t.port.port ≡ q.0 = end.0 ∙ sym same in
      subst (λ z. HalfPasses S (acts P) (relay_half z port side) event.kind) r.2
      (subst (λ z. HalfPasses S (acts P) (relay_half r.0.comp z side) event.kind) r.3
      (subst (λ z. HalfPasses S (acts P) (relay_half r.0.comp r.0.port z) event.kind) r.4
      (record { instance = t.instance; at = t.at; port = t.port; port_is = t.port_is; passes = ap (λ z. passes S.events S.ports z (away t.port (other_side r.0.side)) event.kind) type ∙ ap (λ z. passes S.events S.ports q.0 z event.kind) dir ∙ q.2 })))

  pub passing : (Z : Plan) → IsDeclared S → PlanFits S Z → (P : History) → IsLegal S Z P → ArePassing P
  unfolding IsLegal entered outgoing acts acts_of
  passing Z D F [] l = record { items = λ w c item m. elim m [ ]; events = λ x d q m. elim m [ ]; outgoing = λ o m. elim m [ ] }
  passing Z D F (Took v e i ∷ P) l =
      let h = passing Z D F P l.0 in
      record {
        items = λ w c item m. elim (in_cons (Took w c item) (Took v e i) P m) [
          | inl q ↦
              let same_c : c ≡ e = cc in
              let same_item : item ≡ i = cc in
              subst (λ z. ItemPasses (acts P) z item) (sym same_c) (subst (ItemPasses (acts P) e) (sym same_item) (taken_passes Z D P l.0 e i h l.1.next))
          | inr k ↦ h.items w c item k
        ];
        events = h.events;
        outgoing = h.outgoing;
      }
  passing Z D F (Did v d took o to places ∷ P) l =
      let h = passing Z D F P l.0 in
      let off = all_offers_pass Z D F P (Did v d took o to places) h l in
      record {
        items = λ w c item m. item_stays (acts_of P (Did v d took o to places)) (acts P) c item (h.items w c item (later_did S P w c v d took o to places item m));
        events = λ x f q m. passes_stay S (acts_of P (Did v d took o to places)) (acts P) x f q.event.kind
            (elim (in_append q (entered S P x f) (entering S P (Did v d took o to places) x f) m) [ inl a ↦ h.events x f q a | inr a ↦ entering_passes Z D P l.0 (Did v d took o to places) x f q off a ]);
        outgoing = λ q m. elim (in_append q (outgoing S P) (outgoing_of S P (Did v d took o to places)) m) [ inl a ↦ h.outgoing q a | inr a ↦ outgoing_passes Z D P l.0 (Did v d took o to places) q off a ];
      }
  passing Z D F (Moved v t rs ∷ P) l =
      let h = passing Z D F P l.0 in
      let off = all_offers_pass Z D F P (Moved v t rs) h l in
      record {
        items = λ w c item m. item_stays (acts_of P (Moved v t rs)) (acts P) c item (h.items w c item (later_moved S P w c v t rs item m));
        events = λ x f q m. passes_stay S (acts_of P (Moved v t rs)) (acts P) x f q.event.kind
            (elim (in_append q (entered S P x f) (entering S P (Moved v t rs) x f) m) [ inl a ↦ h.events x f q a | inr a ↦ entering_passes Z D P l.0 (Moved v t rs) x f q off a ]);
        outgoing = λ q m. elim (in_append q (outgoing S P) (outgoing_of S P (Moved v t rs)) m) [ inl a ↦ h.outgoing q a | inr a ↦ outgoing_passes Z D P l.0 (Moved v t rs) q off a ];
      }
