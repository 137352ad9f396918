-- One effect of a handling after another, in the state.
use Rattle.std.proofs.Common.{◌≡◌, ℕ, ◌+◌, ◌<◌, true, false, refl, sym, ap, ◌∙◌, subst, List, [], ◌∷◌, ◌++◌, if◌then◌else◌, ◌==◌, length, map, Option, Some, None, arith}
use Rattle.std.specs.Prelude.{is_some, reverse, slice_get}
use Rattle.std.specs.Option.{option_map_or}
use Rattle.std.proofs.lemmas.List.{append_assoc, length-append, length-map, map-append, reverse-append}
use Rattle.std.proofs.lemmas.Grind.{flat_map-append}
use Rattle.std.proofs.lemmas.Bool.{eqb-true}
use Rattle.kom_base.specs.declared.numbers.Dir.TheVariants.{Plus, Minus}
use Rattle.kom_lang.specs.Declarations.{Declarations, kind_of}
use Rattle.kom_lang.specs.declared.body.Birth.{Birth}
use Rattle.kom_lang.specs.declared.body.Effect.{Effect}
use Rattle.kom_lang.specs.declared.body.Effect.TheVariants as effect
use Rattle.kom_lang.specs.declared.kind.Place.{Place}
use Rattle.kom_system.specs.WellFormed.{IsDeclared}
use Rattle.kom_record.specs.declared.item.Item.{Item}
use Rattle.kom_record.specs.declared.entry.Outcome.TheVariants as outcome
use Rattle.kom_record.specs.declared.entry.Entry.TheVariants.{Did}
use Rattle.kom_record.specs.Entries.{History, Act, acts, acts_for}
use Rattle.kom_record.specs.Instances.{alive, born, occupant}
use Rattle.kom_record.specs.Bodies.{nearest}
use Rattle.kom_record.specs.Channels.{Own, channel_alive, channel_held, channels, half_of, held, is_living, place, wire_held}
use Rattle.kom_record.specs.Legal.{IsLegal}
use Rattle.kom_laws.proofs.ListFacts.{got_at}
use Rattle.kom_laws.proofs.InstanceLaws.{alive_born, instance_stays}
use Rattle.kom_agree.specs.Effects.{IsMet}
use Rattle.kom_agree.proofs.Records.{good, handled}
use Rattle.kom_handlings.proofs.Turns.{effects_come_in_turn}
use Rattle.kom_lives.specs.Living.{FindsEmpty, StaysAlive}
use Rattle.kom_lives.proofs.Lives.{both, handler_lives}
use Rattle.kom_numbers.specs.Numbering.{count_of, is_pair, total, wire_at}
use Rattle.kom_refine.specs.Points.{Point, acts_at, act_of, before_effects_of, node_of, with_effects, StandsAt}
use Rattle.kom_refine.specs.States.{Link}
use Rattle.kom_refine.specs.Within.{IsWithin}
use Rattle.kom_refine.proofs.OneByOne.{handlings_are_within, handlings_go_on}
use Rattle.kom_state.specs.Facts.{HoldsTogether}
use Rattle.kom_state.specs.Laws.{AreNumbered}
use Rattle.kom_state.specs.Parts.{Parts, state_of}
use Rattle.kom_state.proofs.Numbered.{channels_are_numbered}
use Rattle.kom_births.specs.declared.seed.Seed.{Seed}
use Rattle.kom_births.specs.Laws.{news_of, seeds_for}
use Rattle.kom_births.specs.Seeds.{links_of}
use Rattle.kom_births.specs.Sowing.{HasRooms, MaySow}
use Rattle.kom_births.proofs.Created.{creations_are_sown}
use Rattle.kom_births.proofs.Shared.{rooms_are_shared}
use Rattle.kom_nursery.specs.Nurseries.{all_of, broods_of}
use Rattle.kom_puts.specs.Puts.{HasRoomFor, put_in}
use Rattle.kom_changes.specs.Ends.{HasChannel, is_held}
use Rattle.kom_changes.specs.Relinks.{IsWireHeld}
use Rattle.kom_changes.specs.Sown.{IsCreate, MaySowFirst}
use Rattle.kom_changes.proofs.Created.{ends_are_at_created, own_channel}
use Rattle.kom_changes.proofs.Others.{others_are_kept}
use Rattle.kom_doing.specs.Effects.{IsDoable, IsDone, MayDestroy, MayPlugAt}
use Rattle.kom_doing.specs.Laws.{EffectsGoOn, EffectsMayBeDone, Ending, HasRoomToDo, IsAmid, MayGoOn}
use Rattle.kom_doing.proofs.Cases.{half_same}

stays_first : (S : Declarations) (done : List Act) (c : ℕ) (item : Item) (es : List Effect) → StaysAlive S done c item es → alive S done c ≡ true
stays_first S done c item [] h = h
stays_first S done c item (e ∷ es) h = h.0

-- one effect more stands first
next_acts : (c : ℕ) (item : Item) (before : List Effect) (e : Effect) (done : List Act) → act_of c item e ∷ (acts_for c (Some item) before ++ done) ≡ acts_for c (Some item) (before ++ e ∷ []) ++ done
next_acts c item before e done =
    ap (λ l. l ++ done)
    (sym (reverse-append (map (act_of c item) before) (act_of c item e ∷ []))
    ∙ ap reverse (sym (map-append (act_of c item) before (e ∷ []))))

module _ (S : Declarations) (c : ℕ) (item : Item) (told : Option (ℕ × ℕ)) (before rest : List Effect) (e : Effect) (x : Ending) (broods : List (List Seed)) (v : Parts)
    (D : IsDeclared S) (amid : IsAmid S c item told before (e ∷ rest) x broods v) where
  abbrev pub P : History
  P = x.before

  abbrev pub all : List Effect
  all = before ++ e ∷ rest

  abbrev pub p : Point
  p = with_effects S (before_effects_of S P x.worker c x.took x.body all x.to x.places) c item before

  abbrev done : List Act
  done = acts_for c (Some item) before ++ acts P

  legal : IsLegal S x.plan P
  unfolding IsLegal
  legal = amid.legal.0

  c_lives : alive S (acts P) c ≡ true
  c_lives = stays_first S (acts P) c item all (handler_lives S x.plan P x.worker c x.took x.body all x.to x.places item amid.legal)

  c_born : c < length (born S (acts P))
  c_born = alive_born S (acts P) c c_lives

  pub within : IsWithin S P c item before p
  within = handlings_are_within S x.plan P x.worker c x.took item x.body all x.to x.places before legal c_born

  turn : (alive S done c ≡ true) × IsMet S done c x.body.kind item e
  turn = let t = effects_come_in_turn S x.plan P x.worker c x.took item x.body all before e rest x.to x.places D amid.legal amid.taken refl in (t.lives, t.met)

  pub lives : alive S (acts_at p) c ≡ true
  lives = ap (λ a. alive S a c) within.acts_are ∙ turn.0

  met : IsMet S (acts_at p) c x.body.kind item e
  met = subst (λ a. IsMet S a c x.body.kind item e) (sym within.acts_are) turn.1

  finds_empty : (e : Effect) → IsMet S (acts_at p) c x.body.kind item e → FindsEmpty S (acts_at p) c e
  finds_empty (effect.Create slot kind birth) m = m.empty
  finds_empty (effect.Trigger port event) m = tt
  finds_empty (effect.Answer event) m = tt
  finds_empty (effect.Start s) m = tt
  finds_empty (effect.Stop s) m = tt
  finds_empty (effect.Dump s) m = tt
  finds_empty (effect.Destroy s) m = tt
  finds_empty (effect.Hold k) m = tt
  finds_empty (effect.Resume k) m = tt
  finds_empty (effect.Unplug k f) m = tt
  finds_empty (effect.Plug k f q) m = tt
  finds_empty effect.Escalate m = tt

  pub broods_at : broods ≡ broods_of S (acts_at p) c item (e ∷ rest)
  broods_at = amid.broods_are ∙ ap (λ a. broods_of S a c item (e ∷ rest)) (sym within.acts_are)

  pub is_create : (left : List (List Seed)) (w : Parts) → IsDone S c item told e broods left v w → IsCreate S p c item e rest left v w
  is_create left w d = d p rest amid.numbers amid.stands within.fresh.by_created lives (finds_empty e met) (amid.told_is ∙ ap (λ H. nearest S H c) (sym within.record_is)) broods_at

  pub go_on : (left : List (List Seed)) (w : Parts) → IsDone S c item told e broods left v w → IsAmid S c item told (before ++ e ∷ []) rest x left w
  go_on left w d =
      let r = is_create left w d in
      let same = append_assoc before (e ∷ []) rest in
      record {
        legal = subst (λ es. IsLegal S x.plan (Did x.worker c x.took (outcome.Done x.body es) x.to x.places ∷ P)) (sym same) amid.legal;
        taken = amid.taken;
        stands = subst (λ es. StandsAt S (with_effects S (before_effects_of S P x.worker c x.took x.body es x.to x.places) c item (before ++ e ∷ [])) (state_of w)) (sym same)
            (handlings_go_on S x.plan P x.worker c x.took item x.body all x.to x.places before e (state_of v) (state_of w) legal c_born r.step amid.stands);
        numbers = r.numbers;
        broods_are = r.left_is ∙ ap (λ a. broods_of S (act_of c item e ∷ a) c item rest) within.acts_are ∙ ap (λ a. broods_of S a c item rest) (next_acts c item before e (acts P));
        told_is = amid.told_is;
      }

  -- ---- what holds where it comes

  module _ (together : HoldsTogether v) (bound : ℕ) (room : HasRoomToDo c item told e broods bound v) where
    living : (state_of v).living c ≡ true
    living = amid.stands.living c ∙ lives

    numbered : AreNumbered S (acts_at p) v
    numbered = channels_are_numbered S (acts_at p) v amid.numbers amid.stands.nodes

    -- the body is of the type of the instance
    declared : (k : ℕ) → k < length (kind_of S x.body.kind).channels → k < count_of v.numbers c
    unfolding IsLegal
    declared k l =
        let i = got_at (born S (acts P)) c c_born in
        let kept = handled S x.plan D P x.worker c x.took x.body all x.to x.places (good S x.plan D P legal) amid.legal.1 i.0 i.1 in
        let here : slice_get (born S (acts_at p)) c ≡ Some i.0 = ap (λ a. slice_get (born S a) c) within.acts_are ∙ instance_stays S (acts_for c (Some item) before) (acts P) c c_born ∙ i.1 in
        let many = numbered.widths c i.0 here in
        let same = ap (λ z. length (kind_of S z).channels) kept.kind in
        omega (arith, l, many, same)

    has_channel : (k : ℕ) → k < length (kind_of S x.body.kind).channels → HasChannel v c k
    has_channel k l = record { living = living; declared = declared k l }

    is_wire_held : (k : ℕ) → wire_held S (acts_at p) c k ≡ true → IsWireHeld v c k
    unfolding is_living held
    is_wire_held k h y w = at (wire_at v.numbers y) refl w
      where
        here : (q : ℕ × ℕ) → wire_at v.numbers y ≡ Some q → is_pair c k q ≡ true → slice_get (channels S (acts_at p)) y ≡ Some (Own c k)
        here q a t =
            let b = both (c == q.0) (k == q.1) t in
            numbered.channel y ∙ own_channel v.numbers y q.0 q.1 a ∙ (λ i. Some (Own (sym (eqb-true c q.0 b.0) i) (sym (eqb-true k q.1 b.1) i)))

        at : (o : Option (ℕ × ℕ)) → wire_at v.numbers y ≡ o → option_map_or (is_pair c k) o false ≡ true → is_held (state_of v) y ≡ true
        at None a t = absurd cc
        at (Some q) a t =
            let chan = here q a t in
            let there : is_living S (acts_at p) y ≡ true = ap (λ o. option_map_or (channel_alive S (acts_at p)) o false) chan ∙ lives in
            ap (λ o. option_map_or (λ (l : Link). l.held) o false) (amid.stands.links y)
            ∙ ap (λ b. option_map_or (λ (l : Link). l.held) (if b then Some (record { plus = place S (acts_at p) y Plus; minus = place S (acts_at p) y Minus; held = held S (acts_at p) y }) else None) false) there
            ∙ ap (λ o. option_map_or (channel_held S (acts_at p)) o false) chan ∙ h

    may_sow : (slot kind : ℕ) (birth : Birth) → occupant S (acts_at p) c slot ≡ None → broods ≡ broods_of S (acts_at p) c item (effect.Create slot kind birth ∷ rest) → MaySowFirst S broods bound v
    may_sow slot kind birth empty is =
        let tree = seeds_for S (length (born S (acts_at p))) (news_of S (acts_at p) c slot kind birth) in
        let later = broods_of S (act_of c item (effect.Create slot kind birth) ∷ acts_at p) c item rest in
        let long : length (state_of v).nodes ≡ length (born S (acts_at p)) = ap length amid.stands.nodes ∙ length-map (born S (acts_at p)) node_of in
        let k = creations_are_sown S p c item slot kind birth v amid.stands together within.fresh.by_created lives empty in
        let split : all_of broods ≡ tree ++ all_of later = ap all_of is in
        let few : length (all_of broods) ≡ length tree + length (all_of later) = ap length split ∙ length-append tree (all_of later) in
        let links : length (links_of (all_of broods)) ≡ length (links_of tree) + length (links_of (all_of later)) =
        ap (λ s. length (links_of s)) split ∙ ap length (flat_map-append (λ (s : Seed). s.links) tree (all_of later)) ∙ length-append (links_of tree) (links_of (all_of later))
        in
        record {
          brood = tree;
          rest = later;
          first_is = is;
          may = subst (λ n. MaySow S n (total v.numbers) tree (state_of v)) (sym long) (subst (λ n. MaySow S (length (born S (acts_at p))) n tree (state_of v)) numbered.counted k.may);
          few = let a = room.few in omega (arith, a, few);
          few_channels = let a = room.few_channels in omega (arith, a, links);
          room = (rooms_are_shared tree (all_of later) (length (state_of v).nodes) (total v.numbers) v (subst (λ s. HasRooms s (length (state_of v).nodes) (total v.numbers) v) split room.broods_fit)).first;
          marks = let a = room.marks in omega (arith, a, few);
        }

    may_plug : (k : ℕ) (q : Place) → k < length (kind_of S x.body.kind).channels → wire_held S (acts_at p) c k ≡ true → is_some (half_of S (acts_at p) c q) ≡ true → MayPlugAt v c k q
    may_plug k q l h half = record {
      channel = record { channel = has_channel k l; held = is_wire_held k h };
      half = ap is_some (half_same S c item told p (state_of v) q amid.stands lives) ∙ half;
    }

    may_destroy : MayDestroy v c
    may_destroy =
        let k = others_are_kept S x.plan P x.worker c x.took item x.body all before (e ∷ rest) x.to x.places v D amid.legal amid.taken refl amid.stands amid.numbers in
        record { ends = k.ends; children = k.children }

    by_case : (f : Effect) → IsMet S (acts_at p) c x.body.kind item f → broods ≡ broods_of S (acts_at p) c item (f ∷ rest) → HasRoomFor 1 (put_in (state_of v) c item told f) v → IsDoable S c item told f broods bound v
    by_case (effect.Create slot kind birth) m is r = may_sow slot kind birth m.empty is
    by_case (effect.Destroy s) m is r = may_destroy
    by_case (effect.Hold k) m is r = has_channel k m
    by_case (effect.Resume k) m is r = has_channel k m.channel_is
    by_case (effect.Unplug k f) m is r = record { channel = has_channel k m.channel_is; held = is_wire_held k m.held }
    by_case (effect.Plug k f q) m is r = may_plug k q m.channel_is m.held m.half
    by_case (effect.Trigger port event) m is r = r
    by_case (effect.Answer event) m is r = r
    by_case (effect.Start s) m is r = r
    by_case (effect.Stop s) m is r = r
    by_case (effect.Dump s) m is r = r
    by_case effect.Escalate m is r = r

    pub may_go_on : MayGoOn S c item told e broods bound v
    may_go_on = record {
      living = living;
      ends = ends_are_at_created S p (state_of v) amid.stands within.fresh.by_created;
      may = by_case e met broods_at room.controls;
    }

pub effects_go_on : EffectsGoOn
effects_go_on S c item told before rest e x broods left v w D amid d = go_on S c item told before rest e x broods v D amid left w d

pub effects_may_be_done : EffectsMayBeDone
effects_may_be_done S c item told before rest e x broods bound v D together amid room = may_go_on S c item told before rest e x broods v D amid together bound room
