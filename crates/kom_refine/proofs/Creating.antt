-- A Create: new instances with their first bodies, their Init and their channels.
use Rattle.std.proofs.Common.{◌≡◌, ℕ, ◌+◌, ◌-◌, ◌<◌, ◌≤◌, Bool, true, false, not, ◌==◌, refl, sym, ap, ◌∙◌, List, [], ◌∷◌, ◌++◌, length, map, Option, None, if◌then◌else◌, arith, inl, inr}
use Rattle.std.specs.Prelude.{slice_get, nat_lt}
use Rattle.std.specs.List.{filter_map, flat_map, enumerate_from}
use Rattle.std.specs.Option.{option_map, option_map_or}
use Rattle.std.proofs.lemmas.List.{append-nil, append_assoc, length-append, length-map, map-append}
use Rattle.std.proofs.lemmas.List.FromFn.{length-enumerate_from}
use Rattle.std.proofs.lemmas.Bool.{ltb-true, ltb-false, lt-ltb}
use Rattle.std.proofs.lemmas.Option.{slice_get_past}
use Rattle.kom_base.specs.declared.numbers.Dir.{Dir}
use Rattle.kom_base.specs.declared.numbers.Dir.TheVariants.{Plus, Minus}
use Rattle.kom_base.specs.Numbers.{opposite, agree, is_plus}
use Rattle.kom_base.specs.Lists.{either, if_so}
use Rattle.kom_lang.specs.Declarations.{Declarations, kind_of}
use Rattle.kom_lang.specs.Bodies.{first_body}
use Rattle.kom_lang.specs.declared.body.Body.{Body}
use Rattle.kom_lang.specs.declared.body.Birth.{Birth}
use Rattle.kom_lang.specs.declared.body.Effect.TheVariants as effect
use Rattle.kom_record.specs.Model.{model}
use Rattle.kom_record.specs.declared.item.Control.{Control as ControlItem}
use Rattle.kom_record.specs.declared.item.Item.{Item}
use Rattle.kom_record.specs.Entries.{Act}
use Rattle.kom_record.specs.Instances.{Instance, born, created, alive, occupant, child_among}
use Rattle.kom_record.specs.Channels.{Environment, channels, channels_of, goes_out}
use Rattle.kom_record.specs.Controls.{control_waiting, inits, inits_for}
use Rattle.kom_record.specs.Bodies.{body_after_all, outcome_of}
use Rattle.kom_laws.proofs.ListFacts.{get_left, get_right}
use Rattle.kom_laws.proofs.InstanceLaws.{ActsByBorn, does, born_act, occupant_unborn}
use Rattle.kom_laws.proofs.ChannelSteps.{place_create, held_create, living_create}
use Rattle.kom_refine.specs.States.{State, Link, ControlRow}
use Rattle.kom_refine.specs.Points.{AreByCreated, IsFresh, Point, acts_at, with_act, StandsAt, node_of, link_at, queue_at, numbers_at, living_body, controls_at}
use Rattle.kom_refine.specs.Steps.{IsCreated, first_body_of, row_with, empty_queue}
use Rattle.kom_refine.proofs.Channels.{link_of_parts}
use Rattle.kom_refine.proofs.Relinking.{queued}

module _ (S : Declarations) where
  pub by_born : (done : List Act) → AreByCreated S done → ActsByBorn S done
  by_born [] h = tt
  by_born (a ∷ done) h = (by_born done h.0, h.1)

  pub by_created : (done : List Act) → ActsByBorn S done → AreByCreated S done
  by_created [] h = tt
  by_created (a ∷ done) h = (by_created done h.0, h.1)

  -- the channels from those of the root's ports on have no end outside
  pub inner : (done : List Act) (x : ℕ) (d : Dir) → length (channels S done) ≤ x → goes_out S x d ≡ false
  unfolding model
  inner done x d h =
      let es = map (λ q. Environment q.0) (enumerate_from 0 (kind_of S S.root.kind).ports) in
      let k : length (kind_of S S.root.kind).ports ≤ x = omega (arith, h, length-append es (flat_map (channels_of S) (enumerate_from 0 (born S done))), length-map (enumerate_from 0 (kind_of S S.root.kind).ports) (λ q. Environment q.0), length-enumerate_from 0 (kind_of S S.root.kind).ports) in
      ap (λ o. option_map_or (λ p. not (agree p.provided (is_plus (opposite d)))) o false) (slice_get_past (kind_of S S.root.kind).ports x k)

  pub before_new : (c n : ℕ) (is : List Instance) → c < n → inits_for S c n is ≡ []
  unfolding inits_for
  before_new c n [] h = refl
  before_new c n (i ∷ is) h =
      ap (λ t. if_so t (inits S i) ++ flat_map (λ q. if_so (q.0 == c) (inits S q.1)) (enumerate_from (n + 1) is)) (later c n h)
      ∙ before_new c (n + 1) is (omega (arith, h))
    where
      later : (c n : ℕ) → c < n → (n == c) ≡ false
      later c n h = elim (Rattle.std.proofs.lemmas.Bool.Decides.eqb_tells n c) [ inl t ↦ absurd (omega (arith, t.1, h)) | inr t ↦ t.0 ]

  module _ (p : Point) (c : ℕ) (item : Item) (slot kind : ℕ) (birth : Birth) where
    abbrev creation : Act
    creation = does c item (effect.Create slot kind birth)

    abbrev count : ℕ
    count = length (born S (acts_at p))

    abbrev chans : ℕ
    chans = length (channels S (acts_at p))

    abbrev news : List Instance
    news = created S (born S (acts_at p)) c slot kind birth

    -- by whether a number is an old one
    by_age : {X : Type 0} (k : ℕ) (u v w : ℕ → X) → ((d : ℕ) → d < k → u d ≡ w d) → ((d : ℕ) → k ≤ d → v d ≡ w d) → (d : ℕ) → (if nat_lt d k then u d else v d) ≡ w d
    by_age k u v w old new d = go (nat_lt d k) refl
      where
        go : (t : Bool) → nat_lt d k ≡ t → (if t then u d else v d) ≡ w d
        go true e = old d (ltb-true d k e)
        go false e = new d (ltb-false d k e)

    link_old : (x : ℕ) → x < chans → link_at S (acts_at p) x ≡ link_at S (creation ∷ acts_at p) x
    link_old x h = sym (link_of_parts _ _ _ _ _ _ _ _ (living_create S (acts_at p) c item slot kind birth x h) (place_create S (acts_at p) c item slot kind birth x Plus h) (place_create S (acts_at p) c item slot kind birth x Minus h) (held_create S (acts_at p) c item slot kind birth x h))

    -- the bodies and rows of those that were there
    abbrev body_by : ℕ → Bool → Option Instance → Option Body
    body_by d l o = if l then option_map (λ i. body_after_all (first_body S i.kind i.birth (1 + length i.ancestry)) (filter_map (outcome_of d) (p.ended ++ p.before))) o else None

    body_old : (d : ℕ) → d < count → living_body S p d ≡ living_body S (with_act S p creation) d
    unfolding model
    body_old d h =
        ap (body_by d (alive S (acts_at p) d)) (sym (get_left (born S (acts_at p)) news d h))
        ∙ ap (λ l. body_by d l (slice_get (born S (acts_at p) ++ news) d)) (sym (ap (λ t. if t then alive S (acts_at p) d else nat_lt d (length (born S (acts_at p) ++ news))) (lt-ltb d count h)))

    guarded : {X : Type 0} (L : List Instance) (d : ℕ) (G : Instance → X) → option_map G (slice_get L d) ≡ (if nat_lt d (length L) then option_map G (slice_get L d) else None)
    guarded L d G = go (nat_lt d (length L)) refl
      where
        go : (t : Bool) → nat_lt d (length L) ≡ t → option_map G (slice_get L d) ≡ (if t then option_map G (slice_get L d) else None)
        go true e = refl
        go false e = ap (option_map G) (slice_get_past L d (ltb-false d (length L) e))

    not_less : (d k : ℕ) → k ≤ d → nat_lt d k ≡ false
    not_less d k h = go (nat_lt d k) refl
      where
        go : (t : Bool) → nat_lt d k ≡ t → t ≡ false
        go true e = absurd (omega (arith, h, ltb-true d k e))
        go false e = refl

    body_new : IsFresh S p → (d : ℕ) → count ≤ d → option_map (first_body_of S) (slice_get news (d - count)) ≡ living_body S (with_act S p creation) d
    unfolding model
    body_new f d h =
        ap (option_map (first_body_of S)) (sym (get_right (born S (acts_at p)) news (d - count)) ∙ ap (slice_get (born S (acts_at p) ++ news)) (let e : count + (d - count) ≡ d = omega (arith, h) in e))
        ∙ ap (λ os. option_map (λ i. body_after_all (first_body_of S i) os) (slice_get (born S (acts_at p) ++ news) d)) (sym (f.nothing_done d h))
        ∙ guarded (born S (acts_at p) ++ news) d (λ i. body_after_all (first_body_of S i) (filter_map (outcome_of d) (p.ended ++ p.before)))
        ∙ ap (λ l. body_by d l (slice_get (born S (acts_at p) ++ news) d)) (sym (ap (λ t. if t then alive S (acts_at p) d else nat_lt d (length (born S (acts_at p) ++ news))) (not_less d count h)))

    abbrev row_of : List ControlItem → Option Body → Option ControlRow
    row_of items b = option_map (row_with S items) b

    row_old : (d : ℕ) → d < count → controls_at S p d ≡ controls_at S (with_act S p creation) d
    unfolding model
    row_old d h =
        ap (λ i. row_of (control_waiting S p.before d ++ i) (living_body S p d)) (sym (append-nil (p.put d)) ∙ ap (λ i. p.put d ++ i) (sym (before_new d count news h)))
        ∙ ap (row_of (control_waiting S p.before d ++ (p.put d ++ inits_for S d count news))) (body_old d h)

    row_new : IsFresh S p → (d : ℕ) → count ≤ d → row_of (inits_for S d count news) (living_body S (with_act S p creation) d) ≡ controls_at S (with_act S p creation) d
    unfolding model
    row_new f d h =
        ap (λ i. row_of i (living_body S (with_act S p creation) d))
        (ap (λ w. w ++ inits_for S d count news) (sym (f.nothing_put d h)) ∙ append_assoc (control_waiting S p.before d) (p.put d) (inits_for S d count news))

    queue_new : IsFresh S p → (l : Option Link) (x : ℕ) (d : Dir) → chans ≤ x → option_map (empty_queue d) l ≡ queued (goes_out S x d) (numbers_at S p x d) d l
    queue_new f l x d h =
        ap (λ g. queued g [] d l) (sym (inner (acts_at p) x d h))
        ∙ ap (λ w. queued (goes_out S x d) (map (λ q. q.no) w) d l) (sym (f.nothing_came x d h))

    occupant_before : (o : Option ℕ) (d q : ℕ) → IsFresh S p → (alive S (acts_at p) d ≡ true → o ≡ occupant S (acts_at p) d q) → alive S (creation ∷ acts_at p) d ≡ true
        → (if nat_lt d count then o else None) ≡ occupant S (acts_at p) d q
    unfolding model
    occupant_before o d q f k l = go (nat_lt d count) refl
      where
        go : (t : Bool) → nat_lt d count ≡ t → (if t then o else None) ≡ occupant S (acts_at p) d q
        go true e = k (ap (λ b. if b then alive S (acts_at p) d else nat_lt d (length (born S (acts_at p) ++ news))) (sym e) ∙ l)
        go false e = sym (occupant_unborn S (acts_at p) d q (by_born (acts_at p) f.by_created) (ltb-false d count e))

    pub create_follows : (m n : State) → IsFresh S p → IsCreated S (creation ∷ acts_at p) count chans news m n → StandsAt S p m → StandsAt S (with_act S p creation) n
    unfolding model
    create_follows m n f r s =
        let living : (d : ℕ) → n.living d ≡ alive S (creation ∷ acts_at p) d =
        λ d. r.living d
        ∙ ap (λ l. if nat_lt d count then l else nat_lt d (count + length news)) (s.living d)
        ∙ ap (λ k. if nat_lt d count then alive S (acts_at p) d else nat_lt d k) (sym (length-append (born S (acts_at p)) news)) in
        let links : (x : ℕ) → n.links x ≡ link_at S (creation ∷ acts_at p) x =
        λ x. r.links x ∙ by_age chans m.links (link_at S (creation ∷ acts_at p)) (link_at S (creation ∷ acts_at p)) (λ y h. s.links y ∙ link_old y h) (λ y h. refl) x in
        let bodies : (d : ℕ) → n.bodies d ≡ living_body S (with_act S p creation) d =
        λ d. r.bodies d ∙ by_age count m.bodies (λ e. option_map (first_body_of S) (slice_get news (e - count))) (living_body S (with_act S p creation)) (λ e h. s.bodies e ∙ body_old e h) (λ e h. body_new f e h) d in
        record {
          nodes = r.nodes ∙ ap (λ l. l ++ map node_of news) s.nodes ∙ sym (map-append node_of (born S (acts_at p)) news) ∙ ap (map node_of) (sym (born_act S (acts_at p) creation));
          living = living;
          child = λ d q l. r.child d q (living d ∙ l) ∙ ap (either (child_among S d q count news)) (occupant_before (m.child d q) d q f (s.child d q) l);
          links = links;
          queues = λ x d. r.queues x d
              ∙ by_age chans (λ y. m.queues y d) (λ y. option_map (empty_queue d) (n.links y)) (λ y. queue_at S (with_act S p creation) y d)
              (λ y h. s.queues y d ∙ ap (queued (goes_out S y d) (numbers_at S p y d) d) (link_old y h))
              (λ y h. ap (option_map (empty_queue d)) (links y) ∙ queue_new f (link_at S (creation ∷ acts_at p) y) y d h)
              x;
          controls = λ d. r.controls d
              ∙ by_age count m.controls (λ e. option_map (row_with S (inits_for S e count news)) (n.bodies e)) (controls_at S (with_act S p creation))
              (λ e h. s.controls e ∙ row_old e h)
              (λ e h. ap (row_of (inits_for S e count news)) (bodies e) ∙ row_new f e h)
              d;
          bodies = bodies;
        }
