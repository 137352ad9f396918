-- The ends of channels are at components that were created.
use Rattle.std.proofs.Common.{◌≡◌, ℕ, ◌+◌, ◌<◌, Bool, true, false, if◌then◌else◌, ◌&&◌, ◌==◌, refl, sym, ap, ◌∙◌, subst, List, [], ◌∷◌, length, Option, Some, None, arith}
use Rattle.std.specs.Prelude.{nat_lt, slice_get}
use Rattle.std.specs.Option.{option_and_then, option_map}
use Rattle.std.proofs.lemmas.Bool.{eqb-true}
use Rattle.std.proofs.lemmas.List.{length-append, length-map}
use Rattle.std.proofs.lemmas.Option.{slice_get_within}
use Rattle.kom_base.specs.declared.numbers.Dir.{Dir}
use Rattle.kom_base.specs.declared.numbers.Dir.TheVariants.{Plus, Minus}
use Rattle.kom_base.specs.declared.numbers.Half.{Half}
use Rattle.kom_base.specs.declared.numbers.Side.TheVariants.{Outside}
use Rattle.kom_base.specs.Numbers.{agree, is_plus, same_dir}
use Rattle.kom_lang.specs.Declarations.{Declarations, kind_of}
use Rattle.kom_lang.specs.declared.body.Effect.{Effect}
use Rattle.kom_lang.specs.declared.body.Effect.TheVariants as effect
use Rattle.kom_lang.specs.declared.kind.Place.{Place}
use Rattle.kom_record.specs.Model.{model}
use Rattle.kom_record.specs.declared.item.Item.{Item}
use Rattle.kom_record.specs.Entries.{Act}
use Rattle.kom_record.specs.Instances.{born, occupant}
use Rattle.kom_record.specs.Channels.{Channel, Environment, Own, channel_end, channels, decl_of, declared_end, declared_place, half_of, held, is_living, place, root_end, wire_end}
use Rattle.kom_laws.proofs.Members.{Some-injective}
use Rattle.kom_laws.proofs.InstanceLaws.{born_grows, does, occupant_born}
use Rattle.kom_agree.proofs.Acts.{outer_half}
use Rattle.kom_typed.proofs.Ends.{bound_of, chosen_true, mapped_of, root_born}
use Rattle.kom_lives.proofs.Lives.{both}
use Rattle.kom_numbers.specs.Numbering.{Numbering, channel_at, wire_at}
use Rattle.kom_refine.specs.Points.{Point, acts_at, link_at, node_of, AreByCreated, StandsAt}
use Rattle.kom_refine.specs.States.{Link, State, end_of}
use Rattle.kom_changes.specs.Ends.{end_at}
use Rattle.kom_changes.specs.Laws.{EndsAreAtCreated}

-- the channel with the number of a wire is that wire
pub own_channel : (n : Numbering) (x d k : ℕ) → wire_at n x ≡ Some (d, k) → channel_at n x ≡ Some (Own d k)
own_channel n x d k = at (nat_lt x (length n.outs)) _
  where
    at : (b : Bool) (w : Option (ℕ × ℕ)) → (if b then None else w) ≡ Some (d, k) → (if b then Some (Environment x) else option_map (λ (q : ℕ × ℕ). Own q.0 q.1) (if b then None else w)) ≡ Some (Own d k)
    at true w e = absurd cc
    at false w e = ap (option_map (λ (q : ℕ × ℕ). Own q.0 q.1)) e

-- a choice that comes to a value comes to it by one of the two
chosen : {X : Type 0} (b : Bool) (o p : Option X) (P : Type 0) (x : X) → (if b then o else p) ≡ Some x → (b ≡ true → o ≡ Some x → P) → (p ≡ Some x → P) → P
chosen true o p P x e f g = f refl e
chosen false o p P x e f g = g e

module _ (S : Declarations) where
  IsBorn : List Act → Half → Type 0
  IsBorn done h = h.comp < length (born S done)

  half_at : (done : List Act) (c port : ℕ) (sl : Option ℕ) (h : Half) → c < length (born S done) → half_of S done c (record { slot = sl; port = port }) ≡ Some h → IsBorn done h
  unfolding half_of IsBorn
  half_at done c port None h l e = subst (λ z. z.comp < length (born S done)) (Some-injective e) l
  half_at done c port (Some s) h l e =
      let m = mapped_of (outer_half port) (occupant S done c s) h e in
      let o = occupant_born S done c s m.0 m.1 in
      subst (λ z. z.comp < length (born S done)) m.2 (slice_get_within (born S done) m.0 o.0 o.1)

  half_born : (done : List Act) (c : ℕ) (p : Place) (h : Half) → c < length (born S done) → half_of S done c p ≡ Some h → IsBorn done h
  half_born done c p h l e = half_at done c p.port p.slot h l e

  declared_born : (done : List Act) (c k : ℕ) (e : Dir) (h : Half) → declared_end S done c k e ≡ Some h → IsBorn done h
  unfolding declared_end decl_of
  declared_born done c k e h f =
      let d = bound_of (λ d. option_and_then (half_of S done c) (declared_place d e)) (decl_of S done c k) h f in
      let p = bound_of (half_of S done c) (declared_place d.0 e) h d.2 in
      let i = bound_of (λ i. slice_get (kind_of S i.kind).channels k) (slice_get (born S done) c) d.0 d.1 in
      half_born done c p.0 h (slice_get_within (born S done) c i.0 i.1) p.2

  AreBorn : List Act → Type 0
  AreBorn done = (c k : ℕ) (e : Dir) (h : Half) → wire_end S done c k e ≡ Some h → IsBorn done h

  still_born : (done : List Act) (a : Act) (h : Half) → IsBorn done h → IsBorn (a ∷ done) h
  unfolding IsBorn
  still_born done a h l =
      let g = born_grows S (a ∷ []) done in
      let longer : length (born S (a ∷ done)) ≡ length (born S done) + length g.0 = ap length g.1 ∙ length-append (born S done) g.0 in
      omega (arith, l, longer)

  ends_after : (done : List Act) (by : ℕ) (item : Item) (x : Effect) → by < length (born S done) → AreBorn done → AreBorn (does by item x ∷ done)
  unfolding model AreBorn
  ends_after done by item (effect.Plug j f p) l ih c k e h q =
      chosen ((by == c && j == k) && same_dir f e) (half_of S done c p) (wire_end S done c k e) (IsBorn (does by item (effect.Plug j f p) ∷ done) h) h q
      (λ t u. let same = eqb-true by c (both _ _ (both _ _ t).0).0 in still_born done (does by item (effect.Plug j f p)) h (half_born done c p h (subst (λ z. z < length (born S done)) same l) u))
      (λ u. still_born done (does by item (effect.Plug j f p)) h (ih c k e h u))
  ends_after done by item (effect.Unplug j f) l ih c k e h q =
      chosen ((by == c && j == k) && same_dir f e) None (wire_end S done c k e) (IsBorn (does by item (effect.Unplug j f) ∷ done) h) h q
      (λ t u. absurd cc)
      (λ u. still_born done (does by item (effect.Unplug j f)) h (ih c k e h u))
  ends_after done by item (effect.Create slot kind birth) l ih c k e h q =
      chosen (nat_lt c (length (born S done))) (wire_end S done c k e) (declared_end S (does by item (effect.Create slot kind birth) ∷ done) c k e) (IsBorn (does by item (effect.Create slot kind birth) ∷ done) h) h q
      (λ t u. still_born done (does by item (effect.Create slot kind birth)) h (ih c k e h u))
      (λ u. declared_born (does by item (effect.Create slot kind birth) ∷ done) c k e h u)
  ends_after done by item (effect.Trigger port event) l ih c k e h q = still_born done (does by item (effect.Trigger port event)) h (ih c k e h q)
  ends_after done by item (effect.Answer event) l ih c k e h q = still_born done (does by item (effect.Answer event)) h (ih c k e h q)
  ends_after done by item (effect.Start s) l ih c k e h q = still_born done (does by item (effect.Start s)) h (ih c k e h q)
  ends_after done by item (effect.Stop s) l ih c k e h q = still_born done (does by item (effect.Stop s)) h (ih c k e h q)
  ends_after done by item (effect.Destroy s) l ih c k e h q = still_born done (does by item (effect.Destroy s)) h (ih c k e h q)
  ends_after done by item (effect.Dump s) l ih c k e h q = still_born done (does by item (effect.Dump s)) h (ih c k e h q)
  ends_after done by item (effect.Hold j) l ih c k e h q = still_born done (does by item (effect.Hold j)) h (ih c k e h q)
  ends_after done by item (effect.Resume j) l ih c k e h q = still_born done (does by item (effect.Resume j)) h (ih c k e h q)
  ends_after done by item effect.Escalate l ih c k e h q = still_born done (does by item effect.Escalate) h (ih c k e h q)

  wires_born : (done : List Act) → AreByCreated S done → AreBorn done
  unfolding wire_end AreBorn
  wires_born [] by c k e h f = declared_born [] c k e h f
  wires_born (a ∷ done) by c k e h f = ends_after done a.by a.item a.effect by.1 (wires_born done by.0) c k e h f

  root_end_born : (done : List Act) (q : ℕ) (e : Dir) (h : Half) → root_end S q e ≡ Some h → IsBorn done h
  unfolding root_end IsBorn
  root_end_born done q e h f =
      let b = bound_of (λ d. if agree d.provided (is_plus e) then Some (record { comp = 0; port = q; side = Outside }) else None) (slice_get (kind_of S S.root.kind).ports q) h f in
      let c = chosen_true (agree b.0.provided (is_plus e)) (Some (record { comp = 0; port = q; side = Outside })) h b.2 in
      subst (λ z. z.comp < length (born S done)) (Some-injective c.1) (slice_get_within (born S done) 0 _ (root_born S done))

  place_born : (done : List Act) → AreByCreated S done → (x : ℕ) (e : Dir) (h : Half) → place S done x e ≡ Some h → IsBorn done h
  unfolding place AreBorn
  place_born done by x e h f = go (slice_get (channels S done) x) f
    where
      go : (o : Option Channel) → option_and_then (channel_end S done e) o ≡ Some h → IsBorn done h
      go None q = absurd cc
      go (Some (Environment p)) q = root_end_born done p e h q
      go (Some (Own c k)) q = wires_born done by c k e h q

  -- the end of a living channel is its place
  pub end_is_place : (p : Point) (m : State) (x : ℕ) (e : Dir) (h : Half) → StandsAt S p m → end_at m x e ≡ Some h → (is_living S (acts_at p) x ≡ true) × (place S (acts_at p) x e ≡ Some h)
  end_is_place p m x e h s f =
      let done = acts_at p in
      let g : option_and_then (λ (l : Link). end_of l e) (link_at S done x) ≡ Some h = ap (option_and_then (λ (l : Link). end_of l e)) (sym (s.links x)) ∙ f in
      let b = bound_of (λ (l : Link). end_of l e) (link_at S done x) h g in
      let c = chosen_true (is_living S done x) (Some (record { plus = place S done x Plus; minus = place S done x Minus; held = held S done x })) b.0 b.1 in
      (c.0, at e (ap (λ (l : Link). end_of l e) (Some-injective c.1) ∙ b.2))
    where
      at : (e : Dir) → end_of (record { plus = place S (acts_at p) x Plus; minus = place S (acts_at p) x Minus; held = held S (acts_at p) x }) e ≡ Some h → place S (acts_at p) x e ≡ Some h
      at Plus f = f
      at Minus f = f

pub ends_are_at_created : EndsAreAtCreated
unfolding IsBorn
ends_are_at_created S p m s by x e h f =
    let q = end_is_place S p m x e h s f in
    let l = place_born S (acts_at p) by x e h q.1 in
    let n = ap length s.nodes ∙ length-map (born S (acts_at p)) node_of in
    omega (arith, l, n)
