-- Within a handling the channels and slots of other components are as their bodies have them.
use Rattle.std.proofs.Common.{◌≡◌, ℕ, zero, suc, ◌+◌, ◌<◌, ◌≤◌, Bool, true, false, ◌==◌, refl, sym, ap, ◌∙◌, subst, List, [], ◌∷◌, ◌++◌, length, Option, Some, None, inl, inr, ◌⊎◌, arith}
use Rattle.std.specs.Prelude.{nat_le, nat_lt, slice_get, slice_index_or}
use Rattle.std.specs.List.{filter_map}
use Rattle.std.specs.Option.{option_and_then, option_map, option_map_or}
use Rattle.std.proofs.lemmas.Bool.{leb-true, ltb-true, ltb-false}
use Rattle.std.proofs.lemmas.List.{append-nil, length-map}
use Rattle.std.proofs.lemmas.Option.{slice_get_within}
use Rattle.kom_base.specs.declared.numbers.Dir.{Dir}
use Rattle.kom_base.specs.declared.numbers.Half.{Half}
use Rattle.kom_lang.specs.Bodies.{first_body, first_wire}
use Rattle.kom_lang.specs.Declarations.{Declarations, kind_of, no_kind}
use Rattle.kom_lang.specs.declared.kind.Kind.{Kind}
use Rattle.kom_system.specs.Fitting.{has_at_most, numbers_fit}
use Rattle.kom_lives.proofs.Lives.{both}
use Rattle.kom_lang.specs.Steps.{child_in, end_of, wire_of}
use Rattle.kom_lang.specs.declared.body.Body.{Body}
use Rattle.kom_lang.specs.declared.body.Effect.{Effect}
use Rattle.kom_system.specs.WellFormed.{IsDeclared}
use Rattle.kom_record.specs.declared.plan.Plan.{Plan}
use Rattle.kom_record.specs.declared.item.Item.{Item}
use Rattle.kom_record.specs.declared.entry.Outcome.TheVariants as outcome
use Rattle.kom_record.specs.declared.entry.Entry.TheVariants.{Did}
use Rattle.kom_record.specs.Entries.{History, Act, acts, acts_for, item_at}
use Rattle.kom_record.specs.Instances.{Instance, alive, born, occupant}
use Rattle.kom_record.specs.Bodies.{body_after_all, outcome_of}
use Rattle.kom_record.specs.Channels.{Own, channel_alive, channel_end, channels, half_of, is_living, place, wire_end}
use Rattle.kom_record.specs.Legal.{IsLegal}
use Rattle.kom_laws.proofs.Members.{Some-injective}
use Rattle.kom_laws.proofs.ListFacts.{got_at}
use Rattle.kom_laws.proofs.InstanceLaws.{instance_stays, occupant_born}
use Rattle.kom_laws.proofs.ChannelLaws.{owner_born}
use Rattle.kom_laws.proofs.ControlLaws.{nothing_done}
use Rattle.kom_agree.specs.Agrees.{Agrees, kind_in}
use Rattle.kom_agree.specs.Laws.{AgreeWithin, body_by}
use Rattle.kom_agree.proofs.Acts.{outer_half}
use Rattle.kom_agree.proofs.Records.{good, within}
use Rattle.kom_typed.proofs.Ends.{bound_of, chosen_true, mapped_of, wire_declared}
use Rattle.kom_numbers.specs.Numbering.{wire_at}
use Rattle.kom_refine.specs.Points.{Point, acts_at, act_of, before_effects_of, with_act, with_effects, body_of, StandsAt}
use Rattle.kom_refine.proofs.Points.{mine_effects, before_effects}
use Rattle.kom_state.specs.Parts.{Parts, IsOf, state_of}
use Rattle.kom_state.proofs.Keeping.{flip}
use Rattle.kom_state.proofs.Numbered.{channels_are_numbered}
use Rattle.kom_changes.specs.Ends.{end_at}
use Rattle.kom_changes.specs.Laws.{OthersAreKept}
use Rattle.kom_changes.proofs.Created.{end_is_place, own_channel}

-- a slot with a child is one of the body's
slot_within : (b : Body) (s k : ℕ) → child_in b s ≡ Some k → s < length b.slots
slot_within b s k e = let m = bound_of (λ (o : Option ℕ). o) (slice_get b.slots s) k e in slice_get_within b.slots s m.0 m.1

beyond : (kinds : List Kind) (k : ℕ) → (k < length kinds) ⊎ (slice_index_or kinds k no_kind ≡ no_kind)
beyond [] k = inr refl
beyond (x ∷ kinds) zero = inl (omega arith)
beyond (x ∷ kinds) (suc k) = elim (beyond kinds k) [ inl l ↦ inl (omega (arith, l)) | inr e ↦ inr e ]

-- a component type has few slots
few_slots : (S : Declarations) (k : ℕ) → IsDeclared S → length (kind_of S k).slots ≤ 32
few_slots S k D = elim (beyond S.kinds k) [
  | inl l ↦ (
      let kind = kind_of S k in
      let fits = (both (has_at_most 16 64 32 64 64 kind) (numbers_fit S kind) (D.kinds k l).parts).0 in
      let vars = (both (nat_le (length kind.ports) 16) _ fits).1 in
      let slots = (both (nat_le (length kind.vars) 64) _ vars).1 in
      leb-true (length kind.slots) 32 (both (nat_le (length kind.slots) 32) _ slots).0)
  | inr e ↦ (let z = ap (λ (x : Kind). length x.slots) e in omega (arith, z))
]

module _ (S : Declarations) where
  no_more_ended : (p : Point) (c : ℕ) (item : Item) (es : List Effect) → (with_effects S p c item es).ended ≡ p.ended
  no_more_ended p c item [] = refl
  no_more_ended p c item (e ∷ es) = no_more_ended (with_act S p (act_of c item e)) c item es

  -- the body of each component that was created has as many channels as its type
  as_many_wires : (Z : Plan) → IsDeclared S → (P : History) (mine : List Act) (d : ℕ) (i : Instance) → IsLegal S Z P → slice_get (born S (mine ++ acts P)) d ≡ Some i
      → length (body_by S P d i).wires ≡ length (kind_of S i.kind).channels
  as_many_wires Z D P mine d i l g = at (nat_lt d (length (born S (acts P)))) refl
    where
      at : (b : Bool) → nat_lt d (length (born S (acts P))) ≡ b → length (body_by S P d i).wires ≡ length (kind_of S i.kind).channels
      at true t =
          let r = good S Z D P l d i (sym (instance_stays S mine (acts P) d (ltb-true d _ t)) ∙ g) in
          r.fits.wires ∙ ap (λ k. length (kind_of S k).channels) r.kind
      at false t =
          ap (λ os. length (body_after_all (first_body S i.kind i.birth (1 + length i.ancestry)) os).wires) (nothing_done S Z P d l (ltb-false d _ t))
          ∙ length-map (kind_of S i.kind).channels first_wire

  as_many_slots : (Z : Plan) → IsDeclared S → (P : History) (mine : List Act) (d : ℕ) (i : Instance) → IsLegal S Z P → slice_get (born S (mine ++ acts P)) d ≡ Some i
      → length (body_by S P d i).slots ≡ length (kind_of S i.kind).slots
  as_many_slots Z D P mine d i l g = at (nat_lt d (length (born S (acts P)))) refl
    where
      at : (b : Bool) → nat_lt d (length (born S (acts P))) ≡ b → length (body_by S P d i).slots ≡ length (kind_of S i.kind).slots
      at true t =
          let r = good S Z D P l d i (sym (instance_stays S mine (acts P) d (ltb-true d _ t)) ∙ g) in
          r.fits.slots ∙ ap (λ k. length (kind_of S k).slots) r.kind
      at false t =
          ap (λ os. length (body_after_all (first_body S i.kind i.birth (1 + length i.ancestry)) os).slots) (nothing_done S Z P d l (ltb-false d _ t))
          ∙ length-map (kind_of S i.kind).slots (λ s. option_map (λ child. child.kind) s.child)

  half_near : (done : List Act) (d port : ℕ) (sl : Option ℕ) (h : Half) → half_of S done d (record { slot = sl; port = port }) ≡ Some h → (h.comp ≡ d) ⊎ ((s : ℕ) × (occupant S done d s ≡ Some h.comp))
  unfolding half_of
  half_near done d port None h e = inl (ap (λ (z : Half). z.comp) (sym (Some-injective e)))
  half_near done d port (Some s) h e =
      let m = mapped_of (outer_half port) (occupant S done d s) h e in
      inr (s, m.1 ∙ ap (λ (z : Half). Some z.comp) m.2)

  module _ (Z : Plan) (D : IsDeclared S) (P : History) (w c took : ℕ) (item : Item) (body : Body) (effects before rest : List Effect) (to : Option ℕ) (places : List ℕ) (v : Parts)
      (l : IsLegal S Z (Did w c took (outcome.Done body effects) to places ∷ P)) (at : item_at P took ≡ Some item) (split : effects ≡ before ++ rest)
      (stands : StandsAt S (with_effects S (before_effects_of S P w c took body effects to places) c item before) (state_of v)) (of : IsOf S v) where
    abbrev begin : Point
    begin = before_effects_of S P w c took body effects to places

    abbrev body_with : ℕ → History → Instance → Body
    body_with d H i = body_after_all (first_body S i.kind i.birth (1 + length i.ancestry)) (filter_map (outcome_of d) H)

    abbrev p : Point
    p = with_effects S begin c item before

    abbrev done : List Act
    done = acts_for c (Some item) before ++ acts P

    legal : IsLegal S Z P
    unfolding IsLegal
    legal = l.0

    acts_are : acts_at p ≡ done
    acts_are =
        ap (λ mine. mine ++ acts p.before) (mine_effects S begin c item before ∙ append-nil (acts_for c (Some item) before))
        ∙ ap (λ B. acts_for c (Some item) before ++ acts B) (before_effects S begin c item before)

    agreeing : AgreeWithin S P c item effects
    agreeing = within S Z D P w c took body effects to places item l at

    -- the instance of another component, and its body
    agreed : (d : ℕ) (i : Instance) → (d == c) ≡ false → slice_get (born S done) d ≡ Some i → Agrees S done d (body_by S P d i)
    agreed d i q g = agreeing.others before rest d i split (flip c d ∙ q) g

    own_end : (x d k : ℕ) (e : Dir) (h : Half) → wire_at v.numbers x ≡ Some (d, k) → end_at (state_of v) x e ≡ Some h → (slice_get (channels S done) x ≡ Some (Own d k)) × (wire_end S done d k e ≡ Some h)
    unfolding place
    own_end x d k e h q f =
        let n = channels_are_numbered S (acts_at p) v of stands.nodes in
        let chan : slice_get (channels S done) x ≡ Some (Own d k) = ap (λ a. slice_get (channels S a) x) (sym acts_are) ∙ n.channel x ∙ own_channel v.numbers x d k q in
        let here : place S done x e ≡ Some h = ap (λ a. place S a x e) (sym acts_are) ∙ (end_is_place S p (state_of v) x e h stands f).1 in
        (chan, sym (ap (option_and_then (channel_end S done e)) chan) ∙ here)

    owner_lives : (x d k : ℕ) (e : Dir) (h : Half) → wire_at v.numbers x ≡ Some (d, k) → end_at (state_of v) x e ≡ Some h → alive S (acts_at p) d ≡ true
    unfolding is_living
    owner_lives x d k e h q f =
        let n = channels_are_numbered S (acts_at p) v of stands.nodes in
        let chan : slice_get (channels S (acts_at p)) x ≡ Some (Own d k) = n.channel x ∙ own_channel v.numbers x d k q in
        sym (ap (λ o. option_map_or (channel_alive S (acts_at p)) o false) chan) ∙ (end_is_place S p (state_of v) x e h stands f).0

    ends : (x d k : ℕ) (e : Dir) (h : Half) → wire_at v.numbers x ≡ Some (d, k) → (d == c) ≡ false → end_at (state_of v) x e ≡ Some h → (h.comp ≡ d) ⊎ ((s : ℕ) × ((state_of v).child d s ≡ Some h.comp))
    ends x d k e h q apart f =
        let o = own_end x d k e h q f in
        let i = got_at (born S done) d (owner_born S done x d k o.0) in
        let b = body_by S P d i.0 in
        let a = agreed d i.0 apart i.1 in
        let low = wire_declared S done x d k i.0 o.0 i.1 in
        let same = as_many_wires Z D P (acts_for c (Some item) before) d i.0 legal i.1 in
        let lt : k < length b.wires = omega (arith, low, same) in
        let m = bound_of (half_of S done d) (end_of (wire_of b k) e) h (sym (a.ends k e lt) ∙ o.1) in
        elim (half_near done d m.0.port m.0.slot h m.2) [
          | inl r ↦ inl r
          | inr r ↦ inr (r.0, stands.child d r.0 (owner_lives x d k e h q f) ∙ ap (λ a. occupant S a d r.0) acts_are ∙ r.1)
        ]

    children : (d s q : ℕ) (b : Body) → (d == c) ≡ false → (state_of v).bodies d ≡ Some b → (state_of v).child d s ≡ Some q → (s < length b.slots) × (s < 256)
    children d s q b apart f g =
        let body_there = chosen_true (alive S (acts_at p) d) (body_of S p d) b (sym (stands.bodies d) ∙ f) in
        let i = mapped_of (body_with d (p.ended ++ p.before)) (slice_get (born S (acts_at p)) d) b body_there.1 in
        let ended : p.ended ++ p.before ≡ P = ap (λ es. es ++ p.before) (no_more_ended begin c item before) ∙ before_effects S begin c item before in
        let same : body_by S P d i.0 ≡ b = ap (λ H. body_with d H i.0) (sym ended) ∙ i.2 in
        let at_done : slice_get (born S done) d ≡ Some i.0 = ap (λ a. slice_get (born S a) d) (sym acts_are) ∙ i.1 in
        let a = agreed d i.0 apart at_done in
        let there : occupant S done d s ≡ Some q = ap (λ a. occupant S a d s) (sym acts_are) ∙ sym (stands.child d s body_there.0) ∙ g in
        let j = occupant_born S done d s q there in
        let kind : kind_in S done d s ≡ Some j.0.kind = ap (λ o. option_map (λ i. i.kind) (option_and_then (slice_get (born S done)) o)) there ∙ ap (option_map (λ i. i.kind)) j.1 in
        let low = slot_within (body_by S P d i.0) s j.0.kind (sym (a.slots s) ∙ kind) in
        let many = as_many_slots Z D P (acts_for c (Some item) before) d i.0 legal at_done in
        let few = few_slots S i.0.kind D in
        (subst (λ z. s < length z.slots) same low, omega (arith, low, many, few))

pub others_are_kept : OthersAreKept
others_are_kept S Z P w c took item body effects before rest to places v D l at split stands of = record {
  ends = ends S Z D P w c took item body effects before rest to places v l at split stands of;
  children = children S Z D P w c took item body effects before rest to places v l at split stands of;
}
