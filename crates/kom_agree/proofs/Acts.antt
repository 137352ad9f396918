-- What one effect more makes of a body's agreement: an effect of another component, or its own.
use Rattle.std.proofs.Common.{◌≡◌, ℕ, zero, suc, ◌+◌, ◌<◌, Bool, true, false, if◌then◌else◌, ◌&&◌, ◌||◌, ◌==◌, refl, sym, ap, ◌∙◌, subst, List, [], ◌∷◌, ◌++◌, length, Option, Some, None, inl, inr, arith, eq-eqb, set, get_or, length-set}
use Rattle.std.specs.Prelude.{slice_get, slice_index_or, slice_set, nat_lt}
use Rattle.std.specs.List.{list_any, list_all}
use Rattle.std.specs.Option.{option_map, option_map_or, option_and_then}
use Rattle.std.proofs.lemmas.Bool.{eqb-true, lt-ltb}
use Rattle.std.proofs.lemmas.Bool.Decides.{eqb_tells}
use Rattle.std.proofs.lemmas.List.{get_or-set_same, get_or-set_other}
use Rattle.std.proofs.lemmas.Option.{slice_get_within}
use Rattle.kom_base.specs.declared.numbers.Dir.{Dir}
use Rattle.kom_base.specs.declared.numbers.Dir.TheVariants.{Plus, Minus}
use Rattle.kom_base.specs.declared.numbers.Half.{Half}
use Rattle.kom_base.specs.declared.numbers.Side.TheVariants.{Outside}
use Rattle.kom_base.specs.Numbers.{same_dir}
use Rattle.kom_base.specs.Lists.{either}
use Rattle.kom_lang.specs.Declarations.{Declarations, kind_of}
use Rattle.kom_lang.specs.Steps.{child_in, end_of, is_at_slot, is_plugged_at, no_wire, wire_of, with_end, with_held, with_slot, with_wire}
use Rattle.kom_lang.specs.declared.kind.Place.{Place}
use Rattle.kom_lang.specs.declared.body.Body.{Body}
use Rattle.kom_lang.specs.declared.body.Wire.{Wire}
use Rattle.kom_lang.specs.declared.body.Birth.{Birth}
use Rattle.kom_lang.specs.declared.body.Effect.{Effect}
use Rattle.kom_lang.specs.declared.body.Effect.TheVariants as effect
use Rattle.kom_record.specs.Model.{model}
use Rattle.kom_record.specs.declared.item.Item.{Item}
use Rattle.kom_record.specs.Entries.{Act}
use Rattle.kom_record.specs.Instances.{Instance, depth_limit, born, created, child_among, occupant, ancestry_of}
use Rattle.kom_record.specs.Channels.{declared_end, declared_held, half_of, wire_end, wire_held}
use Rattle.kom_record.specs.Plans.{is_place_in, is_wire_in}
use Rattle.kom_laws.proofs.Members.{Some-injective}
use Rattle.kom_laws.proofs.ListFacts.{get_left, get_right}
use Rattle.kom_laws.proofs.InstanceLaws.{does, occupant_born}
use Rattle.kom_agree.specs.Agrees.{Agrees, kind_in}
use Rattle.kom_agree.specs.Bodies.{BodyFits}
use Rattle.kom_agree.proofs.Trees.{outside_tree, tree_head}
use Rattle.kom_agree.proofs.Born.{both, some_of}

pub true_is_false : (b : Bool) → b ≡ true → b ≡ false → ⊥
true_is_false b e f = let g : true ≡ false = sym e ∙ f in cc

-- ---- bodies with one part changed

pub wire_set : (b : Body) (k j : ℕ) (w : Wire) → k < length b.wires → wire_of (with_wire b k w) j ≡ (if k == j then w else wire_of b j)
wire_set b k j w h = elim (eqb_tells k j) [
  | inl e ↦
      ap (slice_index_or (slice_set b.wires k w) j) refl ∙ subst (λ i. get_or (set b.wires k w) i no_wire ≡ w) e.1 (get_or-set_same b.wires k w no_wire h) ∙ sym (ap (λ t. if t then w else wire_of b j) e.0)
  | inr e ↦
      get_or-set_other b.wires k j w no_wire (λ f. true_is_false (k == j) (eq-eqb k j (sym f)) e.0) ∙ sym (ap (λ t. if t then w else wire_of b j) e.0)
]

set_at : {X : Type 0} (xs : List X) (k j : ℕ) (x : X) → k < length xs → slice_get (set xs k x) j ≡ (if k == j then Some x else slice_get xs j)
set_at [] k j x h = absurd (omega (arith, h))
set_at (y ∷ xs) zero zero x h = refl
set_at (y ∷ xs) zero (suc j) x h = sym (ap (λ t. if t then Some x else slice_get xs j) (go j))
  where
    go : (j : ℕ) → (0 == suc j) ≡ false
    go j = elim (eqb_tells 0 (suc j)) [ inl e ↦ absurd (omega (arith, e.1)) | inr e ↦ e.0 ]
set_at (y ∷ xs) (suc k) zero x h = sym (ap (λ t. if t then Some x else Some y) (go k))
  where
    go : (k : ℕ) → (suc k == 0) ≡ false
    go k = elim (eqb_tells (suc k) 0) [ inl e ↦ absurd (omega (arith, e.1)) | inr e ↦ e.0 ]
set_at (y ∷ xs) (suc k) (suc j) x h = set_at xs k j x (omega (arith, h)) ∙ ap (λ t. if t then Some x else slice_get xs j) go
  where
    go : (k == j) ≡ (suc k == suc j)
    go = elim (eqb_tells k j) [
      | inl e ↦ e.0 ∙ sym (eq-eqb (suc k) (suc j) (let f = e.1 in omega (arith, f)))
      | inr e ↦ e.0 ∙ sym (elim (eqb_tells (suc k) (suc j)) [ inl f ↦ absurd (let g = f.1 in let h : k ≡ j = omega (arith, g) in true_is_false (k == j) (eq-eqb k j h) e.0) | inr f ↦ f.0 ])
    ]

pub child_set : (b : Body) (s t : ℕ) (o : Option ℕ) → s < length b.slots → child_in (with_slot b s o) t ≡ (if s == t then o else child_in b t)
child_set b s t o h = ap (option_and_then (λ x. x)) (set_at b.slots s t o h) ∙ go (s == t)
  where
    go : (x : Bool) → option_and_then (λ x. x) (if x then Some o else slice_get b.slots t) ≡ (if x then o else child_in b t)
    go true = refl
    go false = refl

pub end_set : (w : Wire) (f e : Dir) (o : Option Place) → end_of (with_end w f o) e ≡ (if same_dir f e then o else end_of w e)
end_set w Plus Plus o = refl
end_set w Plus Minus o = refl
end_set w Minus Plus o = refl
end_set w Minus Minus o = refl

held_kept : (w : Wire) (f : Dir) (o : Option Place) → (with_end w f o).held ≡ w.held
held_kept w Plus o = refl
held_kept w Minus o = refl

end_held : (w : Wire) (t : Bool) (e : Dir) → end_of (with_held w t) e ≡ end_of w e
end_held w t Plus = refl
end_held w t Minus = refl

-- ---- places of a body that fits

all_at : {X : Type 0} (f : X → Bool) (xs : List X) (k : ℕ) (d : X) → list_all f xs ≡ true → k < length xs → f (get_or xs k d) ≡ true
all_at f [] k d e h = absurd (omega (arith, h))
all_at f (x ∷ xs) zero d e h = (both _ _ e).0
all_at f (x ∷ xs) (suc k) d e h = all_at f xs k d (both _ _ e).1 (omega (arith, h))

none_at : {X : Type 0} (f : X → Bool) (xs : List X) (k : ℕ) (d : X) → list_any f xs ≡ false → k < length xs → f (get_or xs k d) ≡ false
none_at f [] k d e h = absurd (omega (arith, h))
none_at f (x ∷ xs) zero d e h = neither (f x) (list_any f xs) e
  where
    neither : (a b : Bool) → (a || b) ≡ false → a ≡ false
    neither true b e = absurd cc
    neither false b e = refl
none_at f (x ∷ xs) (suc k) d e h = none_at f xs k d (neither (f x) (list_any f xs) e) (omega (arith, h))
  where
    neither : (a b : Bool) → (a || b) ≡ false → b ≡ false
    neither true b e = absurd cc
    neither false b e = e

pub wire_fits : (S : Declarations) (b : Body) (k : ℕ) → BodyFits S b → k < length b.wires → is_wire_in S b (wire_of b k) ≡ true
wire_fits S b k h l = all_at (is_wire_in S b) b.wires k no_wire h.places l

pub end_fits_at : (S : Declarations) (b : Body) (w : Wire) (e : Dir) → is_wire_in S b w ≡ true → option_map_or (is_place_in S b) (end_of w e) true ≡ true
end_fits_at S b w Plus h = (both _ _ h).0
end_fits_at S b w Minus h = (both _ _ h).1

abbrev pub outer_half : ℕ → ℕ → Half
outer_half port q = record { comp = q; port = port; side = Outside }

module _ (S : Declarations) where
  -- the halves of places whose slots have the same occupants
  half_same_at : (X Y : List Act) (c port : ℕ) (sl : Option ℕ) → ((s : ℕ) → sl ≡ Some s → occupant S X c s ≡ occupant S Y c s) → half_of S X c (record { slot = sl; port = port }) ≡ half_of S Y c (record { slot = sl; port = port })
  unfolding model
  half_same_at X Y c port None h = refl
  half_same_at X Y c port (Some s) h = ap (option_map (outer_half port)) (h s refl)

  pub half_same : (X Y : List Act) (c : ℕ) (p : Place) → ((s : ℕ) → p.slot ≡ Some s → occupant S X c s ≡ occupant S Y c s) → half_of S X c p ≡ half_of S Y c p
  half_same X Y c p h = half_same_at X Y c p.port p.slot h

  pub end_same : (X Y : List Act) (c : ℕ) (o : Option Place) → ((p : Place) (s : ℕ) → o ≡ Some p → p.slot ≡ Some s → occupant S X c s ≡ occupant S Y c s) → option_and_then (half_of S X c) o ≡ option_and_then (half_of S Y c) o
  end_same X Y c None h = refl
  end_same X Y c (Some p) h = half_same X Y c p (λ s e. h p s refl e)

  -- ---- what a Create adds is in no slot of others

  grown_kind : (done : List Act) (c s : ℕ) (news : List Instance) (o : Option ℕ) → occupant S done c s ≡ o
      → ◌≡◌ {A = Option ℕ} (option_map (λ i. i.kind) (option_and_then (slice_get (born S done ++ news)) o)) (option_map (λ i. i.kind) (option_and_then (slice_get (born S done)) o))
  grown_kind done c s news None e = refl
  grown_kind done c s news (Some q) e =
      let b = occupant_born S done c s q e in
      ap (option_map (λ i. i.kind)) (get_left (born S done) news q (slice_get_within (born S done) q b.0 b.1))

  among_created : (done : List Act) (c s p slot kind : ℕ) (birth : Birth) → c < length (born S done)
      → child_among S c s (length (born S done)) (created S (born S done) p slot kind birth) ≡ (if p == c && slot == s then Some (length (born S done)) else None)
  unfolding created
  among_created done c s p slot kind birth h = outside_tree S c s depth_limit (length (born S done)) (record { kind = kind; birth = birth; ancestry = (p, slot) ∷ ancestry_of S (born S done) p }) h

  create_other : (done : List Act) (c s p : ℕ) (item : Item) (slot kind : ℕ) (birth : Birth) → c < length (born S done) → (p == c && slot == s) ≡ false
      → (kind_in S (does p item (effect.Create slot kind birth) ∷ done) c s ≡ kind_in S done c s) × (occupant S (does p item (effect.Create slot kind birth) ∷ done) c s ≡ occupant S done c s)
  unfolding model
  create_other done c s p item slot kind birth h e =
      let news = created S (born S done) p slot kind birth in
      let none : child_among S c s (length (born S done)) news ≡ None = among_created done c s p slot kind birth h ∙ ap (λ t. if t then Some (length (born S done)) else None) e in (
        ap (λ o. option_map (λ i. i.kind) (option_and_then (slice_get (born S done ++ news)) (either o (occupant S done c s)))) none ∙ grown_kind done c s news (occupant S done c s) refl,
        ap (λ o. either o (occupant S done c s)) none,
      )

  -- ---- an effect of another component

  off_by : (a b : Bool) → a ≡ false → (a && b) ≡ false
  off_by true b e = absurd cc
  off_by false b e = refl

  pub other_agrees : (done : List Act) (p : ℕ) (item : Item) (e : Effect) (c : ℕ) (b : Body) → c < length (born S done) → (p == c) ≡ false → Agrees S done c b → Agrees S (does p item e ∷ done) c b
  unfolding model
  other_agrees done p item (effect.Trigger port event) c b l q h = record { slots = h.slots; holds = h.holds; ends = h.ends }
  other_agrees done p item (effect.Answer event) c b l q h = record { slots = h.slots; holds = h.holds; ends = h.ends }
  other_agrees done p item (effect.Create slot kind birth) c b l q h = record {
    slots = λ s. (create_other done c s p item slot kind birth l (off_by (p == c) (slot == s) q)).0 ∙ h.slots s;
    holds = λ k g. ap (λ t. if t then wire_held S done c k else declared_held S (does p item (effect.Create slot kind birth) ∷ done) c k) (lt-ltb c (length (born S done)) l) ∙ h.holds k g;
    ends = λ k f g.
        ap (λ t. if t then wire_end S done c k f else declared_end S (does p item (effect.Create slot kind birth) ∷ done) c k f) (lt-ltb c (length (born S done)) l)
        ∙ h.ends k f g
        ∙ sym (end_same (does p item (effect.Create slot kind birth) ∷ done) done c (end_of (wire_of b k) f) (λ x s u v. (create_other done c s p item slot kind birth l (off_by (p == c) (slot == s) q)).1));
  }
  other_agrees done p item (effect.Start s) c b l q h = record { slots = h.slots; holds = h.holds; ends = h.ends }
  other_agrees done p item (effect.Stop s) c b l q h = record { slots = h.slots; holds = h.holds; ends = h.ends }
  other_agrees done p item (effect.Destroy slot) c b l q h = record {
    slots = λ s. ap (λ t. option_map (λ i. i.kind) (option_and_then (slice_get (born S done)) (if t && slot == s then None else occupant S done c s))) q ∙ h.slots s;
    holds = h.holds;
    ends = λ k f g. h.ends k f g ∙ sym (end_same (does p item (effect.Destroy slot) ∷ done) done c (end_of (wire_of b k) f) (λ x s u v. ap (λ t. if t && slot == s then None else occupant S done c s) q));
  }
  other_agrees done p item (effect.Dump s) c b l q h = record { slots = h.slots; holds = h.holds; ends = h.ends }
  other_agrees done p item (effect.Hold k) c b l q h = record { slots = h.slots; holds = λ j g. ap (λ t. if t && k == j then true else wire_held S done c j) q ∙ h.holds j g; ends = h.ends }
  other_agrees done p item (effect.Resume k) c b l q h = record { slots = h.slots; holds = λ j g. ap (λ t. if t && k == j then false else wire_held S done c j) q ∙ h.holds j g; ends = h.ends }
  other_agrees done p item (effect.Unplug k f) c b l q h = record { slots = h.slots; holds = h.holds; ends = λ j e g. ap (λ t. if (t && k == j) && same_dir f e then None else wire_end S done c j e) q ∙ h.ends j e g }
  other_agrees done p item (effect.Plug k f x) c b l q h = record { slots = h.slots; holds = h.holds; ends = λ j e g. ap (λ t. if (t && k == j) && same_dir f e then half_of S done c x else wire_end S done c j e) q ∙ h.ends j e g }
  other_agrees done p item effect.Escalate c b l q h = record { slots = h.slots; holds = h.holds; ends = h.ends }

  -- ---- an effect of its own on a channel

  abbrev own : ℕ → Item → Effect → Act
  own c item e = does c item e

  wires_agree : (done : List Act) (c : ℕ) (item : Item) (e : Effect) (b : Body) (k : ℕ) (w : Wire) → k < length b.wires → Agrees S done c b
      → ((s : ℕ) → kind_in S (own c item e ∷ done) c s ≡ kind_in S done c s) → ((p : Place) → half_of S (own c item e ∷ done) c p ≡ half_of S done c p)
      → ((j : ℕ) → j < length b.wires → wire_held S (own c item e ∷ done) c j ≡ (if k == j then w.held else wire_held S done c j))
      → ((j : ℕ) (f : Dir) → j < length b.wires → wire_end S (own c item e ∷ done) c j f ≡ (if k == j then option_and_then (half_of S done c) (end_of w f) else wire_end S done c j f))
      → Agrees S (own c item e ∷ done) c (with_wire b k w)
  wires_agree done c item e b k w l h slots half held ends = record {
    slots = λ s. slots s ∙ h.slots s;
    holds = λ j g.
        let g' : j < length b.wires = omega (arith, g, length-set b.wires k w) in
        held j g' ∙ at_held (k == j) j g' ∙ sym (ap (λ x. x.held) (wire_set b k j w l));
    ends = λ j f g.
        let g' : j < length b.wires = omega (arith, g, length-set b.wires k w) in
        ends j f g' ∙ at_end (k == j) j f g' ∙ sym (other_half (end_of (if k == j then w else wire_of b j) f)) ∙ sym (ap (λ x. option_and_then (half_of S (own c item e ∷ done) c) (end_of x f)) (wire_set b k j w l));
  }
    where
      at_held : (t : Bool) (j : ℕ) → j < length b.wires → (if t then w.held else wire_held S done c j) ≡ (if t then w else wire_of b j).held
      at_held true j g = refl
      at_held false j g = h.holds j g

      at_end : (t : Bool) (j : ℕ) (f : Dir) → j < length b.wires → (if t then option_and_then (half_of S done c) (end_of w f) else wire_end S done c j f) ≡ option_and_then (half_of S done c) (end_of (if t then w else wire_of b j) f)
      at_end true j f g = refl
      at_end false j f g = h.ends j f g

      other_half : (o : Option Place) → option_and_then (half_of S (own c item e ∷ done) c) o ≡ option_and_then (half_of S done c) o
      other_half None = refl
      other_half (Some p) = half p

  self : (c : ℕ) → (c == c) ≡ true
  self c = eq-eqb c c refl

  -- the ends stay, whatever the hold
  ends_kept : (done : List Act) (c : ℕ) (b : Body) (k : ℕ) (t : Bool) → Agrees S done c b → (j : ℕ) (f : Dir) → j < length b.wires
      → wire_end S done c j f ≡ (if k == j then option_and_then (half_of S done c) (end_of (with_held (wire_of b k) t) f) else wire_end S done c j f)
  ends_kept done c b k t h j f l = go (k == j) refl
    where
      go : (x : Bool) → (k == j) ≡ x → wire_end S done c j f ≡ (if x then option_and_then (half_of S done c) (end_of (with_held (wire_of b k) t) f) else wire_end S done c j f)
      go true e = h.ends j f l ∙ ap (λ i. option_and_then (half_of S done c) (end_of (wire_of b i) f)) (sym (eqb-true k j e)) ∙ ap (option_and_then (half_of S done c)) (sym (end_held (wire_of b k) t f))
      go false e = refl

  pub own_hold : (done : List Act) (c : ℕ) (item : Item) (b : Body) (k : ℕ) → k < length b.wires → Agrees S done c b → Agrees S (own c item (effect.Hold k) ∷ done) c (with_wire b k (with_held (wire_of b k) true))
  unfolding model
  own_hold done c item b k l h =
      wires_agree done c item (effect.Hold k) b k (with_held (wire_of b k) true) l h (λ s. refl) (λ p. refl) (λ j g. ap (λ t. if t && k == j then true else wire_held S done c j) (self c)) (ends_kept done c b k true h)

  pub own_resume : (done : List Act) (c : ℕ) (item : Item) (b : Body) (k : ℕ) → k < length b.wires → Agrees S done c b → Agrees S (own c item (effect.Resume k) ∷ done) c (with_wire b k (with_held (wire_of b k) false))
  unfolding model
  own_resume done c item b k l h =
      wires_agree done c item (effect.Resume k) b k (with_held (wire_of b k) false) l h (λ s. refl) (λ p. refl) (λ j g. ap (λ t. if t && k == j then false else wire_held S done c j) (self c)) (ends_kept done c b k false h)

  -- the hold stays, whatever the ends
  hold_kept : (done : List Act) (c : ℕ) (b : Body) (k : ℕ) (f : Dir) (o : Option Place) → Agrees S done c b → (j : ℕ) → j < length b.wires
      → wire_held S done c j ≡ (if k == j then (with_end (wire_of b k) f o).held else wire_held S done c j)
  hold_kept done c b k f o h j l = go (k == j) refl
    where
      go : (x : Bool) → (k == j) ≡ x → wire_held S done c j ≡ (if x then (with_end (wire_of b k) f o).held else wire_held S done c j)
      go true e = h.holds j l ∙ ap (λ i. (wire_of b i).held) (sym (eqb-true k j e)) ∙ sym (held_kept (wire_of b k) f o)
      go false e = refl

  end_moved : (done : List Act) (c : ℕ) (b : Body) (k : ℕ) (f : Dir) (o : Option Place) → Agrees S done c b → (j : ℕ) (e : Dir) → j < length b.wires
      → (if (true && k == j) && same_dir f e then option_and_then (half_of S done c) o else wire_end S done c j e) ≡ (if k == j then option_and_then (half_of S done c) (end_of (with_end (wire_of b k) f o) e) else wire_end S done c j e)
  end_moved done c b k f o h j e l = go (k == j) refl
    where
      at : (y : Bool) → (k == j) ≡ true → same_dir f e ≡ y → (if y then option_and_then (half_of S done c) o else wire_end S done c j e) ≡ option_and_then (half_of S done c) (if y then o else end_of (wire_of b k) e)
      at true q s = refl
      at false q s = h.ends j e l ∙ ap (λ i. option_and_then (half_of S done c) (end_of (wire_of b i) e)) (sym (eqb-true k j q))

      go : (x : Bool) → (k == j) ≡ x → (if x && same_dir f e then option_and_then (half_of S done c) o else wire_end S done c j e) ≡ (if x then option_and_then (half_of S done c) (end_of (with_end (wire_of b k) f o) e) else wire_end S done c j e)
      go true q = at (same_dir f e) q refl ∙ sym (ap (option_and_then (half_of S done c)) (end_set (wire_of b k) f e o))
      go false q = refl

  pub own_unplug : (done : List Act) (c : ℕ) (item : Item) (b : Body) (k : ℕ) (f : Dir) → k < length b.wires → Agrees S done c b → Agrees S (own c item (effect.Unplug k f) ∷ done) c (with_wire b k (with_end (wire_of b k) f None))
  unfolding model
  own_unplug done c item b k f l h =
      wires_agree done c item (effect.Unplug k f) b k (with_end (wire_of b k) f None) l h (λ s. refl) (λ p. refl) (hold_kept done c b k f None h)
      (λ j e g. ap (λ t. if (t && k == j) && same_dir f e then None else wire_end S done c j e) (self c) ∙ end_moved done c b k f None h j e g)

  pub own_plug : (done : List Act) (c : ℕ) (item : Item) (b : Body) (k : ℕ) (f : Dir) (p : Place) → k < length b.wires → Agrees S done c b → Agrees S (own c item (effect.Plug k f p) ∷ done) c (with_wire b k (with_end (wire_of b k) f (Some p)))
  unfolding model
  own_plug done c item b k f p l h =
      wires_agree done c item (effect.Plug k f p) b k (with_end (wire_of b k) f (Some p)) l h (λ s. refl) (λ x. refl) (hold_kept done c b k f (Some p) h)
      (λ j e g. ap (λ t. if (t && k == j) && same_dir f e then half_of S done c p else wire_end S done c j e) (self c) ∙ end_moved done c b k f (Some p) h j e g)

  -- ---- an effect of its own on a slot

  pub filled_at : (b : Body) (p : Place) (s : ℕ) → is_place_in S b p ≡ true → p.slot ≡ Some s → (k : ℕ) × (child_in b s ≡ Some k)
  filled_at b p s h e =
      let r = some_of (λ k. nat_lt p.port (length (kind_of S k).ports)) (child_in b s)
      (subst (λ sl. (elim sl as (λ z. Bool) [ None ↦ nat_lt p.port (length (kind_of S b.kind).ports) | Some t ↦ option_map_or (λ k. nat_lt p.port (length (kind_of S k).ports)) (child_in b t) false ]) ≡ true) e h) in
      (r.0, r.1)

  pub place_at : (b : Body) (o : Option Place) (p : Place) → option_map_or (is_place_in S b) o true ≡ true → o ≡ Some p → is_place_in S b p ≡ true
  place_at b None p h e = absurd cc
  place_at b (Some q) p h e = ap (is_place_in S b) (sym (Some-injective e)) ∙ h

  -- an end of a channel of the body is plugged at no empty slot
  pub plugged_is_filled : (b : Body) (k : ℕ) (f : Dir) (p : Place) (s : ℕ) → BodyFits S b → k < length b.wires → end_of (wire_of b k) f ≡ Some p → p.slot ≡ Some s → (q : ℕ) × (child_in b s ≡ Some q)
  plugged_is_filled b k f p s h l e g = filled_at b p s (place_at b (end_of (wire_of b k) f) p (end_fits_at S b (wire_of b k) f (wire_fits S b k h l)) e) g

  pub own_create : (done : List Act) (c : ℕ) (item : Item) (b : Body) (slot kind : ℕ) (birth : Birth) → c < length (born S done) → BodyFits S b → slot < length b.slots → child_in b slot ≡ None → Agrees S done c b
      → Agrees S (own c item (effect.Create slot kind birth) ∷ done) c (with_slot b slot (Some kind))
  unfolding model
  own_create done c item b slot kind birth l fits r empty h = record {
    slots = λ s. at s (slot == s) refl ∙ sym (child_set b slot s (Some kind) r);
    holds = λ k g. ap (λ t. if t then wire_held S done c k else declared_held S (own c item (effect.Create slot kind birth) ∷ done) c k) (lt-ltb c (length (born S done)) l) ∙ h.holds k g;
    ends = λ k f g.
        ap (λ t. if t then wire_end S done c k f else declared_end S (own c item (effect.Create slot kind birth) ∷ done) c k f) (lt-ltb c (length (born S done)) l)
        ∙ h.ends k f g
        ∙ sym (end_same (own c item (effect.Create slot kind birth) ∷ done) done c (end_of (wire_of b k) f)
        (λ p s u v. (create_other done c s c item slot kind birth l (apart s (slot == s) refl (plugged_is_filled b k f p s fits g u v))).1));
  }
    where
      and_off : (a : Bool) → (a && false) ≡ false
      and_off true = refl
      and_off false = refl

      apart : (s : ℕ) (t : Bool) → (slot == s) ≡ t → (q : ℕ) × (child_in b s ≡ Some q) → (c == c && slot == s) ≡ false
      apart s true e q = absurd (let g : None ≡ Some q.0 = sym empty ∙ ap (child_in b) (eqb-true slot s e) ∙ q.1 in cc)
      apart s false e q = ap (λ t. c == c && t) e ∙ and_off (c == c)

      at : (s : ℕ) (t : Bool) → (slot == s) ≡ t → kind_in S (own c item (effect.Create slot kind birth) ∷ done) c s ≡ (if slot == s then Some kind else child_in b s)
      at s true e =
          let news = created S (born S done) c slot kind birth in
          let n = length (born S done) in
          ap (λ o. option_map (λ i. i.kind) (option_and_then (slice_get (born S done ++ news)) (either o (occupant S done c s)))) (among_created done c s c slot kind birth l ∙ ap (λ t. if t && slot == s then Some n else None) (self c) ∙ ap (λ t. if t then Some n else None) e)
          ∙ ap (option_map (λ i. i.kind)) (ap (slice_get (born S done ++ news)) (let z : n ≡ n + 0 = omega arith in z) ∙ get_right (born S done) news 0 ∙ tree_head S depth_limit n (record { kind = kind; birth = birth; ancestry = (c, slot) ∷ ancestry_of S (born S done) c }))
          ∙ sym (ap (λ t. if t then Some kind else child_in b s) e)
      at s false e =
          (create_other done c s c item slot kind birth l (ap (λ t. c == c && t) e ∙ and_off (c == c))).0 ∙ h.slots s ∙ sym (ap (λ t. if t then Some kind else child_in b s) e)

  pub unplugged : (b : Body) (k : ℕ) (f : Dir) (p : Place) (s t : ℕ) → is_plugged_at b s ≡ false → k < length b.wires → end_of (wire_of b k) f ≡ Some p → p.slot ≡ Some t → (t == s) ≡ false
  unplugged b k f p s t h l e g =
      ap (λ o. option_map_or (λ x. x == s) o false) (sym g) ∙ ap (is_at_slot s) (sym e) ∙ by_end f (none_at (λ w. is_at_slot s w.plus || is_at_slot s w.minus) b.wires k no_wire h l)
    where
      left : (a b : Bool) → (a || b) ≡ false → a ≡ false
      left true b e = absurd cc
      left false b e = refl

      right : (a b : Bool) → (a || b) ≡ false → b ≡ false
      right true b e = absurd cc
      right false b e = e

      by_end : (f : Dir) → (is_at_slot s (wire_of b k).plus || is_at_slot s (wire_of b k).minus) ≡ false → is_at_slot s (end_of (wire_of b k) f) ≡ false
      by_end Plus q = left _ _ q
      by_end Minus q = right _ _ q

  pub own_destroy : (done : List Act) (c : ℕ) (item : Item) (b : Body) (slot : ℕ) → slot < length b.slots → is_plugged_at b slot ≡ false → Agrees S done c b
      → Agrees S (own c item (effect.Destroy slot) ∷ done) c (with_slot b slot None)
  unfolding model
  own_destroy done c item b slot r free h = record {
    slots = λ s.
        ap (λ t. option_map (λ i. i.kind) (option_and_then (slice_get (born S done)) (if t && slot == s then None else occupant S done c s))) (self c)
        ∙ at s (slot == s) ∙ sym (child_set b slot s None r);
    holds = h.holds;
    ends = λ k f g.
        h.ends k f g
        ∙ sym (end_same (own c item (effect.Destroy slot) ∷ done) done c (end_of (wire_of b k) f) (λ p s u v.
        ap (λ t. if c == c && t then None else occupant S done c s) (flip slot s (unplugged b k f p slot s free g u v)) ∙ ap (λ t. if t then None else occupant S done c s) (and_off (c == c))));
  }
    where
      and_off : (a : Bool) → (a && false) ≡ false
      and_off true = refl
      and_off false = refl

      flip : (s t : ℕ) → (t == s) ≡ false → (s == t) ≡ false
      flip s t e = elim (eqb_tells s t) [ inl g ↦ absurd (true_is_false (t == s) (eq-eqb t s (sym g.1)) e) | inr g ↦ g.0 ]

      at : (s : ℕ) (t : Bool) → option_map (λ i. i.kind) (option_and_then (slice_get (born S done)) (if t then None else occupant S done c s)) ≡ (if t then None else child_in b s)
      at s true = refl
      at s false = h.slots s
