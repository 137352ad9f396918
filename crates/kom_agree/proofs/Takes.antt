-- The ends of a body's channels are plugged at ports that take them, whatever part of it changes.
use Rattle.std.proofs.Common.{◌≡◌, ℕ, ℤ, zero, suc, ◌<◌, Bool, true, false, if◌then◌else◌, ◌&&◌, ◌==◌, refl, sym, ap, ◌∙◌, subst, List, [], ◌∷◌, length, Option, Some, None, arith, inl, inr, eq-eqb, length-set}
use Rattle.std.specs.Prelude.{map, slice_get, slice_index_or}
use Rattle.std.specs.Option.{option_and_then, option_map, option_map_or}
use Rattle.std.proofs.lemmas.Bool.{eqb-true}
use Rattle.std.proofs.lemmas.Bool.Decides.{eqb_tells}
use Rattle.std.proofs.lemmas.List.{length-map}
use Rattle.kom_base.specs.declared.numbers.Dir.{Dir}
use Rattle.kom_base.specs.declared.numbers.Dir.TheVariants.{Plus, Minus}
use Rattle.kom_base.specs.Numbers.{agree, is_plus, same_dir}
use Rattle.kom_lang.specs.Bodies.{first_body, first_wire}
use Rattle.kom_lang.specs.Declarations.{Declarations, kind_of}
use Rattle.kom_lang.specs.Steps.{child_in, end_of, is_plugged_at, no_wire, port_of_channel, takes_end, wire_of, with_end, with_held, with_slot, with_subs, with_vars, with_wire}
use Rattle.kom_lang.specs.declared.kind.ChannelDecl.{ChannelDecl}
use Rattle.kom_lang.specs.declared.kind.Place.{Place}
use Rattle.kom_lang.specs.declared.kind.PortDecl.{PortDecl}
use Rattle.kom_lang.specs.declared.body.Body.{Body}
use Rattle.kom_lang.specs.declared.body.Birth.{Birth}
use Rattle.kom_lang.specs.declared.body.Wire.{Wire}
use Rattle.kom_system.specs.Fitting.{channel_fits, end_fits, place_fits, takes_at}
use Rattle.kom_system.specs.WellFormed.{IsDeclared}
use Rattle.kom_record.specs.Reaction.{with_status}
use Rattle.kom_laws.proofs.Members.{Some-injective}
use Rattle.kom_laws.proofs.ListFacts.{got_at}
use Rattle.kom_agree.specs.Bodies.{BodyFits, EndsTake, place_takes}
use Rattle.kom_agree.proofs.Born.{both, first_child, get_all, some_of}
use Rattle.kom_agree.proofs.Acts.{child_set, end_set, true_is_false, plugged_is_filled, unplugged, wire_set}

end_kept_held : (w : Wire) (t : Bool) (e : Dir) → end_of (with_held w t) e ≡ end_of w e
end_kept_held w t Plus = refl
end_kept_held w t Minus = refl

mapped_at : {X Y : Type 0} (f : X → Y) (xs : List X) (k : ℕ) (x : X) (d : Y) → slice_get xs k ≡ Some x → slice_index_or (map f xs) k d ≡ f x
mapped_at f [] k x d e = absurd cc
mapped_at f (y ∷ xs) zero x d e = ap f (Some-injective e)
mapped_at f (y ∷ xs) (suc k) x d e = mapped_at f xs k x d e

module _ (S : Declarations) where
  pub vars_take : (b : Body) (vars : List ℤ) → EndsTake S b → EndsTake S (with_vars b vars)
  vars_take b vars h = record { ends = h.ends }

  pub subs_take : (b : Body) (subs : List ℕ) → EndsTake S b → EndsTake S (with_subs b subs)
  subs_take b subs h = record { ends = h.ends }

  pub status_takes : (b : Body) (subs : List ℕ) (active initialised : Bool) → EndsTake S b → EndsTake S (with_status b subs active initialised)
  status_takes b subs active initialised h = record { ends = h.ends }

  -- one channel has other ends
  pub wire_takes : (b : Body) (k : ℕ) (w : Wire) → EndsTake S b → k < length b.wires → ((e : Dir) (p : Place) → end_of w e ≡ Some p → place_takes S b (port_of_channel S b k) e p ≡ true) → EndsTake S (with_wire b k w)
  wire_takes b k w h l new = record { ends = λ j e p g f. go j e p (omega (arith, g, length-set b.wires k w)) (k == j) refl (sym (ap (λ z. end_of z e) (wire_set b k j w l)) ∙ f) }
    where
      go : (j : ℕ) (e : Dir) (p : Place) → j < length b.wires → (t : Bool) → (k == j) ≡ t → end_of (if k == j then w else wire_of b j) e ≡ Some p → place_takes S b (port_of_channel S b j) e p ≡ true
      go j e p g true q f = subst (λ i. place_takes S b (port_of_channel S b i) e p ≡ true) (eqb-true k j q) (new e p (ap (λ t. end_of (if t then w else wire_of b j) e) (sym q) ∙ f))
      go j e p g false q f = h.ends j e p g (ap (λ t. end_of (if t then w else wire_of b j) e) (sym q) ∙ f)

  pub held_takes : (b : Body) (k : ℕ) (t : Bool) → EndsTake S b → k < length b.wires → EndsTake S (with_wire b k (with_held (wire_of b k) t))
  held_takes b k t h l = wire_takes b k (with_held (wire_of b k) t) h l (λ e p f. h.ends k e p l (sym (end_kept_held (wire_of b k) t e) ∙ f))

  moved_at : (b : Body) (k : ℕ) (f e : Dir) (o : Option Place) (p : Place) → EndsTake S b → k < length b.wires → ((p : Place) → o ≡ Some p → place_takes S b (port_of_channel S b k) f p ≡ true)
      → (if same_dir f e then o else end_of (wire_of b k) e) ≡ Some p → place_takes S b (port_of_channel S b k) e p ≡ true
  moved_at b k Plus Plus o p h l new g = new p g
  moved_at b k Plus Minus o p h l new g = h.ends k Minus p l g
  moved_at b k Minus Plus o p h l new g = h.ends k Plus p l g
  moved_at b k Minus Minus o p h l new g = new p g

  -- an end is moved to a place that takes it, or freed
  pub moved_takes : (b : Body) (k : ℕ) (f : Dir) (o : Option Place) → EndsTake S b → k < length b.wires → ((p : Place) → o ≡ Some p → place_takes S b (port_of_channel S b k) f p ≡ true) → EndsTake S (with_wire b k (with_end (wire_of b k) f o))
  moved_takes b k f o h l new = wire_takes b k (with_end (wire_of b k) f o) h l (λ e p g. moved_at b k f e o p h l new (sym (end_set (wire_of b k) f e o) ∙ g))

  slot_kept : (b : Body) (s : ℕ) (o : Option ℕ) (type : ℕ) (e : Dir) (port : ℕ) (sl : Option ℕ) → s < length b.slots → ((t : ℕ) → sl ≡ Some t → (s == t) ≡ false)
      → place_takes S b type e (record { slot = sl; port = port }) ≡ true → place_takes S (with_slot b s o) type e (record { slot = sl; port = port }) ≡ true
  slot_kept b s o type e port None l n h = h
  slot_kept b s o type e port (Some t) l n h =
      ap (λ c. option_map_or (λ k. option_map_or (takes_at type e true) (slice_get (kind_of S k).ports port) false) c false) (child_set b s t o l ∙ ap (λ x. if x then o else child_in b t) (n t refl)) ∙ h

  slot_takes : (b : Body) (s : ℕ) (o : Option ℕ) → EndsTake S b → s < length b.slots
      → ((k : ℕ) (e : Dir) (p : Place) (t : ℕ) → k < length b.wires → end_of (wire_of b k) e ≡ Some p → p.slot ≡ Some t → (s == t) ≡ false) → EndsTake S (with_slot b s o)
  slot_takes b s o h l n = record { ends = λ k e p g f. slot_kept b s o (port_of_channel S b k) e p.port p.slot l (λ t q. n k e p t g f q) (h.ends k e p g f) }

  -- a slot that was empty is filled
  pub filled_takes : (b : Body) (s : ℕ) (o : Option ℕ) → BodyFits S b → EndsTake S b → s < length b.slots → child_in b s ≡ None → EndsTake S (with_slot b s o)
  filled_takes b s o f h l none = slot_takes b s o h l (λ k e p t g q r. go t (s == t) refl (plugged_is_filled S b k e p t f g q r))
    where
      go : (t : ℕ) (x : Bool) → (s == t) ≡ x → (q : ℕ) × (child_in b t ≡ Some q) → x ≡ false
      go t false e q = refl
      go t true e q = absurd (let z : None ≡ Some q.0 = sym none ∙ ap (child_in b) (eqb-true s t e) ∙ q.1 in cc)

  -- a slot at which nothing is plugged is emptied
  pub emptied_takes : (b : Body) (s : ℕ) → EndsTake S b → s < length b.slots → is_plugged_at b s ≡ false → EndsTake S (with_slot b s None)
  emptied_takes b s h l free = slot_takes b s None h l (λ k e p t g q r. flip s t (unplugged S b k e p s t free g q r))
    where
      flip : (s t : ℕ) → (t == s) ≡ false → (s == t) ≡ false
      flip s t e = elim (eqb_tells s t) [ inl g ↦ absurd (true_is_false (t == s) (eq-eqb t s (sym g.1)) e) | inr g ↦ g.0 ]

  -- ---- a first body

  place_first : (k : ℕ) (birth : Birth) (depth type : ℕ) (e : Dir) (port : ℕ) (sl : Option ℕ) → place_fits S (kind_of S k) type e port sl ≡ true → place_takes S (first_body S k birth depth) type e (record { slot = sl; port = port }) ≡ true
  place_first k birth depth type e port None h = h
  place_first k birth depth type e port (Some s) h =
      let r = some_of (λ child. option_map_or (takes_at type e true) (slice_get (kind_of S child.kind).ports port) false) (option_and_then (λ s. s.child) (slice_get (kind_of S k).slots s)) h in
      ap (λ o. option_map_or (λ k. option_map_or (takes_at type e true) (slice_get (kind_of S k).ports port) false) o false) (first_child S k birth depth s ∙ ap (option_map (λ child. child.kind)) r.1) ∙ r.2

  end_first : (k : ℕ) (birth : Birth) (depth : ℕ) (d : ChannelDecl) (e : Dir) (p : Place) → channel_fits S (kind_of S k) d ≡ true → end_of (first_wire d) e ≡ Some p → place_takes S (first_body S k birth depth) d.port e p ≡ true
  end_first k birth depth d Plus p h f = place_first k birth depth d.port Plus p.port p.slot (sym (ap (end_fits S (kind_of S k) d.port Plus) f) ∙ (both _ _ (both _ _ (both _ _ h).1).0).0)
  end_first k birth depth d Minus p h f = place_first k birth depth d.port Minus p.port p.slot (sym (ap (end_fits S (kind_of S k) d.port Minus) f) ∙ (both _ _ (both _ _ (both _ _ h).1).0).1)

  pub first_takes : IsDeclared S → (k : ℕ) (birth : Birth) (depth : ℕ) → k < length S.kinds → EndsTake S (first_body S k birth depth)
  first_takes D k birth depth lt = record {
    ends = λ j e p g f.
        let d = got_at (kind_of S k).channels j (omega (arith, g, length-map (kind_of S k).channels first_wire)) in
        let fit = get_all (channel_fits S (kind_of S k)) (kind_of S k).channels j d.0 (both _ _ (both _ _ (both _ _ (both _ _ (D.kinds k lt).parts).1).1).0).0 d.1 in
        let at : wire_of (first_body S k birth depth) j ≡ first_wire d.0 = mapped_at first_wire (kind_of S k).channels j d.0 no_wire d.1 in
        ap (λ o. place_takes S (first_body S k birth depth) (option_map_or (λ c. c.port) o 0) e p) d.1 ∙ end_first k birth depth d.0 e p fit (sym (ap (λ w. end_of w e) at) ∙ f);
  }

  -- ---- plugs

  agree_true : (b : Bool) → agree b true ≡ b
  agree_true true = refl
  agree_true false = refl

  pub outside_takes : (type : ℕ) (e : Dir) (p : PortDecl) → takes_end type e p ≡ true → takes_at type e true p ≡ true
  outside_takes type e p h = ap (λ b. p.port == type && agree b (is_plus e)) (agree_true p.provided) ∙ h
