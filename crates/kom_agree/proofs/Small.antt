-- Through the small steps of a handling the body goes on to agree with the effects, and each effect
-- comes where its conditions hold.
use Rattle.std.proofs.Common.{◌≡◌, ℕ, ℤ, zero, suc, ◌<◌, Bool, true, false, cond, if◌then◌else◌, not, ◌||◌, ◌==◌, refl, sym, ap, ◌∙◌, subst, List, [], ◌∷◌, ◌++◌, length, filter, Option, Some, None, Result, Ok, Err, inl, inr, arith, length-set}
use Rattle.std.specs.Prelude.{reverse, map, slice_get, slice_set, nat_lt, is_none, is_some}
use Rattle.std.specs.List.{list_any, list_all}
use Rattle.std.specs.Option.{option_map, option_map_or, option_and_then}
use Rattle.std.proofs.lemmas.List.{append_assoc, reverse-append}
use Rattle.std.proofs.lemmas.Bool.{eqb-true, eq-eqb}
use Rattle.std.proofs.lemmas.Bool.Decides.{eqb_tells}
use Rattle.kom_base.specs.declared.numbers.Dir.{Dir}
use Rattle.kom_base.specs.declared.numbers.Dir.TheVariants.{Plus, Minus}
use Rattle.kom_base.specs.Lists.{either, on_ok}
use Rattle.kom_lang.specs.Declarations.{Declarations, kind_of, handler_of, is_init}
use Rattle.kom_lang.specs.Values.{Valuation, value, values}
use Rattle.kom_lang.specs.declared.kind.Place.{Place}
use Rattle.kom_lang.specs.declared.expr.Expr.{Expr}
use Rattle.kom_lang.specs.declared.body.Body.{Body}
use Rattle.kom_lang.specs.declared.body.Wire.{Wire}
use Rattle.kom_lang.specs.declared.body.Effect.{Effect}
use Rattle.kom_lang.specs.Steps.{with_vars, with_subs, with_slot, with_wire, wire_of, end_of, child_in, is_plugged_at, first_fault, is_at_slot}
use Rattle.kom_record.specs.declared.item.Item.{Item}
use Rattle.kom_record.specs.Entries.{Act, acts_for}
use Rattle.kom_record.specs.Instances.{born, occupant}
use Rattle.kom_record.specs.Channels.{half_of, wire_end}
use Rattle.kom_record.specs.Plans.{is_place_in, is_wire_in}
use Rattle.kom_laws.proofs.Members.{IsIn, here, there}
use Rattle.kom_laws.proofs.InstanceLaws.{occupant_born}
use Rattle.kom_agree.specs.Agrees.{Agrees, AgreesBefore, kind_in}
use Rattle.kom_agree.specs.Bodies.{BodyFits}
use Rattle.kom_agree.specs.Effects.{AreMet, IsMet}
use Rattle.kom_agree.proofs.Born.{both, both_of}
use Rattle.kom_agree.proofs.Acts.{true_is_false, child_set, outer_half, filled_at, place_at, plugged_is_filled, end_fits_at}

-- ---- small facts

pub either_false : (a b : Bool) → (a || b) ≡ false → (a ≡ false) × (b ≡ false)
either_false true b e = absurd cc
either_false false b e = (refl, e)

pub not_false : (b : Bool) → not b ≡ false → b ≡ true
not_false true e = refl
not_false false e = absurd cc

pub there_is : {X : Type 0} (o : Option X) → is_none o ≡ false → (x : X) × (o ≡ Some x)
there_is None e = absurd cc
there_is (Some x) e = (x, refl)

pub there_is_none : {X : Type 0} (o : Option X) → is_some o ≡ false → o ≡ None
there_is_none None e = refl
there_is_none (Some x) e = absurd cc

-- the checks before an effect all passed
free_at : (a : Bool) (n : ℕ) (rest : Option ℕ) → either (if a then Some n else None) rest ≡ None → (a ≡ false) × (rest ≡ None)
free_at true n rest e = absurd cc
free_at false n rest e = (refl, e)

pub passed : (a : Bool) (n : ℕ) (checks : List (Bool × ℕ)) → first_fault ((a, n) ∷ checks) ≡ None → (a ≡ false) × (first_fault checks ≡ None)
passed a n checks e = free_at a n (first_fault checks) e

-- as many values as expressions
values_at : (r : Result ℤ ℕ) (rs : Result (List ℤ) ℕ) (vs : List ℤ) (n : ℕ) → ((us : List ℤ) → rs ≡ Ok us → length us ≡ n) → on_ok r (λ v. on_ok rs (λ us. Ok (v ∷ us))) ≡ Ok vs → length vs ≡ suc n
values_at (Ok v) (Ok us) vs n h e = let f : v ∷ us ≡ vs = cc in let l = h us refl in let m : suc (length us) ≡ length vs = ap length f in omega (arith, l, m)
values_at (Ok v) (Err x) vs n h e = absurd cc
values_at (Err x) rs vs n h e = absurd cc

pub as_many : (es : List Expr) (s : Valuation) (vs : List ℤ) → values es s ≡ Ok vs → length vs ≡ length es
as_many [] s vs e = let f : [] ≡ vs = cc in ap length (sym f)
as_many (x ∷ es) s vs e = values_at (value x s) (values es s) vs (length es) (as_many es s) e

-- ---- lists of a body with one element changed

all_set : {X : Type 0} (f : X → Bool) (xs : List X) (k : ℕ) (x : X) → list_all f xs ≡ true → f x ≡ true → list_all f (slice_set xs k x) ≡ true
all_set f [] k x h e = refl
all_set f (y ∷ xs) zero x h e = both_of _ _ e (both _ _ h).1
all_set f (y ∷ xs) (suc k) x h e = both_of _ _ (both _ _ h).0 (all_set f xs k x (both _ _ h).1 e)

pub all_more : {X : Type 0} (f : X → Bool) (xs : List X) (x : X) → list_all f xs ≡ true → f x ≡ true → list_all f (xs ++ x ∷ []) ≡ true
all_more f [] x h e = both_of _ _ e refl
all_more f (y ∷ xs) x h e = both_of _ _ (both _ _ h).0 (all_more f xs x (both _ _ h).1 e)

pub all_kept : {X : Type 0} (f g : X → Bool) (xs : List X) → list_all f xs ≡ true → list_all f (filter g xs) ≡ true
all_kept f g [] h = refl
all_kept f g (x ∷ xs) h = go (g x) (all_kept f g xs (both _ _ h).1)
  where
    go : (b : Bool) → list_all f (filter g xs) ≡ true → list_all f (cond b (x ∷ filter g xs) (filter g xs)) ≡ true
    go true r = both_of _ _ (both _ _ h).0 r
    go false r = r

all_like : {X : Type 0} (f g : X → Bool) (xs : List X) → ((x : X) → IsIn x xs → f x ≡ true → g x ≡ true) → list_all f xs ≡ true → list_all g xs ≡ true
all_like f g [] k h = refl
all_like f g (x ∷ xs) k h = both_of _ _ (k x here (both _ _ h).0) (all_like f g xs (λ y m. k y (there m)) (both _ _ h).1)

-- ---- effects at their places

abbrev pub so_far : ℕ → Item → List Act → List Effect → List Act
so_far c item done es = acts_for c (Some item) es ++ done

pub one_first : (c : ℕ) (item : Item) (done : List Act) (e : Effect) (es : List Effect) → so_far c item done (e ∷ es) ≡ so_far c item (record { by = c; item = item; effect = e } ∷ done) es
one_first c item done e es =
    ap (λ r. r ++ done) (reverse-append (record { by = c; item = item; effect = e } ∷ []) (map (λ x. record { by = c; item = item; effect = x }) es))
    ∙ append_assoc (reverse (map (λ x. record { by = c; item = item; effect = x }) es)) (record { by = c; item = item; effect = e } ∷ []) done

module _ (S : Declarations) where
  pub met_more : (done : List Act) (c K : ℕ) (item : Item) (es : List Effect) (e : Effect) → AreMet S done c K item es → IsMet S (so_far c item done es) c K item e → AreMet S done c K item (es ++ e ∷ [])
  met_more done c K item [] e h k = (k, tt)
  met_more done c K item (x ∷ es) e h k = (h.0, met_more (record { by = c; item = item; effect = x } ∷ done) c K item es e h.1 (subst (λ d. IsMet S d c K item e) (one_first c item done x es) k))

  pub agreed_more : (done : List Act) (c : ℕ) (item : Item) (es : List Effect) (e : Effect) (b : Body) → AgreesBefore S done c item es → Agrees S (so_far c item done es) c b → AgreesBefore S done c item (es ++ e ∷ [])
  agreed_more done c item [] e b h k = ((b, k), tt)
  agreed_more done c item (x ∷ es) e b h k = (h.0, agreed_more (record { by = c; item = item; effect = x } ∷ done) c item es e b h.1 (subst (λ d. Agrees S d c b) (one_first c item done x es) k))

  -- ---- what a slot and an end of the body say of the run

  kind_by : (done : List Act) (c s : ℕ) (o : Option ℕ) → occupant S done c s ≡ o → kind_in S done c s ≡ None → o ≡ None
  kind_by done c s None e h = refl
  kind_by done c s (Some q) e h =
      let b = occupant_born S done c s q e in
      let f : kind_in S done c s ≡ Some b.0.kind = ap (λ o. option_map (λ i. i.kind) (option_and_then (slice_get (born S done)) o)) e ∙ ap (option_map (λ i. i.kind)) b.1 in
      absurd (let g : None ≡ Some b.0.kind = sym h ∙ f in cc)

  pub empty_slot : (done : List Act) (c : ℕ) (b : Body) (s : ℕ) → Agrees S done c b → child_in b s ≡ None → occupant S done c s ≡ None
  empty_slot done c b s h e = let o = kind_by done c s (occupant S done c s) refl (h.slots s ∙ e) in o

  filled_by : (done : List Act) (c s k : ℕ) (o : Option ℕ) → occupant S done c s ≡ o → kind_in S done c s ≡ Some k → is_some o ≡ true
  filled_by done c s k (Some q) e h = refl
  filled_by done c s k None e h = absurd (let f : None ≡ Some k = sym (ap (λ o. option_map (λ i. i.kind) (option_and_then (slice_get (born S done)) o)) e) ∙ h in cc)

  pub filled_slot : (done : List Act) (c : ℕ) (b : Body) (s k : ℕ) → Agrees S done c b → child_in b s ≡ Some k → is_some (occupant S done c s) ≡ true
  filled_slot done c b s k h e = filled_by done c s k (occupant S done c s) refl (h.slots s ∙ e)

  half_at : (done : List Act) (c port : ℕ) (sl : Option ℕ) → ((s : ℕ) → sl ≡ Some s → is_some (occupant S done c s) ≡ true) → is_some (half_of S done c (record { slot = sl; port = port })) ≡ true
  unfolding half_of
  half_at done c port None h = refl
  half_at done c port (Some s) h = go (occupant S done c s) (h s refl)
    where
      go : (o : Option ℕ) → is_some o ≡ true → is_some (option_map (outer_half port) o) ≡ true
      go None e = absurd cc
      go (Some q) e = refl

  pub half_there : (done : List Act) (c : ℕ) (p : Place) → ((s : ℕ) → p.slot ≡ Some s → is_some (occupant S done c s) ≡ true) → is_some (half_of S done c p) ≡ true
  half_there done c p h = half_at done c p.port p.slot h

  -- an end that is plugged in the body is plugged in the run
  pub end_there : (done : List Act) (c : ℕ) (b : Body) (k : ℕ) (e : Dir) (p : Place) → Agrees S done c b → BodyFits S b → k < length b.wires → end_of (wire_of b k) e ≡ Some p → is_some (wire_end S done c k e) ≡ true
  end_there done c b k e p h f l q =
      ap is_some (h.ends k e l ∙ ap (option_and_then (half_of S done c)) q)
      ∙ half_there done c p (λ s g. let r = plugged_is_filled S b k e p s f l q g in filled_slot done c b s r.0 h r.1)

  -- ---- bodies that fit, with one part changed

  pub vars_fit : (b : Body) (i : ℕ) (v : ℤ) → BodyFits S b → BodyFits S (with_vars b (slice_set b.vars i v))
  vars_fit b i v h = record { kind = h.kind; vars = length-set b.vars i v ∙ h.vars; slots = h.slots; wires = h.wires; subs = h.subs; children = h.children; places = h.places; some_depth = h.some_depth; depth = h.depth }

  pub subs_fit : (b : Body) (subs : List ℕ) → list_all (λ h. option_map_or (λ x. not (is_init x.on)) (handler_of (kind_of S b.kind) h) false) subs ≡ true → BodyFits S b → BodyFits S (with_subs b subs)
  subs_fit b subs e h = record { kind = h.kind; vars = h.vars; slots = h.slots; wires = h.wires; subs = e; children = h.children; places = h.places; some_depth = h.some_depth; depth = h.depth }

  pub wire_fit : (b : Body) (k : ℕ) (w : Wire) → BodyFits S b → is_wire_in S b w ≡ true → BodyFits S (with_wire b k w)
  wire_fit b k w h e = record {
    kind = h.kind;
    vars = h.vars;
    slots = h.slots;
    wires = length-set b.wires k w ∙ h.wires;
    subs = h.subs;
    children = h.children;
    places = all_set (is_wire_in S b) b.wires k w h.places e;
    some_depth = h.some_depth;
    depth = h.depth;
  }

  -- a place names a port of who is in its slot after the slot s was changed
  place_kept : (b : Body) (s : ℕ) (o : Option ℕ) (port : ℕ) (sl : Option ℕ) → s < length b.slots → ((t : ℕ) → sl ≡ Some t → (s == t) ≡ false)
      → is_place_in S b (record { slot = sl; port = port }) ≡ true → is_place_in S (with_slot b s o) (record { slot = sl; port = port }) ≡ true
  place_kept b s o port None l n h = h
  place_kept b s o port (Some t) l n h =
      ap (λ c. option_map_or (λ k. nat_lt port (length (kind_of S k).ports)) c false) (child_set b s t o l ∙ ap (λ x. if x then o else child_in b t) (n t refl)) ∙ h

  end_kept : (b : Body) (s : ℕ) (o : Option ℕ) (e : Option Place) → s < length b.slots → ((p : Place) (t : ℕ) → e ≡ Some p → p.slot ≡ Some t → (s == t) ≡ false)
      → option_map_or (is_place_in S b) e true ≡ true → option_map_or (is_place_in S (with_slot b s o)) e true ≡ true
  end_kept b s o None l n h = refl
  end_kept b s o (Some p) l n h = place_kept b s o p.port p.slot l (λ t g. n p t refl g) h

  wire_kept : (b : Body) (s : ℕ) (o : Option ℕ) (w : Wire) → s < length b.slots → ((e : Dir) (p : Place) (t : ℕ) → end_of w e ≡ Some p → p.slot ≡ Some t → (s == t) ≡ false)
      → is_wire_in S b w ≡ true → is_wire_in S (with_slot b s o) w ≡ true
  wire_kept b s o w l n h = both_of _ _ (end_kept b s o w.plus l (n Plus) (both _ _ h).0) (end_kept b s o w.minus l (n Minus) (both _ _ h).1)

  pub slot_fit : (b : Body) (s : ℕ) (o : Option ℕ) → BodyFits S b → s < length b.slots → option_map_or (λ k. nat_lt k (length S.kinds)) o true ≡ true
      → ((w : Wire) → IsIn w b.wires → is_wire_in S b w ≡ true → (e : Dir) (p : Place) (t : ℕ) → end_of w e ≡ Some p → p.slot ≡ Some t → (s == t) ≡ false) → BodyFits S (with_slot b s o)
  slot_fit b s o h l e n = record {
    kind = h.kind;
    vars = h.vars;
    slots = length-set b.slots s o ∙ h.slots;
    wires = h.wires;
    subs = h.subs;
    children = all_set (λ s. option_map_or (λ k. nat_lt k (length S.kinds)) s true) b.slots s o h.children e;
    places = all_like (is_wire_in S b) (is_wire_in S (with_slot b s o)) b.wires (λ w m g. wire_kept b s o w l (n w m g) g) h.places;
    some_depth = h.some_depth;
    depth = h.depth;
  }

  -- places at filled slots alone
  pub filled_apart : (b : Body) (s : ℕ) (w : Wire) → child_in b s ≡ None → is_wire_in S b w ≡ true → (e : Dir) (p : Place) (t : ℕ) → end_of w e ≡ Some p → p.slot ≡ Some t → (s == t) ≡ false
  filled_apart b s w n h e p t f g = go (s == t) refl
    where
      go : (x : Bool) → (s == t) ≡ x → x ≡ false
      go false q = refl
      go true q =
          let r = filled_at S b p t (place_at S b (end_of w e) p (end_fits_at S b w e h) f) g in
          absurd (let z : None ≡ Some r.0 = sym n ∙ ap (child_in b) (eqb-true s t q) ∙ r.1 in cc)

  pub free_apart : (b : Body) (s : ℕ) (w : Wire) → is_plugged_at b s ≡ false → IsIn w b.wires → (e : Dir) (p : Place) (t : ℕ) → end_of w e ≡ Some p → p.slot ≡ Some t → (s == t) ≡ false
  free_apart b s w n m e p t f g =
      let r = none_in (λ w. is_at_slot s w.plus || is_at_slot s w.minus) b.wires w n m in
      let q : (t == s) ≡ false = ap (λ o. option_map_or (λ x. x == s) o false) (sym g) ∙ ap (is_at_slot s) (sym f) ∙ by_end e (either_false _ _ r) in
      elim (eqb_tells s t) [ inl k ↦ absurd (true_is_false (t == s) (eq-eqb t s (sym k.1)) q) | inr k ↦ k.0 ]
    where
      none_in : {X : Type 0} (f : X → Bool) (xs : List X) (x : X) → list_any f xs ≡ false → IsIn x xs → f x ≡ false
      none_in f [] x e h = elim h [ ]
      none_in f (x ∷ xs) x' e here = (either_false _ _ e).0
      none_in f (y ∷ xs) x e (there h) = none_in f xs x (either_false _ _ e).1 h

      by_end : (f : Dir) → (is_at_slot s w.plus ≡ false) × (is_at_slot s w.minus ≡ false) → is_at_slot s (end_of w f) ≡ false
      by_end Plus q = q.0
      by_end Minus q = q.1
