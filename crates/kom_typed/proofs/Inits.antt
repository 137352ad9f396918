-- Each Init that is put to a component has the arguments with which it was created.
use Rattle.std.proofs.Common.{◌≡◌, ℕ, ℤ, ◌+◌, Bool, true, false, ◌||◌, ◌==◌, refl, sym, ap, ◌∙◌, subst, List, [], ◌∷◌, ◌++◌, length, Option, Some, None, inl, inr, arith, eq-eqb}
use Rattle.std.specs.Prelude.{slice_get, unwrap_or}
use Rattle.std.specs.List.{enumerate_from, flat_map, list_any}
use Rattle.std.specs.Option.{option_map_or}
use Rattle.std.proofs.lemmas.Bool.{eqb-true}
use Rattle.std.proofs.lemmas.Option.{slice_get_within}
use Rattle.kom_base.specs.Lists.{either, find_map, first, if_so}
use Rattle.kom_lang.specs.Declarations.{Declarations, has_init, is_init, kind_of}
use Rattle.kom_lang.specs.declared.stmt.Handler.{Handler}
use Rattle.kom_lang.specs.declared.stmt.On.{On}
use Rattle.kom_lang.specs.declared.stmt.On.TheVariants as on
use Rattle.kom_lang.specs.declared.body.Body.{Body}
use Rattle.kom_lang.specs.declared.body.Birth.{Birth}
use Rattle.kom_lang.specs.declared.body.Birth.TheVariants.{Args, State}
use Rattle.kom_lang.specs.declared.body.Effect.{Effect}
use Rattle.kom_lang.specs.declared.body.Effect.TheVariants as effect
use Rattle.kom_system.specs.Fitting.{arity, init_parameters}
use Rattle.kom_record.specs.Plans.{is_init_of}
use Rattle.kom_record.specs.declared.item.Control.{Control as ControlItem}
use Rattle.kom_record.specs.declared.item.Control.TheVariants.{Init, Start, Stop, Fault, Dump, Dumped}
use Rattle.kom_record.specs.declared.item.Item.{Item}
use Rattle.kom_record.specs.declared.item.Item.TheVariants.{Control, Arrival}
use Rattle.kom_record.specs.declared.entry.Outcome.TheVariants as outcome
use Rattle.kom_record.specs.declared.entry.Entry.{Entry}
use Rattle.kom_record.specs.declared.entry.Entry.TheVariants.{Took, Did, Moved}
use Rattle.kom_record.specs.Entries.{History, Act, acts, acts_of, item_at}
use Rattle.kom_record.specs.Instances.{Instance, root_tree, born, born_after, created, occupant, ancestry_of}
use Rattle.kom_record.specs.Bodies.{nearest}
use Rattle.kom_record.specs.Controls.{inits, inits_by, inits_for, to_child, to_children, to_nearest, to_parent, put_by_effect, put_by_acts, put_by_item, putting, control_put, fault_in}
use Rattle.kom_laws.proofs.Members.{IsIn, here, there, Some-injective}
use Rattle.kom_laws.proofs.Rising.{in_append}
use Rattle.kom_laws.proofs.ListFacts.{get_right, in_flat, numbered}
use Rattle.kom_laws.proofs.InstanceLaws.{instance_stays}
use Rattle.kom_agree.specs.Bodies.{InstanceFits, birth_fits}

in_so : {X : Type 0} (b : Bool) (x : X) (xs : List X) → IsIn x (if_so b xs) → (b ≡ true) × IsIn x xs
in_so true x xs h = (refl, h)
in_so false x xs h = elim h [ ]

in_one : {X : Type 0} (x y : X) → IsIn x (y ∷ []) → x ≡ y
in_one x x' here = refl
in_one x y (there h) = elim h [ ]

-- the control item is an Init
abbrev IsInit : ControlItem → Type 0
IsInit (Init vs) = Unit {0}
IsInit k = ⊥

no_init : (k l : ControlItem) → k ≡ l → (IsInit l → ⊥) → IsInit k → ⊥
no_init k l e n i = n (subst IsInit e i)

-- ---- an init handler takes as many arguments as the arity says

arity_at : (o : Option ℕ) (rest : Option ℕ) (n : ℕ) → o ≡ Some n → unwrap_or (either o rest) 0 ≡ n
arity_at (Some m) rest n e = Some-injective e
arity_at None rest n e = absurd cc

is_init_with : (x : On) → is_init x ≡ true → (n : ℕ) × (init_parameters x ≡ Some n) × (is_init_of n x ≡ true)
is_init_with (on.Init names) e = (length names, refl, eq-eqb (length names) (length names) refl)
is_init_with (on.Event k p) e = absurd cc
is_init_with on.Start e = absurd cc
is_init_with on.Stop e = absurd cc
is_init_with (on.Fault a b) e = absurd cc
is_init_with (on.Dumped a) e = absurd cc

no_parameters : (x : On) → is_init x ≡ false → init_parameters x ≡ None
no_parameters (on.Init names) e = absurd cc
no_parameters (on.Event k p) e = refl
no_parameters on.Start e = refl
no_parameters on.Stop e = refl
no_parameters (on.Fault a b) e = refl
no_parameters (on.Dumped a) e = refl

or_true : (b : Bool) → (b || true) ≡ true
or_true true = refl
or_true false = refl

abbrev taken_by : ℕ → List Handler → Bool
taken_by n hs = list_any (λ h. is_init_of n h.on) hs

abbrev least_arity : List Handler → Option ℕ
least_arity hs = find_map (λ h. init_parameters h.on) hs

takes_at : (h : Handler) (hs : List Handler) (b : Bool) → is_init h.on ≡ b → (b || list_any (λ h. is_init h.on) hs) ≡ true → (list_any (λ h. is_init h.on) hs ≡ true → taken_by (unwrap_or (least_arity hs) 0) hs ≡ true)
    → taken_by (unwrap_or (either (init_parameters h.on) (least_arity hs)) 0) (h ∷ hs) ≡ true
takes_at h hs true q f rest =
    let r = is_init_with h.on q in
    ap (λ n. is_init_of n h.on || taken_by n hs) (arity_at (init_parameters h.on) (least_arity hs) r.0 r.1)
    ∙ ap (λ b. b || taken_by r.0 hs) r.2
takes_at h hs false q f rest =
    ap (λ o. is_init_of (unwrap_or (either o (least_arity hs)) 0) h.on || taken_by (unwrap_or (either o (least_arity hs)) 0) hs) (no_parameters h.on q)
    ∙ ap (λ b. is_init_of (unwrap_or (least_arity hs) 0) h.on || b) (rest f)
    ∙ or_true (is_init_of (unwrap_or (least_arity hs) 0) h.on)

takes_arity : (hs : List Handler) → list_any (λ h. is_init h.on) hs ≡ true → taken_by (unwrap_or (least_arity hs) 0) hs ≡ true
takes_arity [] e = absurd cc
takes_arity (h ∷ hs) e = takes_at h hs (is_init h.on) refl e (takes_arity hs)

module _ (S : Declarations) where
  -- an instance that was created in range has its Init with so many values as the handler has parameters
  init_fits_by : (kind : ℕ) (birth : Birth) (vs : List ℤ) → birth_fits S kind birth ≡ true → IsIn (Init vs) (inits_by S kind birth) → list_any (λ h. is_init_of (length vs) h.on) (kind_of S kind).handlers ≡ true
  init_fits_by kind (Args us) vs f h =
      let r = in_so (has_init (kind_of S kind)) (Init vs) (Init us ∷ []) h in
      let e = in_one (Init vs) (Init us) r.1 in
      let same : vs ≡ us = cc in
      let n : length vs ≡ arity (kind_of S kind) = ap length same ∙ eqb-true (length us) (arity (kind_of S kind)) f in
      ap (λ n. taken_by n (kind_of S kind).handlers) n ∙ takes_arity (kind_of S kind).handlers r.0
  init_fits_by kind (State us) vs f h = elim h [ ]

  pub init_fits : (i : Instance) (vs : List ℤ) → InstanceFits S i → IsIn (Init vs) (inits S i) → list_any (λ h. is_init_of (length vs) h.on) (kind_of S i.kind).handlers ≡ true
  init_fits i vs f h = init_fits_by i.kind i.birth vs f.birth h

  -- ---- whose Init it is

  -- the Init is that of the instance c among these
  abbrev pub IsOf : List Instance → ℕ → List ℤ → Type 0
  IsOf is c vs = (i : Instance) × (slice_get is c ≡ Some i) × IsIn (Init vs) (inits S i)

  from_new : (n c : ℕ) (is old : List Instance) (vs : List ℤ) → length old ≡ n → IsIn (Init vs) (inits_for S c n is) → IsOf (old ++ is) c vs
  unfolding inits_for
  from_new n c is old vs l h =
      let f = in_flat (λ p. if_so (p.0 == c) (inits S p.1)) (enumerate_from n is) (Init vs) h in
      let m = numbered n is f.0 f.1 in
      let r = in_so (f.0.0 == c) (Init vs) (inits S f.0.1) f.2 in
      let e = eqb-true f.0.0 c r.0 in
      let at : c ≡ length old + m.0 = omega (arith, l, m.1, e) in
      (f.0.1, ap (slice_get (old ++ is)) at ∙ get_right old is m.0 ∙ m.2, r.1)

  later : (done : List Act) (a : Act) (c : ℕ) (vs : List ℤ) → IsOf (born S done) c vs → IsOf (born S (a ∷ done)) c vs
  later done a c vs r = (r.0, instance_stays S (a ∷ []) done c (slice_get_within (born S done) c r.0 r.1) ∙ r.1, r.2)

  all_later : (mine done : List Act) (c : ℕ) (vs : List ℤ) → IsOf (born S done) c vs → IsOf (born S (mine ++ done)) c vs
  all_later mine done c vs r = (r.0, instance_stays S mine done c (slice_get_within (born S done) c r.0 r.1) ∙ r.1, r.2)

  not_to_child : (b : Bool) (k : ControlItem) (vs : List ℤ) → (IsInit k → ⊥) → IsIn (Init vs) (if_so b (k ∷ [])) → ⊥
  not_to_child b k vs n h = let r = in_so b (Init vs) (k ∷ []) h in no_init (Init vs) k (in_one (Init vs) k r.1) n tt

  not_to_nearest : (P : History) (c d n : ℕ) (vs : List ℤ) (o : Option (ℕ × ℕ)) → IsIn (Init vs) (option_map_or (λ q. if_so (q.0 == c) (Fault q.1 n ∷ [])) o []) → ⊥
  not_to_nearest P c d n vs None h = elim h [ ]
  not_to_nearest P c d n vs (Some q) h = not_to_child (q.0 == c) (Fault q.1 n) vs (λ x. x) h

  not_escalated : (P : History) (c d : ℕ) (vs : List ℤ) (o : Option ℕ) → IsIn (Init vs) (option_map_or (λ n. to_nearest S P c d n) o []) → ⊥
  unfolding to_nearest
  not_escalated P c d vs None h = elim h [ ]
  not_escalated P c d vs (Some n) h = not_to_nearest P c d n vs (nearest S P d) h

  by_effect : (P : History) (done : List Act) (c : ℕ) (a : Act) (vs : List ℤ) (e : Effect) → a.effect ≡ e → IsIn (Init vs) (put_by_effect S P done c a e) → IsOf (born S (a ∷ done)) c vs
  unfolding put_by_effect to_child born
  by_effect P done c a vs (effect.Create slot kind birth) q h =
      subst (λ e. IsOf (born_after S a e (born S done)) c vs) (sym q) (from_new (length (born S done)) c (created S (born S done) a.by slot kind birth) (born S done) vs refl h)
  by_effect P done c a vs (effect.Start s) q h = absurd (not_to_child (option_map_or (λ q. q == c) (occupant S done a.by s) false) Start vs (λ x. x) h)
  by_effect P done c a vs (effect.Stop s) q h = absurd (not_to_child (option_map_or (λ q. q == c) (occupant S done a.by s) false) Stop vs (λ x. x) h)
  by_effect P done c a vs (effect.Dump s) q h = absurd (not_to_child (option_map_or (λ q. q == c) (occupant S done a.by s) false) Dump vs (λ x. x) h)
  by_effect P done c a vs effect.Escalate q h = absurd (not_escalated P c a.by vs (fault_in a.item) h)
  by_effect P done c a vs (effect.Trigger p e) q h = elim h [ ]
  by_effect P done c a vs (effect.Answer e) q h = elim h [ ]
  by_effect P done c a vs (effect.Destroy s) q h = elim h [ ]
  by_effect P done c a vs (effect.Hold k) q h = elim h [ ]
  by_effect P done c a vs (effect.Resume k) q h = elim h [ ]
  by_effect P done c a vs (effect.Unplug k f) q h = elim h [ ]
  by_effect P done c a vs (effect.Plug k f p) q h = elim h [ ]

  by_acts : (P : History) (c : ℕ) (mine : List Act) (vs : List ℤ) → IsIn (Init vs) (put_by_acts S P c mine) → IsOf (born S (mine ++ acts P)) c vs
  unfolding put_by_acts
  by_acts P c [] vs h = elim h [ ]
  by_acts P c (a ∷ mine) vs h = elim (in_append (Init vs) (put_by_acts S P c mine) (put_by_effect S P (mine ++ acts P) c a a.effect) h) [
    | inl x ↦ later (mine ++ acts P) a c vs (by_acts P c mine vs x)
    | inr x ↦ by_effect P (mine ++ acts P) c a vs a.effect refl x
  ]

  not_to_children : (P : History) (c p : ℕ) (ss : List (ℕ × Option ℕ)) (k : ControlItem) (vs : List ℤ) → (IsInit k → ⊥) → IsIn (Init vs) (flat_map (λ s. to_child S (acts P) c p s.0 k) ss) → ⊥
  unfolding to_child
  not_to_children P c p ss k vs n h =
      let f = in_flat (λ s. to_child S (acts P) c p s.0 k) ss (Init vs) h in
      not_to_child (option_map_or (λ q. q == c) (occupant S (acts P) p f.0.0) false) k vs n f.2

  not_to_parent : (c : ℕ) (b : Body) (vs : List ℤ) (o : Option (ℕ × ℕ)) → IsIn (Init vs) (option_map_or (λ q. if_so (q.0 == c) (Dumped q.1 b.vars ∷ [])) o []) → ⊥
  not_to_parent c b vs None h = elim h [ ]
  not_to_parent c b vs (Some q) h = not_to_child (q.0 == c) (Dumped q.1 b.vars) vs (λ x. x) h

  not_by_item : (P : History) (c d : ℕ) (b : Body) (vs : List ℤ) (item : Item) → IsIn (Init vs) (put_by_item S P c d b item) → ⊥
  unfolding put_by_item to_children to_parent
  not_by_item P c d b vs (Control Start) h = not_to_children P c d (enumerate_from 0 b.slots) Start vs (λ x. x) h
  not_by_item P c d b vs (Control Stop) h = not_to_children P c d (enumerate_from 0 b.slots) Stop vs (λ x. x) h
  not_by_item P c d b vs (Control Dump) h = not_to_parent c b vs (first (ancestry_of S (born S (acts P)) d)) h
  not_by_item P c d b vs (Control (Init us)) h = elim h [ ]
  not_by_item P c d b vs (Control (Fault s n)) h = elim h [ ]
  not_by_item P c d b vs (Control (Dumped s us)) h = elim h [ ]
  not_by_item P c d b vs (Arrival x f m port side event back) h = elim h [ ]

  not_by_item_at : (P : History) (c d : ℕ) (b : Body) (vs : List ℤ) (o : Option Item) → IsIn (Init vs) (option_map_or (put_by_item S P c d b) o []) → ⊥
  not_by_item_at P c d b vs None h = elim h [ ]
  not_by_item_at P c d b vs (Some item) h = not_by_item P c d b vs item h

  by_entry : (P : History) (e : Entry) (c : ℕ) (vs : List ℤ) → IsIn (Init vs) (putting S P e c) → IsOf (born S (acts (e ∷ P))) c vs
  unfolding putting acts to_nearest
  by_entry P (Did w d took (outcome.Done b es) to places) c vs h =
      elim (in_append (Init vs) (option_map_or (put_by_item S P c d b) (item_at P took) []) (put_by_acts S P c (acts_of P (Did w d took (outcome.Done b es) to places))) h) [
        | inl x ↦ absurd (not_by_item_at P c d b vs (item_at P took) x)
        | inr x ↦ by_acts P c (acts_of P (Did w d took (outcome.Done b es) to places)) vs x
      ]
  by_entry P (Did w d took (outcome.Fault n) to places) c vs h = absurd (not_to_nearest P c d n vs (nearest S P d) h)
  by_entry P (Did w d took outcome.Void to places) c vs h = elim h [ ]
  by_entry P (Took w d item) c vs h = elim h [ ]
  by_entry P (Moved w t rs) c vs h = elim h [ ]

  -- each Init that was ever put to a component is its own
  pub own_init : (P : History) (c : ℕ) (vs : List ℤ) → IsIn (Init vs) (control_put S P c) → IsOf (born S (acts P)) c vs
  unfolding control_put acts born
  own_init [] c vs h = elim (in_append (Init vs) (inits_for S c 0 (root_tree S)) (if_so (c == 0) (Start ∷ [])) h) [
    | inl x ↦ from_new 0 c (root_tree S) [] vs refl x
    | inr x ↦ absurd (not_to_child (c == 0) Start vs (λ y. y) x)
  ]
  own_init (e ∷ P) c vs h = elim (in_append (Init vs) (control_put S P c) (putting S P e c) h) [
    | inl x ↦ all_later (acts_of P e) (acts P) c vs (own_init P c vs x)
    | inr x ↦ by_entry P e c vs x
  ]
