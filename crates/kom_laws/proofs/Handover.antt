-- The state that a replacement starts from is the state that its predecessor dumped.
use Rattle.std.proofs.Common.{◌≡◌, ℕ, ℤ, zero, suc, ◌+◌, ◌-◌, ◌<◌, ◌≤◌, Bool, true, false, refl, sym, ap, ◌∙◌, subst, List, [], ◌∷◌, ◌++◌, length, drop, Option, Some, None, arith, ◌==◌, eq-eqb, if◌then◌else◌}
use Rattle.std.specs.Prelude.{slice_get, nat_lt}
use Rattle.std.specs.List.{flat_map, enumerate_from}
use Rattle.std.specs.Option.{option_map, option_map_or}
use Rattle.std.proofs.lemmas.Bool.{eqb-true, ltb-true, ltb-false}
use Rattle.std.proofs.lemmas.List.{append_assoc, append-nil, length-append}
use Rattle.std.proofs.Math.Seq.{drop-append_seam}
use Rattle.kom_base.specs.Lists.{first, if_so}
use Rattle.kom_lang.specs.Declarations.{Declarations, kind_of, has_init}
use Rattle.kom_lang.specs.declared.body.Body.{Body}
use Rattle.kom_lang.specs.declared.body.Birth.{Birth}
use Rattle.kom_lang.specs.declared.body.Birth.TheVariants.{Args, State}
use Rattle.kom_lang.specs.declared.body.Effect.{Effect}
use Rattle.kom_lang.specs.declared.body.Effect.TheVariants as effect
use Rattle.kom_record.specs.declared.plan.Plan.{Plan}
use Rattle.kom_record.specs.declared.item.Control.{Control as ControlItem}
use Rattle.kom_record.specs.declared.item.Control.TheVariants.{Init, Start, Stop, Fault, Dump, Dumped}
use Rattle.kom_record.specs.declared.item.Item.{Item}
use Rattle.kom_record.specs.declared.item.Item.TheVariants.{Control, Arrival}
use Rattle.kom_record.specs.declared.entry.Outcome.TheVariants as outcome
use Rattle.kom_record.specs.declared.entry.Entry.{Entry}
use Rattle.kom_record.specs.declared.entry.Entry.TheVariants.{Took, Did, Moved}
use Rattle.kom_record.specs.Entries.{History, Act, acts, acts_of, item_at, entry_at, in_hand}
use Rattle.kom_record.specs.Instances.{Instance, alive, root_tree, born, ancestry_of}
use Rattle.kom_record.specs.Bodies.{body_at, outcome_of, nearest}
use Rattle.kom_record.specs.Controls.{inits, inits_by, inits_for, to_child, to_nearest, to_children, to_parent, put_by_effect, put_by_acts, put_by_item, putting, control_put, getting, control_got, control_waiting, control_of, fault_in}
use Rattle.kom_record.specs.Ready.{next}
use Rattle.kom_record.specs.Handed.{HasDoneNothing, IsStateDumpedTo, HandsOverState}
use Rattle.kom_record.specs.Legal.{IsLegal, MayDo, MayTake}
use Rattle.kom_laws.specs.Laws.{CreatesFromDumpsAlone, IsReaction}
use Rattle.kom_laws.proofs.Members.{Some-injective}
use Rattle.kom_laws.proofs.ListFacts.{get_left, get_right}
use Rattle.kom_laws.proofs.NextItem.{mapped}
use Rattle.kom_laws.proofs.ActLaws.{job_entry, job_item}
use Rattle.kom_laws.proofs.ControlLaws.{put_more, control_first, body_other, body_own, body_born}
use Rattle.kom_laws.proofs.Handlings.{found_in, legal_before, last_allowed, reaction}

-- ---- what was got is a beginning of what was put

first_of : {X : Type 0} (xs : List X) (x : X) → first xs ≡ Some x → (ys : List X) × (xs ≡ x ∷ ys)
first_of [] x e = absurd cc
first_of (y ∷ xs) x e = let s : y ≡ x = Some-injective e in (xs, ap (λ z. z ∷ xs) s)

module _ (S : Declarations) (Z : Plan) (p : ℕ) where
  abbrev Rest : History → Type 0
  Rest P = (rest : List ControlItem) × (control_put S P p ≡ control_got S P p ++ rest)

  -- an entry that p gets nothing from
  same_got : (P : History) (new : List ControlItem) → Rest P → (rest : List ControlItem) × (control_put S P p ++ new ≡ (control_got S P p ++ []) ++ rest)
  same_got P new r = (
    r.0 ++ new,
    ap (λ l. l ++ new) r.1 ∙ append_assoc (control_got S P p) r.0 new ∙ ap (λ l. l ++ (r.0 ++ new)) (sym (append-nil (control_got S P p))),
  )

  waits_rest : (P : History) (r : Rest P) → control_waiting S P p ≡ r.0
  unfolding control_waiting
  waits_rest P r = ap (λ l. drop (length (control_got S P p)) l) r.1 ∙ drop-append_seam (control_got S P p) r.0

  one_got : (P : History) (k : ControlItem) → Rest P → first (control_waiting S P p) ≡ Some k → (rest : List ControlItem) × (control_put S P p ++ [] ≡ (control_got S P p ++ k ∷ []) ++ rest)
  one_got P k r e =
      let f = first_of r.0 k (ap first (sym (waits_rest P r)) ∙ e) in (
        f.0,
        append-nil (control_put S P p) ∙ r.1 ∙ ap (λ l. control_got S P p ++ l) f.1 ∙ sym (append_assoc (control_got S P p) (k ∷ []) f.0),
      )

  took : (P : History) (w d : ℕ) (item : Item) (t : Bool) → (d == p) ≡ t → MayTake S Z P w d item → Rest P
      → (rest : List ControlItem) × (control_put S P p ++ [] ≡ (control_got S P p ++ if_so t (control_of S item)) ++ rest)
  took P w d (Control k) true e m r = one_got P k r (control_first S P p k (subst (λ c. next S P c ≡ Some (Control k)) (eqb-true d p e) m.next))
  took P w d (Arrival x f n port side event back) true e m r = same_got P [] r
  took P w d item false e m r = same_got P [] r

  pub got_begins : (P : History) → IsLegal S Z P → Rest P
  unfolding IsLegal control_put control_got putting getting
  got_begins [] l = (control_put S [] p, refl)
  got_begins (Took w d item ∷ P) l = took P w d item (d == p) refl l.1 (got_begins P l.0)
  got_begins (Did w d n outcome.Void to places ∷ P) l = same_got P [] (got_begins P l.0)
  got_begins (Did w d n (outcome.Fault m) to places ∷ P) l = same_got P (putting S P (Did w d n (outcome.Fault m) to places) p) (got_begins P l.0)
  got_begins (Did w d n (outcome.Done b es) to places ∷ P) l = same_got P (putting S P (Did w d n (outcome.Done b es) to places) p) (got_begins P l.0)
  got_begins (Moved w t released ∷ P) l = same_got P [] (got_begins P l.0)

  -- ---- what is got stays at its place

  got_grows : (more : List Entry) (P : History) → (rest : List ControlItem) × (control_got S (more ++ P) p ≡ control_got S P p ++ rest)
  unfolding control_got
  got_grows [] P = ([], sym (append-nil _))
  got_grows (e ∷ more) P =
      let r = got_grows more P in
      (r.0 ++ getting S e p, ap (λ l. l ++ getting S e p) r.1 ∙ append_assoc (control_got S P p) r.0 (getting S e p))

  put_grows : (more : List Entry) (P : History) → (rest : List ControlItem) × (control_put S (more ++ P) p ≡ control_put S P p ++ rest)
  unfolding control_put
  put_grows [] P = ([], sym (append-nil _))
  put_grows (e ∷ more) P =
      let r = put_grows more P in
      (r.0 ++ putting S (more ++ P) e p, ap (λ l. l ++ putting S (more ++ P) e p) r.1 ∙ append_assoc (control_put S P p) r.0 (putting S (more ++ P) e p))

-- ---- who puts a Dumped

abbrev is_dumped : ControlItem → Bool
is_dumped (Dumped slot v) = true
is_dumped k = false

-- none of these is a Dumped
abbrev NoDumps : List ControlItem → Type 0
NoDumps [] = Unit {0}
NoDumps (k ∷ ks) = (is_dumped k ≡ false) × NoDumps ks

no_dumps_append : (xs ys : List ControlItem) → NoDumps xs → NoDumps ys → NoDumps (xs ++ ys)
no_dumps_append [] ys h k = k
no_dumps_append (x ∷ xs) ys h k = (h.0, no_dumps_append xs ys h.1 k)

no_dumps_at : (xs : List ControlItem) (i : ℕ) (k : ControlItem) → NoDumps xs → slice_get xs i ≡ Some k → is_dumped k ≡ false
no_dumps_at [] i k h e = absurd cc
no_dumps_at (x ∷ xs) zero k h e = let s : x ≡ k = Some-injective e in subst (λ y. is_dumped y ≡ false) s h.0
no_dumps_at (x ∷ xs) (suc i) k h e = no_dumps_at xs i k h.1 e

no_dumps_if : (b : Bool) (xs : List ControlItem) → NoDumps xs → NoDumps (if_so b xs)
no_dumps_if true xs h = h
no_dumps_if false xs h = tt

no_dumps_flat : {X : Type 0} (f : X → List ControlItem) (xs : List X) → ((x : X) → NoDumps (f x)) → NoDumps (flat_map f xs)
no_dumps_flat f [] h = tt
no_dumps_flat f (x ∷ xs) h = no_dumps_append (f x) (flat_map f xs) (h x) (no_dumps_flat f xs h)

inits_no_dumps : (S : Declarations) (i : Instance) (b : Birth) → NoDumps (inits_by S i.kind b)
inits_no_dumps S i (Args vs) = no_dumps_if (has_init (kind_of S i.kind)) (Init vs ∷ []) (refl, tt)
inits_no_dumps S i (State vs) = tt

inits_for_no_dumps : (S : Declarations) (c n : ℕ) (is : List Instance) → NoDumps (inits_for S c n is)
unfolding inits_for
inits_for_no_dumps S c n is = no_dumps_flat _ (enumerate_from n is) (λ q. no_dumps_if (q.0 == c) (inits S q.1) (inits_no_dumps S q.1 q.1.birth))

module _ (S : Declarations) (P : History) (c : ℕ) where
  to_child_no_dumps : (done : List Act) (d s : ℕ) (k : ControlItem) → is_dumped k ≡ false → NoDumps (to_child S done c d s k)
  unfolding to_child
  to_child_no_dumps done d s k h = no_dumps_if _ (k ∷ []) (h, tt)

  to_nearest_at : (o : Option (ℕ × ℕ)) (n : ℕ) → NoDumps (option_map_or (λ q. if_so (q.0 == c) (Fault q.1 n ∷ [])) o [])
  to_nearest_at None n = tt
  to_nearest_at (Some q) n = no_dumps_if (q.0 == c) (Fault q.1 n ∷ []) (refl, tt)

  to_nearest_no_dumps : (d n : ℕ) → NoDumps (to_nearest S P c d n)
  unfolding to_nearest
  to_nearest_no_dumps d n = to_nearest_at (nearest S P d) n

  escalated_no_dumps : (a : ℕ) (o : Option ℕ) → NoDumps (option_map_or (λ n. to_nearest S P c a n) o [])
  escalated_no_dumps a None = tt
  escalated_no_dumps a (Some n) = to_nearest_no_dumps a n

  effect_no_dumps : (done : List Act) (a : Act) (e : Effect) → NoDumps (put_by_effect S P done c a e)
  unfolding put_by_effect
  effect_no_dumps done a (effect.Create slot kind birth) = inits_for_no_dumps S c _ _
  effect_no_dumps done a (effect.Start s) = to_child_no_dumps done a.by s Start refl
  effect_no_dumps done a (effect.Stop s) = to_child_no_dumps done a.by s Stop refl
  effect_no_dumps done a (effect.Dump s) = to_child_no_dumps done a.by s Dump refl
  effect_no_dumps done a effect.Escalate = escalated_no_dumps a.by (fault_in a.item)
  effect_no_dumps done a (effect.Trigger port event) = tt
  effect_no_dumps done a (effect.Answer event) = tt
  effect_no_dumps done a (effect.Destroy s) = tt
  effect_no_dumps done a (effect.Hold k) = tt
  effect_no_dumps done a (effect.Resume k) = tt
  effect_no_dumps done a (effect.Unplug k d) = tt
  effect_no_dumps done a (effect.Plug k d q) = tt

  acts_no_dumps : (mine : List Act) → NoDumps (put_by_acts S P c mine)
  unfolding put_by_acts
  acts_no_dumps [] = tt
  acts_no_dumps (a ∷ mine) = no_dumps_append (put_by_acts S P c mine) _ (acts_no_dumps mine) (effect_no_dumps (mine ++ acts P) a a.effect)

  children_no_dumps : (d : ℕ) (b : Body) (k : ControlItem) → is_dumped k ≡ false → NoDumps (to_children S P c d b k)
  unfolding to_children
  children_no_dumps d b k h = no_dumps_flat _ (enumerate_from 0 b.slots) (λ s. to_child_no_dumps (acts P) d s.0 k h)

  -- a Dumped among what an entry of d puts is the answer to a Dump: it has d's variables
  abbrev IsAnswer : ℕ → Body → Option Item → ℕ → List ℤ → Type 0
  IsAnswer d b o slot v = (o ≡ Some (Control Dump)) × (b.vars ≡ v)

  parent_at : (b : Body) (o : Option (ℕ × ℕ)) (i slot : ℕ) (v : List ℤ) → slice_get (option_map_or (λ q. if_so (q.0 == c) (Dumped q.1 b.vars ∷ [])) o []) i ≡ Some (Dumped slot v) → b.vars ≡ v
  parent_at b None i slot v e = absurd cc
  parent_at b (Some q) i slot v e = one (q.0 == c) i e
    where
      one : (t : Bool) (i : ℕ) → slice_get (if_so t (Dumped q.1 b.vars ∷ [])) i ≡ Some (Dumped slot v) → b.vars ≡ v
      one true zero f = cc
      one true (suc j) f = absurd cc
      one false j f = absurd cc

  dump_by_item : (d : ℕ) (b : Body) (item : Item) (i slot : ℕ) (v : List ℤ) → slice_get (put_by_item S P c d b item) i ≡ Some (Dumped slot v) → (item ≡ Control Dump) × (b.vars ≡ v)
  unfolding put_by_item to_parent
  dump_by_item d b (Control Start) i slot v e = absurd (let f = no_dumps_at _ i _ (children_no_dumps d b Start refl) e in cc)
  dump_by_item d b (Control Stop) i slot v e = absurd (let f = no_dumps_at _ i _ (children_no_dumps d b Stop refl) e in cc)
  dump_by_item d b (Control Dump) i slot v e = (refl, parent_at b (first (ancestry_of S (born S (acts P)) d)) i slot v e)
  dump_by_item d b (Control (Init vs)) i slot v e = absurd cc
  dump_by_item d b (Control (Fault s n)) i slot v e = absurd cc
  dump_by_item d b (Control (Dumped s vs)) i slot v e = absurd cc
  dump_by_item d b (Arrival x f n port side event back) i slot v e = absurd cc

  dump_by_option : (d : ℕ) (b : Body) (o : Option Item) (i slot : ℕ) (v : List ℤ) → slice_get (option_map_or (put_by_item S P c d b) o []) i ≡ Some (Dumped slot v) → (o ≡ Some (Control Dump)) × (b.vars ≡ v)
  dump_by_option d b None i slot v e = absurd cc
  dump_by_option d b (Some item) i slot v e = let r = dump_by_item d b item i slot v e in (ap Some r.0, r.1)

  -- the place of a Dumped in what an entry puts
  dump_in : (xs ys : List ControlItem) (i : ℕ) (k : ControlItem) → NoDumps ys → is_dumped k ≡ true → slice_get (xs ++ ys) i ≡ Some k → slice_get xs i ≡ Some k
  dump_in [] ys i k h d e = absurd (let f : true ≡ false = sym d ∙ no_dumps_at ys i k h e in cc)
  dump_in (x ∷ xs) ys zero k h d e = e
  dump_in (x ∷ xs) ys (suc i) k h d e = dump_in xs ys i k h d e

  -- only a Did that ended a Dump puts a Dumped
  abbrev IsDumpBy : Entry → List ℤ → Type 0
  IsDumpBy e v = (d : ℕ) × (w : ℕ) × (took : ℕ) × (b : Body) × (es : List Effect) × (to : Option ℕ) × (places : List ℕ)
      × (e ≡ Did w d took (outcome.Done b es) to places) × (item_at P took ≡ Some (Control Dump)) × (b.vars ≡ v)

  dump_put : (e : Entry) (i slot : ℕ) (v : List ℤ) → slice_get (putting S P e c) i ≡ Some (Dumped slot v) → IsDumpBy e v
  unfolding putting
  dump_put (Took w d item) i slot v h = absurd cc
  dump_put (Moved w t released) i slot v h = absurd cc
  dump_put (Did w d took outcome.Void to places) i slot v h = absurd cc
  dump_put (Did w d took (outcome.Fault n) to places) i slot v h = absurd (let f = no_dumps_at _ i _ (to_nearest_no_dumps d n) h in cc)
  dump_put (Did w d took (outcome.Done b es) to places) i slot v h =
      let m = dump_in (option_map_or (put_by_item S P c d b) (item_at P took) []) (put_by_acts S P c (acts_of P (Did w d took (outcome.Done b es) to places))) i (Dumped slot v)
      (acts_no_dumps (acts_of P (Did w d took (outcome.Done b es) to places))) refl h in
      let r = dump_by_option d b (item_at P took) i slot v m in
      (d, w, took, b, es, to, places, refl, r.0, r.1)

-- the entry at a position, with what is before and after it
split_or : (f : Entry) (P : History) (i : ℕ) (e : Entry) (t : Bool) → (length P == i) ≡ t → (if length P == i then Some f else entry_at P i) ≡ Some e
    → (entry_at P i ≡ Some e → (more : List Entry) × (before : History) × (P ≡ more ++ e ∷ before)) → (more : List Entry) × (before : History) × (f ∷ P ≡ more ++ e ∷ before)
split_or f P i e true q h rest =
    let s : f ≡ e = Some-injective (ap (λ t. if t then Some f else entry_at P i) (sym q) ∙ h) in ([], P, ap (λ g. g ∷ P) s)
split_or f P i e false q h rest =
    let r = rest (ap (λ t. if t then Some f else entry_at P i) (sym q) ∙ h) in (f ∷ r.0, r.1, ap (λ l. f ∷ l) r.2)

splits_at : (P : History) (i : ℕ) (e : Entry) → entry_at P i ≡ Some e → (more : List Entry) × (before : History) × (P ≡ more ++ e ∷ before)
unfolding entry_at
splits_at [] i e h = absurd (let q : None ≡ Some e = h in cc)
splits_at (f ∷ P) i e h = split_or f P i e (length P == i) refl h (splits_at P i e)

-- ---- the dump behind a Dumped

module _ (S : Declarations) (Z : Plan) (p : ℕ) where
  -- the latest entry is the dump
  here_it_is : (P : History) (w d took : ℕ) (b : Body) (es : List Effect) (to : Option ℕ) (places : List ℕ) (i slot : ℕ) (v : List ℤ)
      → MayDo S Z P w d took (outcome.Done b es) to places → item_at P took ≡ Some (Control Dump) → b.vars ≡ v → length (control_put S P p) ≤ i
      → slice_get (control_put S (Did w d took (outcome.Done b es) to places ∷ P) p) i ≡ Some (Dumped slot v)
      → IsStateDumpedTo S (Did w d took (outcome.Done b es) to places ∷ P) p i v
  here_it_is P w d took b es to places i slot v m dump vars late put =
      let own : outcome_of d (Did w d took (outcome.Done b es) to places) ≡ Some (outcome.Done b es) = ap (λ t. if t then Some (outcome.Done b es) else None) (eq-eqb d d refl) in
      let now = body_own S P (Did w d took (outcome.Done b es) to places) d (outcome.Done b es) own (body_born S P d m.body m.body_is) in
      let left : body_at S (Did w d took (outcome.Done b es) to places ∷ P) d ≡ Some b = now ∙ ap (option_map (λ x. Rattle.kom_record.specs.Reaction.body_after x (outcome.Done b es))) m.body_is in
      record {
        c = d;
        slot = slot;
        w = w;
        took = took;
        body = b;
        effects = es;
        to = to;
        places = places;
        moment = P;
        earlier = ([], refl);
        dump = dump;
        not_yet = late;
        put = put;
        variables = vars;
        since = λ n. ap (option_map (λ x. x.vars)) left ∙ ap Some vars;
      }

  -- and it stays so
  carried : (e : Entry) (P : History) (i : ℕ) (v : List ℤ) → IsStateDumpedTo S P p i v → IsStateDumpedTo S (e ∷ P) p i v
  carried e P i v r =
      let dump = Did r.w r.c r.took (outcome.Done r.body r.effects) r.to r.places ∷ r.moment in
      record {
        c = r.c;
        slot = r.slot;
        w = r.w;
        took = r.took;
        body = r.body;
        effects = r.effects;
        to = r.to;
        places = r.places;
        moment = r.moment;
        earlier = (e ∷ r.earlier.0, ap (λ l. e ∷ l) r.earlier.1);
        dump = r.dump;
        not_yet = r.not_yet;
        put = r.put;
        variables = r.variables;
        since = λ n.
            let before : HasDoneNothing r.c dump P = λ f Q b h. n f Q (e ∷ b.0, ap (λ l. e ∷ l) b.1) h in
            let s = r.since before in
            let x = mapped (λ y. y.vars) (body_at S P r.c) v s in
            let out : outcome_of r.c e ≡ None = n e P ([], refl) (omega (arith, ap length r.earlier.1, length-append r.earlier.0 dump)) in
            ap (option_map (λ y. y.vars)) (body_other S P e r.c out (body_born S P r.c x.0 x.1)) ∙ s;
      }

  put_or : (e : Entry) (P : History) (i slot : ℕ) (v : List ℤ) (t : Bool) → nat_lt i (length (control_put S P p)) ≡ t → IsLegal S Z (e ∷ P)
      → (slice_get (control_put S P p) i ≡ Some (Dumped slot v) → IsStateDumpedTo S P p i v)
      → slice_get (control_put S (e ∷ P) p) i ≡ Some (Dumped slot v) → IsStateDumpedTo S (e ∷ P) p i v
  put_or e P i slot v true q l rest h =
      carried e P i v (rest (sym (get_left (control_put S P p) (putting S P e p) i (ltb-true _ _ q)) ∙ ap (λ l. slice_get l i) (sym (put_more S P e p)) ∙ h))
  put_or e P i slot v false q l rest h =
      let late = ltb-false i (length (control_put S P p)) q in
      let at : length (control_put S P p) + (i - length (control_put S P p)) ≡ i = omega (arith, late) in
      let new : slice_get (putting S P e p) (i - length (control_put S P p)) ≡ Some (Dumped slot v) =
      sym (get_right (control_put S P p) (putting S P e p) (i - length (control_put S P p)))
      ∙ ap (slice_get (control_put S P p ++ putting S P e p)) at ∙ ap (λ l. slice_get l i) (sym (put_more S P e p)) ∙ h in
      let r = dump_put S P p e (i - length (control_put S P p)) slot v new in
      subst (λ f. IsStateDumpedTo S (f ∷ P) p i v) (sym r.7)
      (here_it_is P r.1 r.0 r.2 r.3 r.4 r.5 r.6 i slot v
      (last_allowed S Z (Did r.1 r.0 r.2 (outcome.Done r.3 r.4) r.5 r.6) P (subst (λ f. IsLegal S Z (f ∷ P)) r.7 l))
      r.8 r.9 late (subst (λ f. slice_get (control_put S (f ∷ P) p) i ≡ Some (Dumped slot v)) r.7 h))

  opening_no_dumps : NoDumps (control_put S [] p)
  unfolding control_put
  opening_no_dumps = no_dumps_append _ _ (inits_for_no_dumps S p 0 (root_tree S)) (no_dumps_if (p == 0) (Start ∷ []) (refl, tt))

  dumped : (R : History) → IsLegal S Z R → (i slot : ℕ) (v : List ℤ) → slice_get (control_put S R p) i ≡ Some (Dumped slot v) → IsStateDumpedTo S R p i v
  dumped [] l i slot v h = absurd (let f = no_dumps_at _ i _ opening_no_dumps h in cc)
  dumped (e ∷ P) l i slot v h = put_or e P i slot v (nat_lt i (length (control_put S P p))) refl l (dumped P (legal_before S Z (e ∷ []) P l) i slot v) h

  at_end : {X : Type 0} (xs : List X) (y : X) → slice_get (xs ++ y ∷ []) (length xs) ≡ Some y
  at_end [] y = refl
  at_end (x ∷ xs) y = at_end xs y

  below_end : {X : Type 0} (xs : List X) (y : X) → length xs < length (xs ++ y ∷ [])
  below_end xs y = omega (arith, length-append xs (y ∷ []))

  got_here : (P : History) (w c : ℕ) (item : Item) (k : ControlItem) → c ≡ p → item ≡ Control k → control_got S (Took w c item ∷ P) p ≡ control_got S P p ++ k ∷ []
  unfolding control_got getting
  got_here P w c item k e f =
      ap (λ i. control_got S P p ++ if_so (c == p) (control_of S i)) f ∙ ap (λ t. control_got S P p ++ if_so t (k ∷ [])) (eq-eqb c p e)

  -- an item that p took stands at one place in what it got and in what was put to it
  placed : (R : History) → IsLegal S Z R → (more : List Entry) (P : History) (w c : ℕ) (item : Item) (k : ControlItem) → R ≡ more ++ Took w c item ∷ P → c ≡ p → item ≡ Control k
      → (slice_get (control_got S R p) (length (control_got S P p)) ≡ Some k) × (slice_get (control_put S R p) (length (control_got S P p)) ≡ Some k)
  placed R l more P w c item k r e f =
      let i = length (control_got S P p) in
      let g = got_grows S Z p more (Took w c item ∷ P) in
      let h = got_here P w c item k e f in
      let got : control_got S R p ≡ (control_got S P p ++ k ∷ []) ++ g.0 = ap (λ Q. control_got S Q p) r ∙ g.1 ∙ ap (λ l. l ++ g.0) h in
      let one : slice_get (control_got S R p) i ≡ Some k =
      ap (λ l. slice_get l i) got ∙ get_left (control_got S P p ++ k ∷ []) g.0 i (below_end (control_got S P p) k) ∙ at_end (control_got S P p) k in
      let b = got_begins S Z p R l in
      let short : i < length (control_got S R p) = omega (arith, ap length got, length-append (control_got S P p ++ k ∷ []) g.0, length-append (control_got S P p) (k ∷ [])) in
      (one, ap (λ l. slice_get l i) b.1 ∙ get_left (control_got S R p) b.0 i short ∙ one)

pub not_void : (S : Declarations) (P : History) (c took : ℕ) (b : Body) (es : List Effect) → IsReaction S P c took (outcome.Done b es) → (t : Bool) → alive S (acts P) c ≡ t → alive S (acts P) c ≡ true
not_void S P c took b es r true e = e
not_void S P c took b es r false e = absurd (let f = r.destroyed e in cc)

pub states_handed_over : (S : Declarations) (Z : Plan) (R : History) → CreatesFromDumpsAlone S → IsLegal S Z R → HandsOverState S R
states_handed_over S Z R only l P w p took s k body effects to places v b has =
    let entry = Did w p took (outcome.Done body effects) to places in
    let m = last_allowed S Z entry P (legal_before S Z b.0 (entry ∷ P) (subst (IsLegal S Z) b.1 l)) in
    let r = reaction S Z R P w p took (outcome.Done body effects) to places l b in
    let living = not_void S P p took body effects r (alive S (acts P) p) refl in
    let o = only r.body r.item body effects s k v (r.living living) has in
    let at = found_in (λ h. h.took == took) (in_hand P) m.job m.in_hand in
    let same : m.job.took ≡ took = eqb-true m.job.took took at.1 in
    let item : m.job.item ≡ Control (Dumped o.0 v) = Some-injective (sym (job_item P m.job at.0) ∙ ap (item_at P) same ∙ r.taken) ∙ o.1 in
    let split = splits_at P m.job.took (Took m.job.w m.job.c m.job.item) (job_entry P m.job at.0).1 in
    let whole : R ≡ (b.0 ++ entry ∷ split.0) ++ Took m.job.w m.job.c m.job.item ∷ split.1 =
    b.1 ∙ ap (λ Q. b.0 ++ entry ∷ Q) split.2 ∙ sym (append_assoc b.0 (entry ∷ split.0) (Took m.job.w m.job.c m.job.item ∷ split.1)) in
    let q = placed S Z p R l (b.0 ++ entry ∷ split.0) split.1 m.job.w m.job.c m.job.item (Dumped o.0 v) whole m.component item in
    (length (control_got S split.1 p), dumped S Z p R l (length (control_got S split.1 p)) o.0 v q.1, q.0 ∙ sym q.1)
