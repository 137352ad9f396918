-- An escalated fault reaches the nearest ancestor that has a fault handler subscribed, once.
use Rattle.std.proofs.Common.{◌≡◌, ℕ, ◌+◌, ◌<◌, ◌≤◌, Bool, true, false, cond, refl, sym, ap, ◌∙◌, subst, List, [], ◌∷◌, ◌++◌, length, Option, Some, None, arith, ◌==◌, ◌||◌, eq-eqb, nat_eq, inl, inr}
use Rattle.std.specs.Prelude.{map}
use Rattle.std.specs.List.{count_by, list_any, flat_map, enumerate_from}
use Rattle.std.specs.Option.{option_map_or, option_and_then}
use Rattle.std.proofs.lemmas.Bool.Decides.{eqb_tells}
use Rattle.std.proofs.lemmas.List.{append-nil, length-append, reverse-append}
use Rattle.std.proofs.lemmas.List.Sums.{sum_by-append}
use Rattle.kom_base.specs.Lists.{if_so}
use Rattle.kom_lang.specs.Declarations.{Declarations}
use Rattle.kom_lang.specs.declared.body.Body.{Body}
use Rattle.kom_lang.specs.declared.body.Effect.{Effect}
use Rattle.kom_lang.specs.declared.body.Effect.TheVariants as effect
use Rattle.kom_lang.specs.Steps.{is_escalate}
use Rattle.kom_record.specs.declared.plan.Plan.{Plan}
use Rattle.kom_record.specs.declared.item.Control.{Control as ControlItem}
use Rattle.kom_record.specs.declared.item.Control.TheVariants.{Init, Start, Stop, Fault, Dump, Dumped}
use Rattle.kom_record.specs.declared.item.Item.{Item}
use Rattle.kom_record.specs.declared.item.Item.TheVariants.{Control, Arrival}
use Rattle.kom_record.specs.declared.entry.Outcome.TheVariants as outcome
use Rattle.kom_record.specs.declared.entry.Entry.TheVariants.{Took, Did, Moved}
use Rattle.kom_record.specs.Entries.{History, Act, acts, acts_of, acts_for, item_at}
use Rattle.kom_record.specs.Instances.{Instance, born, occupant, ancestry_of, alive}
use Rattle.kom_record.specs.Bodies.{nearest, catches_at}
use Rattle.kom_record.specs.Controls.{inits, inits_for, to_child, to_nearest, put_by_effect, put_by_acts, put_by_item, putting, control_put, fault_in, raised}
use Rattle.kom_record.specs.Legal.{IsLegal}
use Rattle.kom_laws.proofs.InstanceLaws.{ActsByBorn, born_grows, ancestor_born, parent_born, occupant_born}
use Rattle.kom_laws.proofs.ControlLaws.{body_born, put_more}
use Rattle.kom_laws.proofs.EffectLaws.{bounded, weight}
use Rattle.kom_laws.proofs.DeadChannels.{tested}
use Rattle.kom_laws.proofs.NextItem.{chosen}
use Rattle.kom_laws.proofs.Handlings.{found_in, last_allowed, legal_before, reaction}
use Rattle.kom_laws.proofs.Handover.{not_void}

unequal : (a b : ℕ) → (a ≡ b → ⊥) → nat_eq a b ≡ false
unequal a b h = elim (eqb_tells a b) [ inl t ↦ absurd (h t.1) | inr t ↦ t.0 ]

-- ---- each act of a legal record is by an instance that was there

-- these acts are all of c
abbrev AllBy : ℕ → List Act → Type 0
AllBy c [] = Unit {0}
AllBy c (a ∷ mine) = (a.by ≡ c) × AllBy c mine

all_by_append : (c : ℕ) (xs ys : List Act) → AllBy c xs → AllBy c ys → AllBy c (xs ++ ys)
all_by_append c [] ys h k = k
all_by_append c (x ∷ xs) ys h k = (h.0, all_by_append c xs ys h.1 k)

acts_all_by : (c : ℕ) (item : Item) (es : List Effect) → AllBy c (acts_for c (Some item) es)
acts_all_by c item [] = tt
acts_all_by c item (e ∷ es) =
    subst (AllBy c) (sym (reverse-append (record { by = c; item = item; effect = e } ∷ []) (map (λ x. record { by = c; item = item; effect = x }) es)))
    (all_by_append c (acts_for c (Some item) es) (record { by = c; item = item; effect = e } ∷ []) (acts_all_by c item es) (refl, tt))

acts_for_all_by : (c : ℕ) (o : Option Item) (es : List Effect) → AllBy c (acts_for c o es)
acts_for_all_by c None es = tt
acts_for_all_by c (Some item) es = acts_all_by c item es

module _ (S : Declarations) where
  more_by_born : (c : ℕ) (mine done : List Act) → AllBy c mine → c < length (born S done) → ActsByBorn S done → ActsByBorn S (mine ++ done)
  more_by_born c [] done h b r = r
  more_by_born c (a ∷ mine) done h b r =
      let g = born_grows S mine done in
      (more_by_born c mine done h.1 b r, subst (λ n. n < length (born S (mine ++ done))) (sym h.0) (omega (arith, b, ap length g.1, length-append (born S done) g.0)))

  pub acts_by_born : (Z : Plan) (P : History) → IsLegal S Z P → ActsByBorn S (acts P)
  unfolding IsLegal acts acts_of
  acts_by_born Z [] l = tt
  acts_by_born Z (Took w c item ∷ P) l = acts_by_born Z P l.0
  acts_by_born Z (Moved w t released ∷ P) l = acts_by_born Z P l.0
  acts_by_born Z (Did w c took outcome.Void to places ∷ P) l = acts_by_born Z P l.0
  acts_by_born Z (Did w c took (outcome.Fault n) to places ∷ P) l = acts_by_born Z P l.0
  acts_by_born Z (Did w c took (outcome.Done b es) to places ∷ P) l =
      more_by_born c (acts_for c (item_at P took) es) (acts P) (acts_for_all_by c (item_at P took) es) (body_born S P c l.1.body l.1.body_is) (acts_by_born Z P l.0)

-- ---- what the acts of one entry put to an ancestor

-- these acts are all done with this item in hand
abbrev AllWith : Item → List Act → Type 0
AllWith item [] = Unit {0}
AllWith item (a ∷ mine) = (a.item ≡ item) × AllWith item mine

all_with_append : (item : Item) (xs ys : List Act) → AllWith item xs → AllWith item ys → AllWith item (xs ++ ys)
all_with_append item [] ys h k = k
all_with_append item (x ∷ xs) ys h k = (h.0, all_with_append item xs ys h.1 k)

acts_all_with : (c : ℕ) (item : Item) (es : List Effect) → AllWith item (acts_for c (Some item) es)
acts_all_with c item [] = tt
acts_all_with c item (e ∷ es) =
    subst (AllWith item) (sym (reverse-append (record { by = c; item = item; effect = e } ∷ []) (map (λ x. record { by = c; item = item; effect = x }) es)))
    (all_with_append item (acts_for c (Some item) es) (record { by = c; item = item; effect = e } ∷ []) (acts_all_with c item es) (refl, tt))

-- how many of these acts escalate
abbrev escalations : List Act → ℕ
escalations [] = 0
escalations (a ∷ mine) = cond (is_escalate a.effect) 1 0 + escalations mine

escalations_append : (xs ys : List Act) → escalations (xs ++ ys) ≡ escalations xs + escalations ys
escalations_append [] ys = omega arith
escalations_append (x ∷ xs) ys = omega (arith, escalations_append xs ys)

escalations_are : (c : ℕ) (item : Item) (es : List Effect) → escalations (acts_for c (Some item) es) ≡ count_by is_escalate es
escalations_are c item [] = refl
escalations_are c item (e ∷ es) =
    let r = escalations_are c item es in
    let t : count_by is_escalate (e ∷ es) ≡ weight e + count_by is_escalate es = omega (arith, sum_by-append weight (e ∷ []) es) in
    ap escalations (reverse-append (record { by = c; item = item; effect = e } ∷ []) (map (λ x. record { by = c; item = item; effect = x }) es))
    ∙ escalations_append (acts_for c (Some item) es) (record { by = c; item = item; effect = e } ∷ [])
    ∙ omega (arith, r, t)

some_at : (x : Effect) (es : List Effect) (t : Bool) → is_escalate x ≡ t → (is_escalate x || list_any is_escalate es) ≡ true → (list_any is_escalate es ≡ true → 1 ≤ count_by is_escalate es)
    → 1 ≤ count_by is_escalate (x ∷ es)
some_at x es true q e rest =
    let w : weight x ≡ 1 = ap (λ t. cond t 1 0) q in omega (arith, w, sum_by-append weight (x ∷ []) es)
some_at x es false q e rest =
    let r = rest (ap (λ t. t || list_any is_escalate es) (sym q) ∙ e) in omega (arith, r, sum_by-append weight (x ∷ []) es)

some_escalates : (es : List Effect) → list_any is_escalate es ≡ true → 1 ≤ count_by is_escalate es
some_escalates [] e = absurd cc
some_escalates (x ∷ es) e = some_at x es (is_escalate x) refl e (some_escalates es)

module _ (S : Declarations) (P : History) (c a : ℕ) (lesser : a < c) where
  not_this : (o : Option ℕ) (k : ControlItem) → ((q : ℕ) → o ≡ Some q → c < q) → if_so (option_map_or (λ q. q == a) o false) (k ∷ []) ≡ []
  not_this None k h = refl
  not_this (Some q) k h = let g = h q refl in ap (λ t. if_so t (k ∷ [])) (unequal q a (λ e. omega (arith, lesser, g, e)))

  -- a child of c is not the ancestor
  child_other : (done : List Act) → ActsByBorn S done → (slot : ℕ) (k : ControlItem) → to_child S done a c slot k ≡ []
  unfolding to_child
  child_other done r slot k = not_this (occupant S done c slot) k (λ q e. let b = occupant_born S done c slot q e in parent_born S done q b.0 (c, slot) r b.1 b.2)

  -- nor is a new instance
  new_other : (n : ℕ) (is : List Instance) → a < n → inits_for S a n is ≡ []
  unfolding inits_for
  new_other n [] h = refl
  new_other n (i ∷ is) h =
      ap (λ t. if_so t (inits S i) ++ flat_map (λ q. if_so (q.0 == a) (inits S q.1)) (enumerate_from (n + 1) is)) (unequal n a (λ e. omega (arith, h, e)))
      ∙ new_other (n + 1) is (omega (arith, h))

  effect_other : (done : List Act) (x : Act) (e : Effect) → ActsByBorn S done → a < length (born S done) → x.by ≡ c → is_escalate e ≡ false → put_by_effect S P done a x e ≡ []
  unfolding put_by_effect
  effect_other done x (effect.Create slot kind birth) r b h k = new_other (length (born S done)) _ b
  effect_other done x (effect.Start s) r b h k = ap (λ d. to_child S done a d s Start) h ∙ child_other done r s Start
  effect_other done x (effect.Stop s) r b h k = ap (λ d. to_child S done a d s Stop) h ∙ child_other done r s Stop
  effect_other done x (effect.Dump s) r b h k = ap (λ d. to_child S done a d s Dump) h ∙ child_other done r s Dump
  effect_other done x effect.Escalate r b h k = absurd cc
  effect_other done x (effect.Trigger port event) r b h k = refl
  effect_other done x (effect.Answer event) r b h k = refl
  effect_other done x (effect.Destroy s) r b h k = refl
  effect_other done x (effect.Hold w) r b h k = refl
  effect_other done x (effect.Resume w) r b h k = refl
  effect_other done x (effect.Unplug w d) r b h k = refl
  effect_other done x (effect.Plug w d q) r b h k = refl

  escalate_puts : (done : List Act) (x : Act) (e : Effect) (n : ℕ) → is_escalate e ≡ true → x.by ≡ c → fault_in x.item ≡ Some n → put_by_effect S P done a x e ≡ to_nearest S P a c n
  unfolding put_by_effect
  escalate_puts done x effect.Escalate n t h f = ap (λ o. option_map_or (λ m. to_nearest S P a x.by m) o []) f ∙ ap (λ d. to_nearest S P a d n) h
  escalate_puts done x (effect.Create slot kind birth) n t h f = absurd cc
  escalate_puts done x (effect.Start s) n t h f = absurd cc
  escalate_puts done x (effect.Stop s) n t h f = absurd cc
  escalate_puts done x (effect.Dump s) n t h f = absurd cc
  escalate_puts done x (effect.Trigger port event) n t h f = absurd cc
  escalate_puts done x (effect.Answer event) n t h f = absurd cc
  escalate_puts done x (effect.Destroy s) n t h f = absurd cc
  escalate_puts done x (effect.Hold w) n t h f = absurd cc
  escalate_puts done x (effect.Resume w) n t h f = absurd cc
  escalate_puts done x (effect.Unplug w d) n t h f = absurd cc
  escalate_puts done x (effect.Plug w d q) n t h f = absurd cc

  not_one : (t : Bool) (n : ℕ) → cond t 1 0 + n ≡ 0 → t ≡ false
  not_one true n z = absurd (omega (arith, z))
  not_one false n z = refl

  none_put : (mine : List Act) → ActsByBorn S (mine ++ acts P) → a < length (born S (acts P)) → AllBy c mine → escalations mine ≡ 0 → put_by_acts S P a mine ≡ []
  unfolding put_by_acts
  none_put [] r b h z = refl
  none_put (x ∷ mine) r b h z =
      let g = born_grows S mine (acts P) in
      let plain : is_escalate x.effect ≡ false = not_one (is_escalate x.effect) (escalations mine) z in
      let rest : escalations mine ≡ 0 = omega (arith, z) in
      ap (λ l. l ++ put_by_effect S P (mine ++ acts P) a x x.effect) (none_put mine r.0 b h.1 rest)
      ∙ effect_other (mine ++ acts P) x x.effect r.0 (omega (arith, b, ap length g.1, length-append (born S (acts P)) g.0)) h.0 plain

  one_at : (x : Act) (mine : List Act) (item : Item) (n : ℕ) → ActsByBorn S ((x ∷ mine) ++ acts P) → a < length (born S (acts P)) → AllBy c (x ∷ mine) → AllWith item (x ∷ mine) → fault_in item ≡ Some n
      → escalations (x ∷ mine) ≡ 1 → (t : Bool) → is_escalate x.effect ≡ t → (escalations mine ≡ 1 → put_by_acts S P a mine ≡ to_nearest S P a c n)
      → put_by_acts S P a mine ++ put_by_effect S P (mine ++ acts P) a x x.effect ≡ to_nearest S P a c n
  one_at x mine item n r b h k f z true q rest =
      let w : weight x.effect ≡ 1 = ap (λ t. cond t 1 0) q in
      let none : escalations mine ≡ 0 = omega (arith, z, w) in
      ap (λ l. l ++ put_by_effect S P (mine ++ acts P) a x x.effect) (none_put mine r.0 b h.1 none)
      ∙ escalate_puts (mine ++ acts P) x x.effect n q h.0 (ap fault_in k.0 ∙ f)
  one_at x mine item n r b h k f z false q rest =
      let w : weight x.effect ≡ 0 = ap (λ t. cond t 1 0) q in
      let one : escalations mine ≡ 1 = omega (arith, z, w) in
      let g = born_grows S mine (acts P) in
      ap (λ l. put_by_acts S P a mine ++ l) (effect_other (mine ++ acts P) x x.effect r.0 (omega (arith, b, ap length g.1, length-append (born S (acts P)) g.0)) h.0 q)
      ∙ append-nil (put_by_acts S P a mine) ∙ rest one

  one_put : (mine : List Act) (item : Item) (n : ℕ) → ActsByBorn S (mine ++ acts P) → a < length (born S (acts P)) → AllBy c mine → AllWith item mine → fault_in item ≡ Some n → escalations mine ≡ 1
      → put_by_acts S P a mine ≡ to_nearest S P a c n
  unfolding put_by_acts
  one_put [] item n r b h k f z = absurd (omega (arith, z))
  one_put (x ∷ mine) item n r b h k f z = one_at x mine item n r b h k f z (is_escalate x.effect) refl (one_put mine item n r.0 b h.1 k.1 f)

module _ (S : Declarations) (P : History) (c : ℕ) where
  nearest_puts : (a s n : ℕ) → nearest S P c ≡ Some (a, s) → to_nearest S P a c n ≡ Fault s n ∷ []
  unfolding to_nearest
  nearest_puts a s n e = ap (λ o. option_map_or (λ q. if_so (q.0 == a) (Fault q.1 n ∷ [])) o []) e ∙ ap (λ t. if_so t (Fault s n ∷ [])) (eq-eqb a a refl)

  nearest_lesser : (a s : ℕ) → ActsByBorn S (acts P) → nearest S P c ≡ Some (a, s) → a < c
  unfolding nearest
  nearest_lesser a s r e = ancestor_born S (acts P) c (a, s) r (found_in (λ q. catches_at S P q.0) (ancestry_of S (born S (acts P)) c) (a, s) e).0

  fault_puts_nothing : (a n : ℕ) (b : Body) (item : Item) → fault_in item ≡ Some n → put_by_item S P a c b item ≡ []
  unfolding put_by_item
  fault_puts_nothing a n b (Control (Fault s m)) e = refl
  fault_puts_nothing a n b (Control Start) e = absurd cc
  fault_puts_nothing a n b (Control Stop) e = absurd cc
  fault_puts_nothing a n b (Control Dump) e = absurd cc
  fault_puts_nothing a n b (Control (Init vs)) e = absurd cc
  fault_puts_nothing a n b (Control (Dumped s vs)) e = absurd cc
  fault_puts_nothing a n b (Arrival x d m port side event back) e = absurd cc

pub escalation_reaches : (S : Declarations) (Z : Plan) (P : History) (w c took : ℕ) (body : Body) (effects : List Effect) (to : Option ℕ) (places : List ℕ) (n a s : ℕ)
    → IsLegal S Z (Did w c took (outcome.Done body effects) to places ∷ P) → raised P (Did w c took (outcome.Done body effects) to places) ≡ Some n → nearest S P c ≡ Some (a, s)
    → control_put S (Did w c took (outcome.Done body effects) to places ∷ P) a ≡ control_put S P a ++ Fault s n ∷ []
unfolding raised putting acts_of
escalation_reaches S Z P w c took body effects to places n a s l e f =
    let m = last_allowed S Z (Did w c took (outcome.Done body effects) to places) P l in
    let r = reaction S Z (Did w c took (outcome.Done body effects) to places ∷ P) P w c took (outcome.Done body effects) to places l ([], refl) in
    let few = bounded S r.body r.item body effects (r.living (not_void S P c took body effects r (alive S (acts P) c) refl)) in
    let some : list_any is_escalate effects ≡ true = tested (list_any is_escalate effects) _ n e in
    let fault : fault_in r.item ≡ Some n = ap (λ o. option_and_then fault_in o) (sym r.taken) ∙ chosen (list_any is_escalate effects) _ n e in
    let rooted = acts_by_born S Z P (legal_before S Z (Did w c took (outcome.Done body effects) to places ∷ []) P l) in
    let there_is = body_born S P c m.body m.body_is in
    let lesser = nearest_lesser S P c a s rooted f in
    let mine = acts_for c (Some r.item) effects in
    let one : escalations mine ≡ 1 = omega (arith, escalations_are c r.item effects, few.once, some_escalates effects some) in
    let by = acts_all_by c r.item effects in
    let puts : put_by_acts S P a mine ≡ Fault s n ∷ [] =
    one_put S P c a lesser mine r.item n (more_by_born S c mine (acts P) by there_is rooted) (omega (arith, lesser, there_is)) by (acts_all_with c r.item effects) fault one
    ∙ nearest_puts S P c a s n f in
    put_more S P (Did w c took (outcome.Done body effects) to places) a
    ∙ ap (λ o. control_put S P a ++ (option_map_or (put_by_item S P a c body) o [] ++ put_by_acts S P a (acts_for c o effects))) r.taken
    ∙ ap (λ l. control_put S P a ++ (l ++ put_by_acts S P a mine)) (fault_puts_nothing S P c a n body r.item fault)
    ∙ ap (λ l. control_put S P a ++ l) puts
