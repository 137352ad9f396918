-- Who is alive.
use Rattle.std.proofs.Common.{◌≡◌, ℕ, suc, ◌+◌, ◌-◌, ◌<◌, ◌≤◌, Bool, true, false, if◌then◌else◌, not, ◌&&◌, ◌||◌, ◌==◌, refl, sym, ap, ◌∙◌, subst, List, [], ◌∷◌, ◌++◌, length, Option, Some, None, ◌⊎◌, inl, inr, arith}
use Rattle.std.specs.Prelude.{slice_get, nat_lt}
use Rattle.std.specs.List.{list_any}
use Rattle.std.specs.Option.{option_map_or}
use Rattle.std.proofs.lemmas.Bool.{le-ltb, lt-ltb, ltb-true, ltb-false, ne_eqb}
use Rattle.std.proofs.lemmas.Option.{slice_get_within}
use Rattle.kom_base.specs.Lists.{either, first}
use Rattle.kom_lang.specs.Declarations.{Declarations}
use Rattle.kom_lang.specs.declared.body.Body.{Body}
use Rattle.kom_lang.specs.declared.body.Birth.{Birth}
use Rattle.kom_lang.specs.declared.body.Effect.{Effect}
use Rattle.kom_lang.specs.declared.body.Effect.TheVariants as effect
use Rattle.kom_record.specs.declared.plan.Plan.{Plan}
use Rattle.kom_record.specs.declared.item.Item.{Item}
use Rattle.kom_record.specs.declared.entry.Outcome.TheVariants as outcome
use Rattle.kom_record.specs.declared.entry.Entry.TheVariants.{Took, Did, Moved}
use Rattle.kom_record.specs.Entries.{History, Act, acts, acts_for, acts_of, item_at}
use Rattle.kom_record.specs.Instances.{Instance, alive, ancestry_of, born, child_among, created, depth_limit, is_child, occupant, root_tree}
use Rattle.kom_record.specs.Legal.{IsLegal, MayEnd}
use Rattle.kom_laws.proofs.Members.{IsIn, here, there, Some-injective}
use Rattle.kom_laws.proofs.ListFacts.{get_right, in_cons}
use Rattle.kom_laws.proofs.InstanceLaws.{ActsByBorn, alive_born, ancestor_born, instance_stays, occupant_born}
use Rattle.kom_agree.proofs.Small.{one_first}
use Rattle.kom_agree.proofs.Trees.{outside_tree}
use Rattle.kom_lives.specs.Living.{AreByLiving, StaysAlive}
use Rattle.kom_lives.proofs.Lineage.{IsLine, ancestors_of, lined, lines, none_there, tree_line}

true_is_false : (b : Bool) → b ≡ true → b ≡ false → ⊥
true_is_false b e f = let g : true ≡ false = sym e ∙ f in cc

pub both : (a b : Bool) → (a && b) ≡ true → (a ≡ true) × (b ≡ true)
both true b e = (refl, e)
both false b e = absurd cc

pub both_of : (a b : Bool) → a ≡ true → b ≡ true → (a && b) ≡ true
both_of true b e f = f
both_of false b e f = absurd cc

neither : (a b : Bool) → (a || b) ≡ false → (a ≡ false) × (b ≡ false)
neither true b e = absurd cc
neither false b e = (refl, e)

pub not_true : (b : Bool) → not b ≡ true → b ≡ false
not_true true e = absurd cc
not_true false e = refl

pub none_any : {X : Type 0} (f : X → Bool) (xs : List X) → ((x : X) → IsIn x xs → f x ≡ false) → list_any f xs ≡ false
none_any f [] h = refl
none_any f (x ∷ xs) h = ap (λ b. b || list_any f xs) (h x here) ∙ none_any f xs (λ y m. h y (there m))

pub any_none : {X : Type 0} (f : X → Bool) (x : X) (xs : List X) → list_any f xs ≡ false → IsIn x xs → f x ≡ false
any_none f x [] e m = elim m [ ]
any_none f x (x' ∷ xs) e here = (neither _ _ e).0
any_none f x (y ∷ xs) e (there m) = any_none f x xs (neither _ _ e).1 m

module _ (S : Declarations) where
  pub by_born : (done : List Act) → AreByLiving S done → ActsByBorn S done
  by_born [] h = tt
  by_born (a ∷ done) h = (by_born done h.0, alive_born S done a.by h.1)

  -- ---- the actor

  still : (done : List Act) (c : ℕ) (item : Item) (e : Effect) → ActsByBorn S done → alive S done c ≡ true → alive S (record { by = c; item = item; effect = e } ∷ done) c ≡ true
  unfolding alive
  still done c item (effect.Create slot kind birth) by h =
      ap (λ b. if b then alive S done c else nat_lt c (length (born S (record { by = c; item = item; effect = effect.Create slot kind birth } ∷ done)))) (lt-ltb c (length (born S done)) (alive_born S done c h)) ∙ h
  still done c item (effect.Destroy t) by h =
      both_of _ _ h (ap not (none_any (λ q. c == q.0 && t == q.1) (ancestry_of S (born S done) c)
      (λ q m. let l = ancestor_born S done c q by m in ap (λ b. b && t == q.1) (ne_eqb c q.0 (λ z. absurd (omega (arith, l, z)))))))
  still done c item (effect.Trigger p e) by h = h
  still done c item (effect.Answer e) by h = h
  still done c item (effect.Start s) by h = h
  still done c item (effect.Stop s) by h = h
  still done c item (effect.Dump s) by h = h
  still done c item (effect.Hold k) by h = h
  still done c item (effect.Resume k) by h = h
  still done c item (effect.Unplug k f) by h = h
  still done c item (effect.Plug k f p) by h = h
  still done c item effect.Escalate by h = h

  pub stays_alive : (done : List Act) (c : ℕ) (item : Item) (es : List Effect) → ActsByBorn S done → alive S done c ≡ true → StaysAlive S done c item es
  stays_alive done c item [] by h = h
  stays_alive done c item (e ∷ es) by h =
      (h, stays_alive (record { by = c; item = item; effect = e } ∷ done) c item es (by, alive_born S done c h) (still done c item e by h))

  -- ---- ancestors

  AncestorsAre : List Act → Type 0
  AncestorsAre done = (c : ℕ) (q : ℕ × ℕ) → alive S done c ≡ true → IsIn q (ancestry_of S (born S done) c) → alive S done q.0 ≡ true

  pub same_line : (done : List Act) (a : Act) (c : ℕ) → c < length (born S done) → ancestry_of S (born S (a ∷ done)) c ≡ ancestry_of S (born S done) c
  unfolding ancestry_of
  same_line done a c l = ap (λ o. option_map_or (λ i. i.ancestry) o []) (instance_stays S (a ∷ []) done c l)

  created_line : (done : List Act) (p : ℕ) (item : Item) (slot kind : ℕ) (birth : Birth) (c : ℕ) (q : ℕ × ℕ) → length (born S done) ≤ c
      → IsIn q (ancestry_of S (born S (record { by = p; item = item; effect = effect.Create slot kind birth } ∷ done)) c)
      → (length (born S done) ≤ q.0) ⊎ IsIn q ((p, slot) ∷ ancestry_of S (born S done) p)
  unfolding born created
  created_line done p item slot kind birth c q l m = go (slice_get (born S done ++ created S (born S done) p slot kind birth) c) refl
    where
      go : (o : Option Instance) → slice_get (born S done ++ created S (born S done) p slot kind birth) c ≡ o → (length (born S done) ≤ q.0) ⊎ IsIn q ((p, slot) ∷ ancestry_of S (born S done) p)
      go None e = elim (subst (IsIn q) (none_there S (born S done ++ created S (born S done) p slot kind birth) c e) m) [ ]
      go (Some x) e =
          let n = length (born S done) in
          let news = created S (born S done) p slot kind birth in
          let same : c ≡ n + (c - n) = omega (arith, l) in
          let got : slice_get news (c - n) ≡ Some x = sym (get_right (born S done) news (c - n)) ∙ ap (slice_get (born S done ++ news)) (sym same) ∙ e in
          tree_line S depth_limit n (record { kind = kind; birth = birth; ancestry = (p, slot) ∷ ancestry_of S (born S done) p }) (suc (c - n)) (c - n) x q (omega arith) got
          (subst (IsIn q) (lined S (born S done ++ news) c x e) m)

  new_alive : (done : List Act) (p : ℕ) (item : Item) (slot kind : ℕ) (birth : Birth) (c : ℕ) → length (born S done) ≤ c → c < length (born S (record { by = p; item = item; effect = effect.Create slot kind birth } ∷ done))
      → alive S (record { by = p; item = item; effect = effect.Create slot kind birth } ∷ done) c ≡ true
  unfolding alive
  new_alive done p item slot kind birth c l k =
      ap (λ b. if b then alive S done c else nat_lt c (length (born S (record { by = p; item = item; effect = effect.Create slot kind birth } ∷ done)))) (le-ltb c (length (born S done)) l)
      ∙ lt-ltb c (length (born S (record { by = p; item = item; effect = effect.Create slot kind birth } ∷ done))) k

  pub old_alive : (done : List Act) (p : ℕ) (item : Item) (slot kind : ℕ) (birth : Birth) (c : ℕ) → c < length (born S done) → alive S (record { by = p; item = item; effect = effect.Create slot kind birth } ∷ done) c ≡ alive S done c
  unfolding alive
  old_alive done p item slot kind birth c l = ap (λ b. if b then alive S done c else nat_lt c (length (born S (record { by = p; item = item; effect = effect.Create slot kind birth } ∷ done)))) (lt-ltb c (length (born S done)) l)

  after_create : (done : List Act) (p : ℕ) (item : Item) (slot kind : ℕ) (birth : Birth) → AreByLiving S done → alive S done p ≡ true → AncestorsAre done → AncestorsAre (record { by = p; item = item; effect = effect.Create slot kind birth } ∷ done)
  unfolding AncestorsAre
  after_create done p item slot kind birth by lp h c q k m = at (nat_lt c (length (born S done))) refl
    where
      at : (b : Bool) → nat_lt c (length (born S done)) ≡ b → alive S (record { by = p; item = item; effect = effect.Create slot kind birth } ∷ done) q.0 ≡ true
      at true e =
          let l = ltb-true c (length (born S done)) e in
          let m' = subst (IsIn q) (same_line done (record { by = p; item = item; effect = effect.Create slot kind birth }) c l) m in
          let below = ancestor_born S done c q (by_born done by) m' in
          old_alive done p item slot kind birth q.0 (omega (arith, below, l)) ∙ h c q (sym (old_alive done p item slot kind birth c l) ∙ k) m'
      at false e =
          let l = ltb-false c (length (born S done)) e in
          let top = alive_born S (record { by = p; item = item; effect = effect.Create slot kind birth } ∷ done) c k in
          let under = ancestor_born S (record { by = p; item = item; effect = effect.Create slot kind birth } ∷ done) c q (by_born done by, alive_born S done p lp) m in
          by_new l top under (nat_lt q.0 (length (born S done))) refl (created_line done p item slot kind birth c q l m)
        where
          by_new : length (born S done) ≤ c → c < length (born S (record { by = p; item = item; effect = effect.Create slot kind birth } ∷ done)) → q.0 < c → (b : Bool) → nat_lt q.0 (length (born S done)) ≡ b
              → (length (born S done) ≤ q.0) ⊎ IsIn q ((p, slot) ∷ ancestry_of S (born S done) p) → alive S (record { by = p; item = item; effect = effect.Create slot kind birth } ∷ done) q.0 ≡ true
          by_new l top under false f w = new_alive done p item slot kind birth q.0 (ltb-false q.0 (length (born S done)) f) (omega (arith, under, top))
          by_new l top under true f (inl w) = absurd (let z = ltb-true q.0 (length (born S done)) f in omega (arith, z, w))
          by_new l top under true f (inr w) =
              let low = ltb-true q.0 (length (born S done)) f in
              old_alive done p item slot kind birth q.0 low
              ∙ elim (in_cons q (p, slot) (ancestry_of S (born S done) p) w) [
                | inl z ↦ ap (alive S done) (ap (λ y. y.0) z) ∙ lp
                | inr z ↦ h p q lp z
              ]

  after_destroy : (done : List Act) (p : ℕ) (item : Item) (t : ℕ) → AreByLiving S done → AncestorsAre done → AncestorsAre (record { by = p; item = item; effect = effect.Destroy t } ∷ done)
  unfolding AncestorsAre alive
  after_destroy done p item t by h c q k m =
      let a = both _ _ k in
      let lc = alive_born S done c a.0 in
      let m' = subst (IsIn q) (same_line done (record { by = p; item = item; effect = effect.Destroy t }) c lc) m in
      both_of _ _ (h c q a.0 m') (ap not (none_any (λ r. p == r.0 && t == r.1) (ancestry_of S (born S done) q.0)
      (λ r n. any_none (λ r. p == r.0 && t == r.1) r (ancestry_of S (born S done) c) (not_true _ a.1) (ancestors_of S done (by_born done by) (suc c) c q r (omega arith) m' n))))

  after_effect : (done : List Act) (p : ℕ) (item : Item) (e : Effect) → AreByLiving S done → alive S done p ≡ true → AncestorsAre done → AncestorsAre (record { by = p; item = item; effect = e } ∷ done)
  unfolding AncestorsAre alive born
  after_effect done p item (effect.Create slot kind birth) by lp h = after_create done p item slot kind birth by lp h
  after_effect done p item (effect.Destroy t) by lp h = after_destroy done p item t by h
  after_effect done p item (effect.Trigger x e) by lp h = h
  after_effect done p item (effect.Answer e) by lp h = h
  after_effect done p item (effect.Start s) by lp h = h
  after_effect done p item (effect.Stop s) by lp h = h
  after_effect done p item (effect.Dump s) by lp h = h
  after_effect done p item (effect.Hold k) by lp h = h
  after_effect done p item (effect.Resume k) by lp h = h
  after_effect done p item (effect.Unplug k f) by lp h = h
  after_effect done p item (effect.Plug k f x) by lp h = h
  after_effect done p item effect.Escalate by lp h = h

  at_root : (c : ℕ) (q : ℕ × ℕ) → alive S [] c ≡ true → IsIn q (ancestry_of S (born S []) c) → alive S [] q.0 ≡ true
  unfolding alive
  at_root c q h m =
      let l = ltb-true c (length (root_tree S)) h in
      let k = ancestor_born S [] c q tt m in
      lt-ltb q.0 (length (root_tree S)) (omega (arith, l, k))

  pub ancestors : (done : List Act) → AreByLiving S done → (c : ℕ) (q : ℕ × ℕ) → alive S done c ≡ true → IsIn q (ancestry_of S (born S done) c) → alive S done q.0 ≡ true
  unfolding AncestorsAre
  ancestors [] by c q h m = at_root c q h m
  ancestors (a ∷ done) by c q h m = after_effect done a.by a.item a.effect by.0 by.1 (ancestors done by.0) c q h m

  -- ---- occupants

  OccupantsAre : List Act → Type 0
  OccupantsAre done = (c s q : ℕ) → alive S done c ≡ true → occupant S done c s ≡ Some q → alive S done q ≡ true

  either_case : {X : Type 0} (o p : Option X) (x : X) → either o p ≡ Some x → (o ≡ Some x) ⊎ (p ≡ Some x)
  either_case None p x e = inr e
  either_case (Some y) p x e = inl e

  not_none : {X : Type 0} (b : Bool) (o : Option X) (x : X) → (if b then None else o) ≡ Some x → (b ≡ false) × (o ≡ Some x)
  not_none true o x e = absurd cc
  not_none false o x e = (refl, e)

  -- an occupant was born, under its parent
  under_parent : (done : List Act) → ActsByBorn S done → (c s q : ℕ) → occupant S done c s ≡ Some q → (q < length (born S done)) × (ancestry_of S (born S done) q ≡ (c, s) ∷ ancestry_of S (born S done) c)
  under_parent done by c s q e =
      let o = occupant_born S done c s q e in
      (slice_get_within (born S done) q o.0 o.1, lined S (born S done) q o.0 o.1 ∙ go o.0 o.2 (lines S done by q o.0 o.1))
    where
      go : (x : Instance) → first x.ancestry ≡ Some (c, s) → IsLine S (born S done) x → x.ancestry ≡ (c, s) ∷ ancestry_of S (born S done) c
      go x f (inl z) = absurd (let y : None ≡ Some (c, s) = sym (ap first z) ∙ f in cc)
      go x f (inr z) =
          let y : (z.0, z.1) ≡ (c, s) = Some-injective (sym (ap first z.2) ∙ f) in
          z.2 ∙ ap (λ r. r ∷ ancestry_of S (born S done) r.0) y

  occupied_create : (done : List Act) (p : ℕ) (item : Item) (slot kind : ℕ) (birth : Birth) → AreByLiving S done → alive S done p ≡ true → OccupantsAre done → OccupantsAre (record { by = p; item = item; effect = effect.Create slot kind birth } ∷ done)
  unfolding OccupantsAre occupant created
  occupied_create done p item slot kind birth by lp h c s q k e = at (nat_lt q (length (born S done))) refl
    where
      lineage : (q < length (born S (record { by = p; item = item; effect = effect.Create slot kind birth } ∷ done))) × (ancestry_of S (born S (record { by = p; item = item; effect = effect.Create slot kind birth } ∷ done)) q ≡ (c, s) ∷ ancestry_of S (born S (record { by = p; item = item; effect = effect.Create slot kind birth } ∷ done)) c)
      lineage = under_parent (record { by = p; item = item; effect = effect.Create slot kind birth } ∷ done) (by_born done by, alive_born S done p lp) c s q e

      not_new : (b : Bool) → (if b then Some (length (born S done)) else None) ≡ Some q → q < length (born S done) → ⊥
      not_new true f l = let z : length (born S done) ≡ q = Some-injective f in omega (arith, z, l)
      not_new false f l = absurd cc

      old_one : q < length (born S done) → c < q → alive S (record { by = p; item = item; effect = effect.Create slot kind birth } ∷ done) q ≡ true
      old_one l below =
          let n = length (born S done) in
          let lc : c < n = omega (arith, below, l) in
          old_alive done p item slot kind birth q l
          ∙ elim (either_case (child_among S c s n (created S (born S done) p slot kind birth)) (occupant S done c s) q e) [
            | inl f ↦ absurd (not_new (is_child S c s (record { kind = kind; birth = birth; ancestry = (p, slot) ∷ ancestry_of S (born S done) p }))
                (sym (outside_tree S c s depth_limit n (record { kind = kind; birth = birth; ancestry = (p, slot) ∷ ancestry_of S (born S done) p }) lc) ∙ f) l)
            | inr f ↦ h c s q (sym (old_alive done p item slot kind birth c lc) ∙ k) f
          ]

      at : (b : Bool) → nat_lt q (length (born S done)) ≡ b → alive S (record { by = p; item = item; effect = effect.Create slot kind birth } ∷ done) q ≡ true
      at false f = new_alive done p item slot kind birth q (ltb-false q (length (born S done)) f) lineage.0
      at true f =
          old_one (ltb-true q (length (born S done)) f)
          (ancestor_born S (record { by = p; item = item; effect = effect.Create slot kind birth } ∷ done) q (c, s) (by_born done by, alive_born S done p lp) (subst (IsIn (c, s)) (sym lineage.1) here))

  occupied_destroy : (done : List Act) (p : ℕ) (item : Item) (t : ℕ) → AreByLiving S done → OccupantsAre done → OccupantsAre (record { by = p; item = item; effect = effect.Destroy t } ∷ done)
  unfolding OccupantsAre occupant alive
  occupied_destroy done p item t by h c s q k e =
      let a = both _ _ k in
      let o = not_none (p == c && t == s) (occupant S done c s) q e in
      let u = under_parent done (by_born done by) c s q o.1 in
      both_of _ _ (h c s q a.0 o.1) (ap not
      (ap (list_any (λ r. p == r.0 && t == r.1)) u.1
      ∙ ap (λ b. b || list_any (λ r. p == r.0 && t == r.1) (ancestry_of S (born S done) c)) o.0
      ∙ not_true _ a.1))

  occupied_effect : (done : List Act) (p : ℕ) (item : Item) (e : Effect) → AreByLiving S done → alive S done p ≡ true → OccupantsAre done → OccupantsAre (record { by = p; item = item; effect = e } ∷ done)
  unfolding OccupantsAre alive occupant
  occupied_effect done p item (effect.Create slot kind birth) by lp h = occupied_create done p item slot kind birth by lp h
  occupied_effect done p item (effect.Destroy t) by lp h = occupied_destroy done p item t by h
  occupied_effect done p item (effect.Trigger x e) by lp h = h
  occupied_effect done p item (effect.Answer e) by lp h = h
  occupied_effect done p item (effect.Start s) by lp h = h
  occupied_effect done p item (effect.Stop s) by lp h = h
  occupied_effect done p item (effect.Dump s) by lp h = h
  occupied_effect done p item (effect.Hold k) by lp h = h
  occupied_effect done p item (effect.Resume k) by lp h = h
  occupied_effect done p item (effect.Unplug k f) by lp h = h
  occupied_effect done p item (effect.Plug k f x) by lp h = h
  occupied_effect done p item effect.Escalate by lp h = h

  root_occupied : (c s q : ℕ) → occupant S [] c s ≡ Some q → alive S [] q ≡ true
  unfolding alive born
  root_occupied c s q e = lt-ltb q (length (root_tree S)) (under_parent [] tt c s q e).0

  pub occupants : (done : List Act) → AreByLiving S done → (c s q : ℕ) → alive S done c ≡ true → occupant S done c s ≡ Some q → alive S done q ≡ true
  unfolding OccupantsAre
  occupants [] by c s q h e = root_occupied c s q e
  occupants (a ∷ done) by c s q h e = occupied_effect done a.by a.item a.effect by.0 by.1 (occupants done by.0) c s q h e

  -- ---- records

  handled_alive : (Z : Plan) (t : Bool) (b body : Body) (item : Item) (es : List Effect) → MayEnd S Z t b item (outcome.Done body es) → t ≡ true
  unfolding MayEnd
  handled_alive Z true b body item es h = refl
  handled_alive Z false b body item es h = absurd cc

  by_own : (done : List Act) (c : ℕ) (item : Item) (es : List Effect) → AreByLiving S done → alive S done c ≡ true → AreByLiving S (acts_for c (Some item) es ++ done)
  by_own done c item [] by h = by
  by_own done c item (e ∷ es) by h =
      subst (AreByLiving S) (sym (one_first c item done e es))
      (by_own (record { by = c; item = item; effect = e } ∷ done) c item es (by, h) (still done c item e (by_born done by) h))

  by_item : (done : List Act) (c : ℕ) (o : Option Item) (es : List Effect) → AreByLiving S done → alive S done c ≡ true → AreByLiving S (acts_for c o es ++ done)
  by_item done c None es by h = by
  by_item done c (Some item) es by h = by_own done c item es by h

  pub by_living : (Z : Plan) (P : History) → IsLegal S Z P → AreByLiving S (acts P)
  unfolding IsLegal acts acts_of
  by_living Z [] l = tt
  by_living Z (Took w c item ∷ P) l = by_living Z P l.0
  by_living Z (Moved w t rs ∷ P) l = by_living Z P l.0
  by_living Z (Did w c took outcome.Void to places ∷ P) l = by_living Z P l.0
  by_living Z (Did w c took (outcome.Fault n) to places ∷ P) l = by_living Z P l.0
  by_living Z (Did w c took (outcome.Done body es) to places ∷ P) l =
      by_item (acts P) c (item_at P took) es (by_living Z P l.0) (handled_alive Z (alive S (acts P) c) l.1.body body l.1.job.item es l.1.outcome)

  pub handler_lives : (Z : Plan) (P : History) (w c took : ℕ) (body : Body) (es : List Effect) (to : Option ℕ) (places : List ℕ) (item : Item) → IsLegal S Z (Did w c took (outcome.Done body es) to places ∷ P) → StaysAlive S (acts P) c item es
  unfolding IsLegal
  handler_lives Z P w c took body es to places item l =
      stays_alive (acts P) c item es (by_born (acts P) (by_living Z P l.0)) (handled_alive Z (alive S (acts P) c) l.1.body body l.1.job.item es l.1.outcome)
