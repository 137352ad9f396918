-- Nothing is put to an instance before it is created.
use Rattle.std.proofs.Common.{◌≡◌, ℕ, zero, suc, ◌+◌, ◌<◌, ◌≤◌, false, refl, ap, ◌∙◌, subst, List, [], ◌∷◌, ◌++◌, length, Option, Some, None, arith, ◌==◌, inl, inr}
use Rattle.std.specs.Prelude.{slice_get, drop, ℤ}
use Rattle.std.specs.List.{flat_map, enumerate_from}
use Rattle.std.specs.Option.{option_map_or}
use Rattle.std.proofs.lemmas.List.{length-append}
use Rattle.std.proofs.lemmas.Bool.Decides.{eqb_tells}
use Rattle.std.proofs.lemmas.Option.{slice_get_within}
use Rattle.kom_base.specs.Lists.{if_so, first}
use Rattle.kom_lang.specs.Declarations.{Declarations}
use Rattle.kom_lang.specs.declared.body.Body.{Body}
use Rattle.kom_lang.specs.declared.body.Effect.{Effect}
use Rattle.kom_lang.specs.declared.body.Effect.TheVariants as effect
use Rattle.kom_record.specs.Model.{model}
use Rattle.kom_record.specs.declared.plan.Plan.{Plan}
use Rattle.kom_record.specs.declared.item.Control.{Control as ControlItem}
use Rattle.kom_record.specs.declared.item.Control.TheVariants.{Init, Start, Stop, Fault, Dump, Dumped}
use Rattle.kom_record.specs.declared.item.Item.{Item}
use Rattle.kom_record.specs.declared.item.Item.TheVariants.{Control, Arrival}
use Rattle.kom_record.specs.declared.entry.Outcome.TheVariants as outcome
use Rattle.kom_record.specs.declared.entry.Entry.{Entry}
use Rattle.kom_record.specs.declared.entry.Entry.TheVariants.{Took, Did, Moved}
use Rattle.kom_record.specs.Entries.{History, Act, acts, acts_of, acts_for, item_at}
use Rattle.kom_record.specs.Instances.{Instance, root_tree, born, created, occupant, ancestry_of}
use Rattle.kom_record.specs.Bodies.{nearest, catches_at}
use Rattle.kom_record.specs.Controls.{control_got, inits, inits_for, to_child, to_children, to_nearest, to_parent, put_by_effect, put_by_acts, put_by_item, putting, control_put, control_waiting, fault_in}
use Rattle.kom_record.specs.Legal.{IsLegal}
use Rattle.kom_laws.proofs.Members.{IsIn, here}
use Rattle.kom_laws.proofs.InstanceLaws.{ActsByBorn, born_act, born_by, born_grows, ancestor_born, occupant_born}
use Rattle.kom_laws.proofs.Handlings.{found_in}
use Rattle.kom_laws.proofs.Escalations.{acts_by_born}
use Rattle.kom_laws.proofs.Rising.{differs}

module _ (S : Declarations) (P : History) (c : ℕ) where
  -- the numbers of new instances end before c
  pub past_new : (n : ℕ) (is : List Instance) → n + length is ≤ c → inits_for S c n is ≡ []
  unfolding inits_for
  past_new n [] h = refl
  past_new n (i ∷ is) h =
      ap (λ t. if_so t (inits S i) ++ flat_map (λ q. if_so (q.0 == c) (inits S q.1)) (enumerate_from (n + 1) is)) (differs n c (omega (arith, h)))
      ∙ past_new (n + 1) is (omega (arith, h))

  not_child : (o : Option ℕ) (k : ControlItem) → ((q : ℕ) → o ≡ Some q → q < c) → if_so (option_map_or (λ q. q == c) o false) (k ∷ []) ≡ []
  not_child None k h = refl
  not_child (Some q) k h = let g = h q refl in ap (λ t. if_so t (k ∷ [])) (differs q c g)

  to_unborn : (done : List Act) (p s : ℕ) (k : ControlItem) → length (born S done) ≤ c → to_child S done c p s k ≡ []
  unfolding to_child
  to_unborn done p s k h = not_child (occupant S done p s) k (λ q e. let b = occupant_born S done p s q e in let g = slice_get_within (born S done) q b.0 b.1 in omega (arith, h, g))

  -- whoever has an ancestor was created
  has_ancestor : (is : List Instance) (d : ℕ) (q : ℕ × ℕ) → IsIn q (option_map_or (λ i. i.ancestry) (slice_get is d) []) → d < length is
  has_ancestor is d q m = go (slice_get is d) refl m
    where
      go : (o : Option Instance) → slice_get is d ≡ o → IsIn q (option_map_or (λ i. i.ancestry) o []) → d < length is
      go None e m = elim m [ ]
      go (Some i) e m = slice_get_within is d i e

  ancestor_below : (done : List Act) (d : ℕ) (q : ℕ × ℕ) → ActsByBorn S done → length (born S done) ≤ c → IsIn q (ancestry_of S (born S done) d) → q.0 < c
  unfolding ancestry_of
  ancestor_below done d q r h m = let a = ancestor_born S done d q r m in let b = has_ancestor (born S done) d q m in omega (arith, a, b, h)

  nearest_unborn : (d n : ℕ) → ActsByBorn S (acts P) → length (born S (acts P)) ≤ c → to_nearest S P c d n ≡ []
  unfolding to_nearest nearest
  nearest_unborn d n r h = go (nearest S P d) refl
    where
      go : (o : Option (ℕ × ℕ)) → nearest S P d ≡ o → option_map_or (λ q. if_so (q.0 == c) (Fault q.1 n ∷ [])) o [] ≡ []
      go None e = refl
      go (Some q) e =
          let b = ancestor_below (acts P) d q r h (found_in (λ q. catches_at S P q.0) (ancestry_of S (born S (acts P)) d) q e).0 in
          ap (λ t. if_so t (Fault q.1 n ∷ [])) (differs q.0 c b)

  by_effect : (done : List Act) (a : Act) (e : Effect) → ActsByBorn S (acts P) → length (born S (acts P)) ≤ c → length (born S done) ≤ c → length (born S done ++ born_by S done a e) ≤ c
      → put_by_effect S P done c a e ≡ []
  unfolding put_by_effect
  by_effect done a (effect.Create slot kind birth) r h k l = past_new (length (born S done)) _ (omega (arith, l, length-append (born S done) (created S (born S done) a.by slot kind birth)))
  by_effect done a (effect.Start s) r h k l = to_unborn done a.by s Start k
  by_effect done a (effect.Stop s) r h k l = to_unborn done a.by s Stop k
  by_effect done a (effect.Dump s) r h k l = to_unborn done a.by s Dump k
  by_effect done a effect.Escalate r h k l = go (fault_in a.item)
    where
      go : (o : Option ℕ) → option_map_or (λ n. to_nearest S P c a.by n) o [] ≡ []
      go None = refl
      go (Some n) = nearest_unborn a.by n r h
  by_effect done a (effect.Trigger port event) r h k l = refl
  by_effect done a (effect.Answer event) r h k l = refl
  by_effect done a (effect.Destroy s) r h k l = refl
  by_effect done a (effect.Hold w) r h k l = refl
  by_effect done a (effect.Resume w) r h k l = refl
  by_effect done a (effect.Unplug w d) r h k l = refl
  by_effect done a (effect.Plug w d q) r h k l = refl

  -- no effect puts anything to one that is not created by then
  pub effect_unborn : (done : List Act) (a : Act) → ActsByBorn S (acts P) → length (born S (acts P)) ≤ c → length (born S done) ≤ c → length (born S (a ∷ done)) ≤ c
      → put_by_effect S P done c a a.effect ≡ []
  effect_unborn done a r h k l = by_effect done a a.effect r h k (subst (λ b. length b ≤ c) (born_act S done a) l)

  acts_unborn : (mine : List Act) → ActsByBorn S (acts P) → length (born S (mine ++ acts P)) ≤ c → put_by_acts S P c mine ≡ []
  unfolding put_by_acts
  acts_unborn [] r h = refl
  acts_unborn (a ∷ mine) r h =
      let g = born_act S (mine ++ acts P) a in
      let k : length (born S (mine ++ acts P)) ≤ c = omega (arith, h, ap length g, length-append (born S (mine ++ acts P)) (born_by S (mine ++ acts P) a a.effect)) in
      let f = born_grows S mine (acts P) in
      let b : length (born S (acts P)) ≤ c = omega (arith, k, ap length f.1, length-append (born S (acts P)) f.0) in
      ap (λ l. l ++ put_by_effect S P (mine ++ acts P) c a a.effect) (acts_unborn mine r k) ∙ effect_unborn (mine ++ acts P) a r b k h

  children_unborn : (p : ℕ) (k : ControlItem) (ss : List (ℕ × Option ℕ)) → length (born S (acts P)) ≤ c → flat_map (λ s. to_child S (acts P) c p s.0 k) ss ≡ []
  children_unborn p k [] h = refl
  children_unborn p k (s ∷ ss) h = ap (λ l. l ++ flat_map (λ s. to_child S (acts P) c p s.0 k) ss) (to_unborn (acts P) p s.0 k h) ∙ children_unborn p k ss h

  parent_unborn : (d : ℕ) (vs : List ℤ) (line : List (ℕ × ℕ)) → ((q : ℕ × ℕ) → IsIn q line → q.0 < c) → option_map_or (λ q. if_so (q.0 == c) (Dumped q.1 vs ∷ [])) (first line) [] ≡ []
  parent_unborn d vs [] h = refl
  parent_unborn d vs (q ∷ line) h = let g = h q here in ap (λ t. if_so t (Dumped q.1 vs ∷ [])) (differs q.0 c g)

  item_unborn : (d : ℕ) (b : Body) (item : Item) → ActsByBorn S (acts P) → length (born S (acts P)) ≤ c → put_by_item S P c d b item ≡ []
  unfolding put_by_item to_children to_parent
  item_unborn d b (Control Start) r h = children_unborn d Start (enumerate_from 0 b.slots) h
  item_unborn d b (Control Stop) r h = children_unborn d Stop (enumerate_from 0 b.slots) h
  item_unborn d b (Control Dump) r h = parent_unborn d b.vars (ancestry_of S (born S (acts P)) d) (λ q m. ancestor_below (acts P) d q r h m)
  item_unborn d b (Control (Init vs)) r h = refl
  item_unborn d b (Control (Fault s n)) r h = refl
  item_unborn d b (Control (Dumped s vs)) r h = refl
  item_unborn d b (Arrival x e n port side event back) r h = refl

  pub by_item_unborn : (d : ℕ) (b : Body) (o : Option Item) → ActsByBorn S (acts P) → length (born S (acts P)) ≤ c → option_map_or (put_by_item S P c d b) o [] ≡ []
  by_item_unborn d b None r h = refl
  by_item_unborn d b (Some item) r h = item_unborn d b item r h

  putting_unborn : (e : Entry) → ActsByBorn S (acts P) → length (born S (acts_of P e ++ acts P)) ≤ c → putting S P e c ≡ []
  unfolding putting acts_of
  putting_unborn (Took w d item) r h = refl
  putting_unborn (Moved w t rs) r h = refl
  putting_unborn (Did w d took outcome.Void to places) r h = refl
  putting_unborn (Did w d took (outcome.Fault n) to places) r h = nearest_unborn d n r h
  putting_unborn (Did w d took (outcome.Done b es) to places) r h =
      let mine = acts_for d (item_at P took) es in
      let f = born_grows S mine (acts P) in
      let k : length (born S (acts P)) ≤ c = omega (arith, h, ap length f.1, length-append (born S (acts P)) f.0) in
      ap (λ l. l ++ put_by_acts S P c mine) (by_item_unborn d b (item_at P took) r k) ∙ acts_unborn mine r h

not_zero : (c : ℕ) → 0 < c → (c == 0) ≡ false
not_zero c h = elim (eqb_tells c 0) [ inl t ↦ absurd (omega (arith, h, t.1)) | inr t ↦ t.0 ]

module _ (S : Declarations) (Z : Plan) (c : ℕ) where
  root_born : 0 < length (root_tree S)
  unfolding model
  root_born = omega arith

  pub nothing_put : (P : History) → IsLegal S Z P → length (born S (acts P)) ≤ c → control_put S P c ≡ []
  unfolding control_put acts born IsLegal
  nothing_put [] l h =
      let r = root_born in
      ap (λ l. l ++ if_so (c == 0) (Start ∷ [])) (past_new S [] c 0 (root_tree S) (omega (arith, h))) ∙ ap (λ t. if_so t (Start ∷ [])) (not_zero c (omega (arith, h, r)))
  nothing_put (e ∷ P) l h =
      let f = born_grows S (acts_of P e) (acts P) in
      let k : length (born S (acts P)) ≤ c = omega (arith, h, ap length f.1, length-append (born S (acts P)) f.0) in
      ap (λ l. l ++ putting S P e c) (nothing_put P l.0 k) ∙ putting_unborn S P c e (acts_by_born S Z P l.0) h

  none_left : (n : ℕ) → drop {A = ControlItem} n [] ≡ []
  none_left zero = refl
  none_left (suc n) = refl

  pub nothing_waits : (P : History) → IsLegal S Z P → length (born S (acts P)) ≤ c → control_waiting S P c ≡ []
  unfolding control_waiting
  nothing_waits P l h = ap (λ k. drop (length (control_got S P c)) k) (nothing_put P l h) ∙ none_left (length (control_got S P c))
