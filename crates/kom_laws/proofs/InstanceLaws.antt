-- What one act makes of the instances, the occupants and the living.
use Rattle.std.proofs.Common.{◌≡◌, ℕ, zero, suc, ◌+◌, ◌<◌, ◌≤◌, Bool, true, false, if◌then◌else◌, not, ◌&&◌, ◌==◌, refl, sym, ap, ◌∙◌, subst, List, [], ◌∷◌, ◌++◌, length, Option, Some, None, ◌⊎◌, inl, inr, arith}
use Rattle.std.specs.Prelude.{slice_get, nat_lt}
use Rattle.std.specs.List.{list_any, enumerate_from}
use Rattle.std.proofs.lemmas.List.{append_assoc, append-nil, length-append}
use Rattle.std.specs.Option.{option_map_or}
use Rattle.std.proofs.lemmas.Option.{slice_get_within}
use Rattle.std.proofs.lemmas.Bool.{eqb-true, lt-ltb, ltb-true}
use Rattle.kom_base.specs.Lists.{either, first}
use Rattle.kom_lang.specs.Declarations.{Declarations, kind_of}
use Rattle.kom_lang.specs.declared.body.Birth.{Birth}
use Rattle.kom_lang.specs.declared.body.Birth.TheVariants.{Args}
use Rattle.kom_lang.specs.declared.kind.SlotDecl.{SlotDecl}
use Rattle.kom_lang.specs.declared.kind.Child.{Child}
use Rattle.kom_lang.specs.declared.body.Effect.{Effect}
use Rattle.kom_lang.specs.declared.body.Effect.TheVariants as effect
use Rattle.kom_record.specs.Model.{model}
use Rattle.kom_record.specs.Instances.{depth_limit, Instance, tree, child_trees, child_tree, root_tree, born, born_after, created, ancestry_of, child_among, alive, alive_after, occupant, occupant_after}
use Rattle.kom_record.specs.declared.item.Item.{Item}
use Rattle.kom_record.specs.Entries.{Act}
use Rattle.kom_laws.proofs.Members.{IsIn, here, there, Some-injective}
use Rattle.kom_laws.proofs.ListFacts.{get_left, get_right}

abbrev pub is_create : Effect → Bool
is_create (effect.Create slot kind birth) = true
is_create e = false

abbrev pub is_destroy : Effect → Bool
is_destroy (effect.Destroy slot) = true
is_destroy e = false

abbrev pub does : ℕ → Item → Effect → Act
does c item e = record { by = c; item = item; effect = e }

module _ (S : Declarations) where
  -- what the acts add
  abbrev pub born_by : List Act → Act → Effect → List Instance
  born_by done a (effect.Create slot kind birth) = created S (born S done) a.by slot kind birth
  born_by done a e = []

  born_by_effect : (done : List Act) (a : Act) (e : Effect) → born_after S a e (born S done) ≡ born S done ++ born_by done a e
  unfolding model
  born_by_effect done a (effect.Create slot kind birth) = refl
  born_by_effect done a (effect.Trigger p e) = sym (append-nil _)
  born_by_effect done a (effect.Answer e) = sym (append-nil _)
  born_by_effect done a (effect.Start s) = sym (append-nil _)
  born_by_effect done a (effect.Stop s) = sym (append-nil _)
  born_by_effect done a (effect.Destroy s) = sym (append-nil _)
  born_by_effect done a (effect.Dump s) = sym (append-nil _)
  born_by_effect done a (effect.Hold k) = sym (append-nil _)
  born_by_effect done a (effect.Resume k) = sym (append-nil _)
  born_by_effect done a (effect.Unplug k f) = sym (append-nil _)
  born_by_effect done a (effect.Plug k f p) = sym (append-nil _)
  born_by_effect done a effect.Escalate = sym (append-nil _)

  -- one act more, the instances grow at the end
  pub born_act : (done : List Act) (a : Act) → born S (a ∷ done) ≡ born S done ++ born_by done a a.effect
  unfolding model
  born_act done a = born_by_effect done a a.effect

  -- more acts only add instances
  pub born_grows : (mine done : List Act) → (more : List Instance) × (born S (mine ++ done) ≡ born S done ++ more)
  unfolding model
  born_grows [] done = ([], sym (append-nil _))
  born_grows (a ∷ mine) done =
      let r = born_grows mine done in (
        r.0 ++ born_by (mine ++ done) a a.effect,
        born_act (mine ++ done) a ∙ ap (λ b. b ++ born_by (mine ++ done) a a.effect) r.1 ∙ append_assoc _ r.0 _,
      )

  -- an instance keeps its row
  pub instance_stays : (mine done : List Act) (c : ℕ) → c < length (born S done) → slice_get (born S (mine ++ done)) c ≡ slice_get (born S done) c
  unfolding model
  instance_stays mine done c h = let r = born_grows mine done in ap (λ b. slice_get b c) r.1 ∙ get_left _ r.0 c h

  -- the tree that is created is not empty; its first instance is the one of the call
  pub created_first : (n : ℕ) (levels : ℕ) (i : Instance) → first (tree levels S n i) ≡ Some i
  unfolding model
  created_first n zero i = refl
  created_first n (suc levels) i = refl

  -- what a Create and a Destroy make of the living, and that nothing else changes them
  pub alive_create : (done : List Act) (c p : ℕ) (item : Item) (slot kind : ℕ) (birth : Birth)
      → alive S (does p item (effect.Create slot kind birth) ∷ done) c
      ≡ (if nat_lt c (length (born S done)) then alive S done c else nat_lt c (length (born S done ++ created S (born S done) p slot kind birth)))
  unfolding model
  alive_create done c p item slot kind birth = refl

  pub alive_destroy : (done : List Act) (c p : ℕ) (item : Item) (slot : ℕ)
      → alive S (does p item (effect.Destroy slot) ∷ done) c ≡ (alive S done c && not (list_any (λ q. p == q.0 && slot == q.1) (ancestry_of S (born S done) c)))
  unfolding model
  alive_destroy done c p item slot = refl

  alive_by_effect : (done : List Act) (a : Act) (c : ℕ) (e : Effect) → is_create e ≡ false → is_destroy e ≡ false → alive_after S done a c e (alive S done c) ≡ alive S done c
  unfolding model
  alive_by_effect done a c (effect.Create slot kind birth) h k = absurd cc
  alive_by_effect done a c (effect.Destroy s) h k = absurd cc
  alive_by_effect done a c (effect.Trigger p e) h k = refl
  alive_by_effect done a c (effect.Answer e) h k = refl
  alive_by_effect done a c (effect.Start s) h k = refl
  alive_by_effect done a c (effect.Stop s) h k = refl
  alive_by_effect done a c (effect.Dump s) h k = refl
  alive_by_effect done a c (effect.Hold j) h k = refl
  alive_by_effect done a c (effect.Resume j) h k = refl
  alive_by_effect done a c (effect.Unplug j f) h k = refl
  alive_by_effect done a c (effect.Plug j f p) h k = refl
  alive_by_effect done a c effect.Escalate h k = refl

  pub alive_other : (done : List Act) (a : Act) (c : ℕ) → is_create a.effect ≡ false → is_destroy a.effect ≡ false → alive S (a ∷ done) c ≡ alive S done c
  unfolding model
  alive_other done a c h k = alive_by_effect done a c a.effect h k

  grows_by_one : (done : List Act) (a : Act) (c : ℕ) → c < length (born S done) → c < length (born S (a ∷ done))
  unfolding model
  grows_by_one done a c h = subst (λ b. c < length b) (sym (born_act done a)) (omega (arith, length-append (born S done) (born_by done a a.effect), h))

  and_left : (a b : Bool) → (a && b) ≡ true → a ≡ true
  unfolding model
  and_left true b e = refl
  and_left false b e = absurd cc

  -- an instance that was born does not come alive again
  before_by_effect : (done : List Act) (a : Act) (c : ℕ) (e : Effect) → c < length (born S done) → alive_after S done a c e (alive S done c) ≡ true → alive S done c ≡ true
  unfolding model
  before_by_effect done a c (effect.Create slot kind birth) b h = ap (λ t. if t then alive S done c else nat_lt c (length (born S (a ∷ done)))) (sym (lt-ltb c (length (born S done)) b)) ∙ h
  before_by_effect done a c (effect.Destroy s) b h = and_left _ _ h
  before_by_effect done a c (effect.Trigger p e) b h = h
  before_by_effect done a c (effect.Answer e) b h = h
  before_by_effect done a c (effect.Start s) b h = h
  before_by_effect done a c (effect.Stop s) b h = h
  before_by_effect done a c (effect.Dump s) b h = h
  before_by_effect done a c (effect.Hold j) b h = h
  before_by_effect done a c (effect.Resume j) b h = h
  before_by_effect done a c (effect.Unplug j f) b h = h
  before_by_effect done a c (effect.Plug j f p) b h = h
  before_by_effect done a c effect.Escalate b h = h

  pub alive_before : (done : List Act) (a : Act) (c : ℕ) → c < length (born S done) → alive S (a ∷ done) c ≡ true → alive S done c ≡ true
  unfolding model
  alive_before done a c b h = before_by_effect done a c a.effect b h

  pub alive_all_before : (mine done : List Act) (c : ℕ) → c < length (born S done) → alive S (mine ++ done) c ≡ true → alive S done c ≡ true
  unfolding model
  alive_all_before [] done c b h = h
  alive_all_before (a ∷ mine) done c b h =
      alive_all_before mine done c b
      (alive_before (mine ++ done) a c (let r = born_grows mine done in subst (λ l. c < length l) (sym r.1) (omega (arith, length-append (born S done) r.0, b))) h)

  -- who is alive was born
  from_choice : {X : Type 0} (t u v : Bool) → (if t then u else v) ≡ true → (u ≡ true → X) → (v ≡ true → X) → X
  unfolding model
  from_choice true u v e f g = f e
  from_choice false u v e f g = g e

  born_by_case : (done : List Act) (a : Act) (c : ℕ) (e : Effect) → (alive S done c ≡ true → c < length (born S (a ∷ done))) → alive_after S done a c e (alive S done c) ≡ true → c < length (born S (a ∷ done))
  unfolding model
  born_by_case done a c (effect.Create slot kind birth) rest h = from_choice (nat_lt c (length (born S done))) (alive S done c) (nat_lt c (length (born S (a ∷ done)))) h rest (ltb-true c (length (born S (a ∷ done))))
  born_by_case done a c (effect.Destroy s) rest h = rest (and_left _ _ h)
  born_by_case done a c (effect.Trigger p e) rest h = rest h
  born_by_case done a c (effect.Answer e) rest h = rest h
  born_by_case done a c (effect.Start s) rest h = rest h
  born_by_case done a c (effect.Stop s) rest h = rest h
  born_by_case done a c (effect.Dump s) rest h = rest h
  born_by_case done a c (effect.Hold j) rest h = rest h
  born_by_case done a c (effect.Resume j) rest h = rest h
  born_by_case done a c (effect.Unplug j f) rest h = rest h
  born_by_case done a c (effect.Plug j f p) rest h = rest h
  born_by_case done a c effect.Escalate rest h = rest h

  pub alive_born : (done : List Act) (c : ℕ) → alive S done c ≡ true → c < length (born S done)
  unfolding model
  alive_born [] c h = ltb-true c (length (root_tree S)) h
  alive_born (a ∷ done) c h = born_by_case done a c a.effect (λ k. grows_by_one done a c (alive_born done c k)) h

  -- each act is by an instance that was there, as it is in a legal record
  abbrev pub ActsByBorn : List Act → Type 0
  ActsByBorn [] = Unit {0}
  ActsByBorn (a ∷ done) = ActsByBorn done × (a.by < length (born S done))

  -- each of these, numbered from n on, has ancestors of lesser numbers alone
  abbrev pub HaveLesserAncestors : ℕ → List Instance → Type 0
  HaveLesserAncestors n [] = Unit {0}
  HaveLesserAncestors n (i ∷ is) = ((q : ℕ × ℕ) → IsIn q i.ancestry → q.0 < n) × HaveLesserAncestors (suc n) is

  under_append : (n : ℕ) (xs ys : List Instance) → HaveLesserAncestors n xs → HaveLesserAncestors (n + length xs) ys → HaveLesserAncestors n (xs ++ ys)
  under_append n [] ys u v = subst (λ m. HaveLesserAncestors m ys) (let e : n + 0 ≡ n = omega arith in e) v
  under_append n (x ∷ xs) ys u v = (u.0, under_append (suc n) xs ys u.1 (subst (λ m. HaveLesserAncestors m ys) (let e : n + suc (length xs) ≡ suc n + length xs = omega arith in e) v))

  under_get : (n : ℕ) (is : List Instance) (c : ℕ) (i : Instance) (q : ℕ × ℕ) → HaveLesserAncestors n is → slice_get is c ≡ Some i → IsIn q i.ancestry → q.0 < n + c
  under_get n [] c i q u e f = absurd cc
  under_get n (j ∷ is) zero i q u e f = let s : j ≡ i = Some-injective e in let r = u.0 q (subst (λ k. IsIn q k.ancestry) (sym s) f) in omega (arith, r)
  under_get n (j ∷ is) (suc c) i q u e f = let r = under_get (suc n) is c i q u.1 e f in omega (arith, r)

  -- all of these pairs have a number below n
  abbrev AllBelow : ℕ → List (ℕ × ℕ) → Type 0
  AllBelow n line = (q : ℕ × ℕ) → IsIn q line → q.0 < n

  below_cons : (n p s : ℕ) (line : List (ℕ × ℕ)) → p < n → AllBelow n line → AllBelow n ((p, s) ∷ line)
  below_cons n p s line h k q here = h
  below_cons n p s line h k q (there m) = k q m

  below_later : (n m : ℕ) (line : List (ℕ × ℕ)) → n ≤ m → AllBelow n line → AllBelow m line
  below_later n m line h k q i = let r = k q i in omega (arith, h, r)

  abbrev Grows : (ℕ → Instance → List Instance) → Type 0
  Grows grow = (n : ℕ) (i : Instance) → AllBelow n i.ancestry → HaveLesserAncestors n (grow n i)

  child_tree_under : (grow : ℕ → Instance → List Instance) → Grows grow → (parent : ℕ) (line : List (ℕ × ℕ)) (next s : ℕ) (d : SlotDecl) (o : Option Child) → d.child ≡ o → parent < next → AllBelow next line
      → HaveLesserAncestors next (child_tree grow parent line next (s, d))
  child_tree_under grow g parent line next s d None e h k = subst (λ x. HaveLesserAncestors next (option_map_or (λ child. grow next (record { kind = child.kind; birth = Args child.args; ancestry = (parent, s) ∷ line })) x [])) (sym e) tt
  child_tree_under grow g parent line next s d (Some child) e h k =
      subst (λ x. HaveLesserAncestors next (option_map_or (λ child. grow next (record { kind = child.kind; birth = Args child.args; ancestry = (parent, s) ∷ line })) x [])) (sym e)
      (g next (record { kind = child.kind; birth = Args child.args; ancestry = (parent, s) ∷ line }) (below_cons next parent s line h k))

  child_trees_under : (grow : ℕ → Instance → List Instance) → Grows grow → (parent : ℕ) (line : List (ℕ × ℕ)) (next : ℕ) (ss : List (ℕ × SlotDecl)) → parent < next → AllBelow next line
      → HaveLesserAncestors next (child_trees grow parent line next ss)
  child_trees_under grow g parent line next [] h k = tt
  child_trees_under grow g parent line next (s ∷ ss) h k =
      let more : next ≤ next + length (child_tree grow parent line next s) = omega arith in
      under_append next (child_tree grow parent line next s) (child_trees grow parent line (next + length (child_tree grow parent line next s)) ss)
      (child_tree_under grow g parent line next s.0 s.1 s.1.child refl h k)
      (child_trees_under grow g parent line (next + length (child_tree grow parent line next s)) ss (omega (arith, h)) (below_later next _ line more k))

  tree_under : (levels : ℕ) → Grows (tree levels S)
  tree_under zero n i h = (h, tt)
  tree_under (suc levels) n i h =
      (h, child_trees_under (tree levels S) (tree_under levels) n i.ancestry (suc n) (enumerate_from 0 (kind_of S i.kind).slots) (omega arith) (below_later n (suc n) i.ancestry (omega arith) h))

  -- the ancestry of an instance that was born is below it
  ancestry_below : (is : List Instance) (c : ℕ) (o : Option Instance) → HaveLesserAncestors 0 is → slice_get is c ≡ o → AllBelow c (option_map_or (λ i. i.ancestry) o [])
  ancestry_below is c None u e q m = elim m [ ]
  ancestry_below is c (Some i) u e q m = let r = under_get 0 is c i q u e m in omega (arith, r)

  under_by_case : (done : List Act) (a : Act) (e : Effect) → a.by < length (born S done) → HaveLesserAncestors 0 (born S done) → HaveLesserAncestors 0 (born_after S a e (born S done))
  unfolding model
  under_by_case done a (effect.Create slot kind birth) h u =
      let below : AllBelow a.by (ancestry_of S (born S done) a.by) = ancestry_below (born S done) a.by (slice_get (born S done) a.by) u refl in
      under_append 0 (born S done) (created S (born S done) a.by slot kind birth) u
      (subst (λ m. HaveLesserAncestors m (created S (born S done) a.by slot kind birth)) (let e : length (born S done) ≡ 0 + length (born S done) = omega arith in e)
      (tree_under depth_limit (length (born S done)) (record { kind = kind; birth = birth; ancestry = (a.by, slot) ∷ ancestry_of S (born S done) a.by })
      (below_cons (length (born S done)) a.by slot (ancestry_of S (born S done) a.by) h (below_later a.by (length (born S done)) _ (omega (arith, h)) below))))
  under_by_case done a (effect.Destroy s) h u = u
  under_by_case done a (effect.Trigger p e) h u = u
  under_by_case done a (effect.Answer e) h u = u
  under_by_case done a (effect.Start s) h u = u
  under_by_case done a (effect.Stop s) h u = u
  under_by_case done a (effect.Dump s) h u = u
  under_by_case done a (effect.Hold j) h u = u
  under_by_case done a (effect.Resume j) h u = u
  under_by_case done a (effect.Unplug j f) h u = u
  under_by_case done a (effect.Plug j f p) h u = u
  under_by_case done a effect.Escalate h u = u

  none_below : (n : ℕ) → AllBelow n []
  none_below n q m = elim m [ ]

  born_under : (done : List Act) → ActsByBorn done → HaveLesserAncestors 0 (born S done)
  unfolding model
  born_under [] r = tree_under depth_limit 0 (record { kind = S.root.kind; birth = Args S.root.args; ancestry = [] }) (none_below 0)
  born_under (a ∷ done) r = under_by_case done a a.effect r.1 (born_under done r.0)

  -- an ancestor has a lesser number, so the tree has no circle
  pub ancestor_born : (done : List Act) (c : ℕ) (q : ℕ × ℕ) → ActsByBorn done → IsIn q (ancestry_of S (born S done) c) → q.0 < c
  unfolding ancestry_of
  ancestor_born done c q r m = ancestry_below (born S done) c (slice_get (born S done) c) (born_under done r) refl q m

  in_first : (line : List (ℕ × ℕ)) (q : ℕ × ℕ) → first line ≡ Some q → IsIn q line
  in_first [] q e = absurd cc
  in_first (p ∷ line) q e = let s : p ≡ q = Some-injective e in subst (λ z. IsIn z (p ∷ line)) s here

  -- so has a parent
  pub parent_born : (done : List Act) (c : ℕ) (i : Instance) (q : ℕ × ℕ) → ActsByBorn done → slice_get (born S done) c ≡ Some i → first i.ancestry ≡ Some q → q.0 < c
  parent_born done c i q r e f = let u = under_get 0 (born S done) c i q (born_under done r) e (in_first i.ancestry q f) in omega (arith, u)

  -- what a Create and a Destroy make of the occupants
  pub occupant_create : (done : List Act) (q s p : ℕ) (item : Item) (slot kind : ℕ) (birth : Birth)
      → occupant S (does p item (effect.Create slot kind birth) ∷ done) q s
      ≡ either (child_among S q s (length (born S done)) (created S (born S done) p slot kind birth)) (occupant S done q s)
  unfolding model
  occupant_create done q s p item slot kind birth = refl

  pub occupant_destroy : (done : List Act) (q s p : ℕ) (item : Item) (slot : ℕ)
      → occupant S (does p item (effect.Destroy slot) ∷ done) q s ≡ (if p == q && slot == s then None else occupant S done q s)
  unfolding model
  occupant_destroy done q s p item slot = refl

  abbrev IsChild : ℕ → ℕ → ℕ → List Instance → ℕ → Type 0
  IsChild p s n is c = (j : ℕ) × (i : Instance) × (c ≡ n + j) × (slice_get is j ≡ Some i) × (first i.ancestry ≡ Some (p, s))

  child_test : (p s n c : ℕ) (line : List (ℕ × ℕ)) → (if option_map_or (λ q. q.0 == p && q.1 == s) (first line) false then Some n else None) ≡ Some c → (c ≡ n) × (first line ≡ Some (p, s))
  unfolding model
  child_test p s n c [] e = absurd cc
  child_test p s n c (q ∷ line) e = go (q.0 == p) (q.1 == s) refl refl e
    where
      go : (a b : Bool) → (q.0 == p) ≡ a → (q.1 == s) ≡ b → (if a && b then Some n else None) ≡ Some c → (c ≡ n) × (first (q ∷ line) ≡ Some (p, s))
      go true true f g h = (sym (Some-injective h), ap Some (let a : q.0 ≡ p = eqb-true q.0 p f in let b : q.1 ≡ s = eqb-true q.1 s g in let r : (q.0, q.1) ≡ (p, s) = cc in r))
      go true false f g h = absurd cc
      go false b f g h = absurd cc

  child_here : (p s n : ℕ) (i : Instance) (is : List Instance) (c : ℕ) (o : Option ℕ) → (o ≡ Some c → IsChild p s (suc n) is c)
      → either o (if option_map_or (λ q. q.0 == p && q.1 == s) (first i.ancestry) false then Some n else None) ≡ Some c → IsChild p s n (i ∷ is) c
  unfolding model
  child_here p s n i is c None rest e = let t = child_test p s n c i.ancestry e in (0, i, omega (arith, t.0), refl, t.1)
  child_here p s n i is c (Some d) rest e = let r = rest e in (suc r.0, r.1, omega (arith, r.2), r.3, r.4)

  child_is : (p s n : ℕ) (is : List Instance) (c : ℕ) → child_among S p s n is ≡ Some c → (j : ℕ) × (i : Instance) × (c ≡ n + j) × (slice_get is j ≡ Some i) × (first i.ancestry ≡ Some (p, s))
  unfolding model
  child_is p s n [] c e = absurd cc
  child_is p s n (i ∷ is) c e = child_here p s n i is c (child_among S p s (suc n) is) (child_is p s (suc n) is c) e

  abbrev IsOccupant : List Instance → ℕ → ℕ → ℕ → Type 0
  IsOccupant is q s c = (i : Instance) × (slice_get is c ≡ Some i) × (first i.ancestry ≡ Some (q, s))

  if_none : {X : Type 0} (b : Bool) (o : Option X) (x : X) → (if b then None else o) ≡ Some x → o ≡ Some x
  unfolding model
  if_none true o x e = absurd cc
  if_none false o x e = e

  either_case : {X : Type 0} (o p : Option X) (x : X) → either o p ≡ Some x → (o ≡ Some x) ⊎ (p ≡ Some x)
  unfolding model
  either_case None p x e = inr e
  either_case (Some y) p x e = inl e

  more_born : (old new : List Instance) (q s c : ℕ) → IsOccupant old q s c → IsOccupant (old ++ new) q s c
  unfolding model
  more_born old new q s c r = (r.0, get_left old new c (slice_get_within old c r.0 r.1) ∙ r.1, r.2)

  occupant_by_case : (done : List Act) (a : Act) (q s c : ℕ) (e : Effect) → (occupant S done q s ≡ Some c → IsOccupant (born S done) q s c)
      → occupant_after S done a q s e (occupant S done q s) ≡ Some c → IsOccupant (born_after S a e (born S done)) q s c
  unfolding model
  occupant_by_case done a q s c (effect.Create slot kind birth) rest h =
      let new = created S (born S done) a.by slot kind birth in
      elim (either_case (child_among S q s (length (born S done)) new) (occupant S done q s) c h) [
        | inl m ↦ let r = child_is q s (length (born S done)) new c m in (r.1, ap (slice_get (born S done ++ new)) r.2 ∙ get_right (born S done) new r.0 ∙ r.3, r.4)
        | inr m ↦ more_born (born S done) new q s c (rest m)
      ]
  occupant_by_case done a q s c (effect.Destroy t) rest h = rest (if_none _ _ c h)
  occupant_by_case done a q s c (effect.Trigger p e) rest h = rest h
  occupant_by_case done a q s c (effect.Answer e) rest h = rest h
  occupant_by_case done a q s c (effect.Start t) rest h = rest h
  occupant_by_case done a q s c (effect.Stop t) rest h = rest h
  occupant_by_case done a q s c (effect.Dump t) rest h = rest h
  occupant_by_case done a q s c (effect.Hold j) rest h = rest h
  occupant_by_case done a q s c (effect.Resume j) rest h = rest h
  occupant_by_case done a q s c (effect.Unplug j f) rest h = rest h
  occupant_by_case done a q s c (effect.Plug j f p) rest h = rest h
  occupant_by_case done a q s c effect.Escalate rest h = rest h

  -- an occupant was born in that slot
  pub occupant_born : (done : List Act) (q s c : ℕ) → occupant S done q s ≡ Some c → (i : Instance) × (slice_get (born S done) c ≡ Some i) × (first i.ancestry ≡ Some (q, s))
  unfolding model
  occupant_born [] q s c e = let r = child_is q s 0 (root_tree S) c e in (r.1, ap (λ m. slice_get (root_tree S) m) (let f : c ≡ r.0 = omega (arith, r.2) in f) ∙ r.3, r.4)
  occupant_born (a ∷ done) q s c e = occupant_by_case done a q s c a.effect (occupant_born done q s c) e

  -- an instance that is not born has no occupants
  pub occupant_unborn : (done : List Act) (q s : ℕ) → ActsByBorn done → length (born S done) ≤ q → occupant S done q s ≡ None
  unfolding model
  occupant_unborn done q s r h = go (occupant S done q s) refl
    where
      go : (o : Option ℕ) → occupant S done q s ≡ o → o ≡ None
      go None e = refl
      go (Some c) e =
          let i = occupant_born done q s c e in
          let p : q < c = parent_born done c i.0 (q, s) r i.1 i.2 in
          let b = slice_get_within (born S done) c i.0 i.1 in
          absurd (omega (arith, p, b, h))
