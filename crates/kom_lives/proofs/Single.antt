-- In a slot there is one living component at most.
use Rattle.std.proofs.Common.{◌≡◌, ℕ, zero, suc, ◌+◌, ◌-◌, ◌<◌, ◌≤◌, Bool, true, false, if◌then◌else◌, ◌&&◌, ◌==◌, refl, sym, ap, ◌∙◌, subst, List, [], ◌∷◌, ◌++◌, length, Option, Some, None, ◌⊎◌, inl, inr, arith, eq-eqb}
use Rattle.std.specs.Prelude.{slice_get, nat_lt}
use Rattle.std.specs.List.{enumerate_from}
use Rattle.std.specs.Option.{option_map_or}
use Rattle.std.proofs.lemmas.Bool.{eqb-true, ltb-true, ltb-false}
use Rattle.std.proofs.lemmas.List.{length-append}
use Rattle.kom_base.specs.Lists.{either, first}
use Rattle.kom_lang.specs.Declarations.{Declarations, kind_of}
use Rattle.kom_lang.specs.declared.kind.Child.{Child}
use Rattle.kom_lang.specs.declared.kind.SlotDecl.{SlotDecl}
use Rattle.kom_lang.specs.declared.body.Birth.{Birth}
use Rattle.kom_lang.specs.declared.body.Birth.TheVariants.{Args}
use Rattle.kom_lang.specs.declared.body.Effect.{Effect}
use Rattle.kom_lang.specs.declared.body.Effect.TheVariants as effect
use Rattle.kom_record.specs.declared.item.Item.{Item}
use Rattle.kom_lang.specs.declared.body.Body.{Body}
use Rattle.kom_system.specs.WellFormed.{IsDeclared}
use Rattle.kom_record.specs.declared.plan.Plan.{Plan}
use Rattle.kom_record.specs.declared.entry.Outcome.TheVariants as outcome
use Rattle.kom_record.specs.declared.entry.Entry.TheVariants.{Took, Did, Moved}
use Rattle.kom_record.specs.Legal.{IsLegal}
use Rattle.kom_record.specs.Entries.{Act, History, acts, acts_for, acts_of, item_at}
use Rattle.kom_record.specs.Instances.{Instance, alive, ancestry_of, born, child_among, child_trees, created, depth_limit, is_child, occupant, root_tree, tree}
use Rattle.kom_laws.proofs.Members.{IsIn, here, Some-injective}
use Rattle.kom_laws.proofs.ListFacts.{get_left, get_right, got_at}
use Rattle.kom_laws.proofs.InstanceLaws.{ancestor_born, alive_born}
use Rattle.kom_agree.specs.Effects.{AreMet, IsMet}
use Rattle.kom_agree.proofs.Records.{effects_met}
use Rattle.kom_agree.proofs.Small.{one_first}
use Rattle.kom_agree.proofs.Trees.{outside_tree}
use Rattle.kom_lives.specs.Living.{AreByLiving, AreOrderly, FindsEmpty, StaysAlive}
use Rattle.kom_lives.proofs.Lineage.{lined}
use Rattle.kom_lives.proofs.Lives.{any_none, both, both_of, by_born, handler_lives, not_true, old_alive, same_line}

module _ (S : Declarations) where
  -- whoever of these has a parent has one in such a slot
  abbrev ChildrenIn : (ℕ × ℕ → Type 0) → List Instance → Type 0
  ChildrenIn Q [] = Unit {0}
  ChildrenIn Q (i ∷ is) = ((q : ℕ × ℕ) → first i.ancestry ≡ Some q → Q q) × ChildrenIn Q is

  children_append : (Q : ℕ × ℕ → Type 0) (xs ys : List Instance) → ChildrenIn Q xs → ChildrenIn Q ys → ChildrenIn Q (xs ++ ys)
  children_append Q [] ys h k = k
  children_append Q (x ∷ xs) ys h k = (h.0, children_append Q xs ys h.1 k)

  child_at : (Q : ℕ × ℕ → Type 0) (is : List Instance) (j : ℕ) (x : Instance) (q : ℕ × ℕ) → ChildrenIn Q is → slice_get is j ≡ Some x → first x.ancestry ≡ Some q → Q q
  child_at Q [] j x q h e f = absurd cc
  child_at Q (i ∷ is) zero x q h e f = h.0 q (ap (λ z. first z.ancestry) (Some-injective e) ∙ f)
  child_at Q (i ∷ is) (suc j) x q h e f = child_at Q is j x q h.1 e f

  abbrev in_slot : ℕ → List (ℕ × ℕ) → ℕ → Child → Instance
  in_slot n line a child = record { kind = child.kind; birth = Args child.args; ancestry = (n, a) ∷ line }

  abbrev slot_tree : ℕ → ℕ → List (ℕ × ℕ) → ℕ → ℕ → Option Child → List Instance
  slot_tree levels n line next a o = option_map_or (λ child. tree levels S next (in_slot n line a child)) o []

  abbrev Grows : (ℕ × ℕ → Type 0) → ℕ → Type 0
  Grows Q levels = (n : ℕ) (i : Instance) → ((q : ℕ × ℕ) → first i.ancestry ≡ Some q → Q q) → ((m s : ℕ) → n ≤ m → m < n + length (tree levels S n i) → Q (m, s)) → ChildrenIn Q (tree levels S n i)

  one_children : (Q : ℕ × ℕ → Type 0) (levels : ℕ) → Grows Q levels → (n : ℕ) (line : List (ℕ × ℕ)) (next a : ℕ) (o : Option Child) → Q (n, a)
      → ((m s : ℕ) → next ≤ m → m < next + length (slot_tree levels n line next a o) → Q (m, s)) → ChildrenIn Q (slot_tree levels n line next a o)
  one_children Q levels g n line next a None h k = tt
  one_children Q levels g n line next a (Some child) h k = g next (in_slot n line a child) (λ q e. subst Q (Some-injective e) h) k

  row_children : (Q : ℕ × ℕ → Type 0) (levels : ℕ) → Grows Q levels → (n : ℕ) (line : List (ℕ × ℕ)) (next a : ℕ) (ss : List SlotDecl) → ((b : ℕ) → a ≤ b → Q (n, b))
      → ((m s : ℕ) → next ≤ m → m < next + length (child_trees (tree levels S) n line next (enumerate_from a ss)) → Q (m, s)) → ChildrenIn Q (child_trees (tree levels S) n line next (enumerate_from a ss))
  row_children Q levels g n line next a [] h k = tt
  row_children Q levels g n line next a (d ∷ ds) h k =
      let one = slot_tree levels n line next a d.child in
      let rest = child_trees (tree levels S) n line (next + length one) (enumerate_from (a + 1) ds) in
      children_append Q one rest
      (one_children Q levels g n line next a d.child (h a (omega arith)) (λ m s u v. k m s u (omega (arith, length-append one rest, v))))
      (row_children Q levels g n line (next + length one) (a + 1) ds (λ b u. h b (omega (arith, u))) (λ m s u v. k m s (omega (arith, u)) (omega (arith, length-append one rest, v))))

  tree_children : (Q : ℕ × ℕ → Type 0) (levels : ℕ) → Grows Q levels
  tree_children Q zero n i h k = (h, tt)
  tree_children Q (suc levels) n i h k =
      (h, row_children Q levels (tree_children Q levels) n i.ancestry (suc n) 0 (kind_of S i.kind).slots (λ b u. k n b (omega arith) (omega arith)) (λ m s u v. k m s (omega (arith, u)) (omega (arith, v))))

  -- ---- no two are in one slot

  abbrev pub AreSingle : List Instance → Type 0
  AreSingle is = (j k : ℕ) (x y : Instance) (q : ℕ × ℕ) → slice_get is j ≡ Some x → slice_get is k ≡ Some y → first x.ancestry ≡ Some q → first y.ancestry ≡ Some q → j ≡ k

  single_append : (Q R : ℕ × ℕ → Type 0) (xs ys : List Instance) → ((q : ℕ × ℕ) → Q q → R q → ⊥) → ChildrenIn Q xs → ChildrenIn R ys → AreSingle xs → AreSingle ys → AreSingle (xs ++ ys)
  single_append Q R xs ys apart h k u v j i x y q e f g w = at (nat_lt j (length xs)) (nat_lt i (length xs)) refl refl
    where
      back : (m : ℕ) (z : Instance) → slice_get (xs ++ ys) m ≡ Some z → length xs ≤ m → slice_get ys (m - length xs) ≡ Some z
      back m z e l = let same : m ≡ length xs + (m - length xs) = omega (arith, l) in sym (get_right xs ys (m - length xs)) ∙ ap (slice_get (xs ++ ys)) (sym same) ∙ e

      front : (m : ℕ) (z : Instance) → slice_get (xs ++ ys) m ≡ Some z → m < length xs → slice_get xs m ≡ Some z
      front m z e l = sym (get_left xs ys m l) ∙ e

      at : (a b : Bool) → nat_lt j (length xs) ≡ a → nat_lt i (length xs) ≡ b → j ≡ i
      at true true p r = u j i x y q (front j x e (ltb-true j (length xs) p)) (front i y f (ltb-true i (length xs) r)) g w
      at true false p r = absurd (apart q (child_at Q xs j x q h (front j x e (ltb-true j (length xs) p)) g) (child_at R ys (i - length xs) y q k (back i y f (ltb-false i (length xs) r)) w))
      at false true p r = absurd (apart q (child_at Q xs i y q h (front i y f (ltb-true i (length xs) r)) w) (child_at R ys (j - length xs) x q k (back j x e (ltb-false j (length xs) p)) g))
      at false false p r =
          let lj = ltb-false j (length xs) p in
          let li = ltb-false i (length xs) r in
          let s = v (j - length xs) (i - length xs) x y q (back j x e lj) (back i y f li) g w in
          omega (arith, lj, li, s)

  abbrev pub TreesAreSingle : ℕ → Type 0
  TreesAreSingle levels = (n : ℕ) (i : Instance) → ((q : ℕ × ℕ) → first i.ancestry ≡ Some q → q.0 < n) → AreSingle (tree levels S n i)

  single_slot : (levels : ℕ) → TreesAreSingle levels → (n : ℕ) (line : List (ℕ × ℕ)) (next a : ℕ) (o : Option Child) → n < next → AreSingle (slot_tree levels n line next a o)
  single_slot levels t n line next a None l j k x y q e f g w = absurd cc
  single_slot levels t n line next a (Some child) l j k x y q e f g w = t next (in_slot n line a child) (λ r z. let p : n ≡ r.0 = ap (λ y. y.0) (Some-injective z) in omega (arith, p, l)) j k x y q e f g w

  single_row : (levels : ℕ) → TreesAreSingle levels → (n : ℕ) (line : List (ℕ × ℕ)) (next a : ℕ) (ss : List SlotDecl) → n < next → AreSingle (child_trees (tree levels S) n line next (enumerate_from a ss))
  single_row levels t n line next a [] l = λ j k x y q e f g w. absurd cc
  single_row levels t n line next a (d ∷ ds) l =
      let one = slot_tree levels n line next a d.child in
      let rest = child_trees (tree levels S) n line (next + length one) (enumerate_from (a + 1) ds) in
      single_append (λ q. ((q.0 ≡ n) × (q.1 ≡ a)) ⊎ ((next ≤ q.0) × (q.0 < next + length one))) (λ q. ((q.0 ≡ n) × (a + 1 ≤ q.1)) ⊎ (next + length one ≤ q.0)) one rest
      (λ q h k. apart n next a (length one) q l h k)
      (one_children (λ q. ((q.0 ≡ n) × (q.1 ≡ a)) ⊎ ((next ≤ q.0) × (q.0 < next + length one))) levels (tree_children _ levels) n line next a d.child (inl (refl, refl)) (λ m s u v. inr (u, v)))
      (row_children (λ q. ((q.0 ≡ n) × (a + 1 ≤ q.1)) ⊎ (next + length one ≤ q.0)) levels (tree_children _ levels) n line (next + length one) (a + 1) ds (λ b u. inl (refl, u)) (λ m s u v. inr u))
      (single_slot levels t n line next a d.child l)
      (single_row levels t n line (next + length one) (a + 1) ds (omega (arith, l)))
    where
      apart : (n next a m : ℕ) (q : ℕ × ℕ) → n < next → ((q.0 ≡ n) × (q.1 ≡ a)) ⊎ ((next ≤ q.0) × (q.0 < next + m)) → ((q.0 ≡ n) × (a + 1 ≤ q.1)) ⊎ (next + m ≤ q.0) → ⊥
      apart n next a m q l (inl h) (inl k) = let x = h.1 in let y = k.1 in absurd (omega (arith, x, y))
      apart n next a m q l (inl h) (inr k) = let x = h.0 in absurd (omega (arith, x, k, l))
      apart n next a m q l (inr h) (inl k) = let x = h.0 in let y = k.0 in absurd (omega (arith, x, y, l))
      apart n next a m q l (inr h) (inr k) = let x = h.1 in absurd (omega (arith, x, k))

  single_alone : (i : Instance) → AreSingle (i ∷ [])
  single_alone i zero zero x y q e f g w = refl
  single_alone i zero (suc k) x y q e f g w = absurd cc
  single_alone i (suc j) k x y q e f g w = absurd cc

  pub single_tree : (levels : ℕ) → TreesAreSingle levels
  single_tree zero n i h = single_alone i
  single_tree (suc levels) n i h =
      single_append (λ q. q.0 < n) (λ q. n ≤ q.0) (i ∷ []) (child_trees (tree levels S) n i.ancestry (suc n) (enumerate_from 0 (kind_of S i.kind).slots)) (λ q u v. absurd (omega (arith, u, v))) (h, tt)
      (row_children (λ q. n ≤ q.0) levels (tree_children _ levels) n i.ancestry (suc n) 0 (kind_of S i.kind).slots (λ b u. omega arith) (λ m s u v. omega (arith, u)))
      (single_alone i) (single_row levels (single_tree levels) n i.ancestry (suc n) 0 (kind_of S i.kind).slots (omega arith))

  -- ---- who is found in a slot

  pub none_later : (p s n : ℕ) (is : List Instance) → ((k : ℕ) (y : Instance) → slice_get is k ≡ Some y → first y.ancestry ≡ Some (p, s) → ⊥) → child_among S p s n is ≡ None
  unfolding child_among
  none_later p s n [] h = refl
  none_later p s n (i ∷ is) h =
      ap (λ o. either o (if is_child S p s i then Some n else None)) (none_later p s (suc n) is (λ k y e f. h (suc k) y e f))
      ∙ ap (λ b. if b then Some n else None) (not_child (first i.ancestry) refl)
    where
      by_test : (q : ℕ × ℕ) (a b : Bool) → first i.ancestry ≡ Some q → (q.0 == p) ≡ a → (q.1 == s) ≡ b → (a && b) ≡ false
      by_test q true true e f g = absurd (h 0 i refl (e ∙ ap Some (let x : q.0 ≡ p = eqb-true q.0 p f in let y : q.1 ≡ s = eqb-true q.1 s g in let z : (q.0, q.1) ≡ (p, s) = cc in z)))
      by_test q true false e f g = refl
      by_test q false b e f g = refl

      not_child : (o : Option (ℕ × ℕ)) → first i.ancestry ≡ o → option_map_or (λ q. q.0 == p && q.1 == s) (first i.ancestry) false ≡ false
      not_child None e = ap (λ o. option_map_or (λ q. q.0 == p && q.1 == s) o false) e
      not_child (Some q) e = ap (λ o. option_map_or (λ q. q.0 == p && q.1 == s) o false) e ∙ sym (same q) ∙ by_test q (q.0 == p) (q.1 == s) e refl refl
        where
          same : (q : ℕ × ℕ) → (q.0 == p && q.1 == s) ≡ (q.0 == p && q.1 == s)
          same q = refl

  found_there : (p s n : ℕ) (is : List Instance) (j : ℕ) (x : Instance) → slice_get is j ≡ Some x → first x.ancestry ≡ Some (p, s) → ((k : ℕ) (y : Instance) → j < k → slice_get is k ≡ Some y → first y.ancestry ≡ Some (p, s) → ⊥) → child_among S p s n is ≡ Some (n + j)
  unfolding child_among
  found_there p s n [] j x e f h = absurd cc
  found_there p s n (i ∷ is) zero x e f h =
      ap (λ o. either o (if is_child S p s i then Some n else None)) (none_later p s (suc n) is (λ k y g w. h (suc k) y (omega arith) g w))
      ∙ ap (λ o. if option_map_or (λ q. q.0 == p && q.1 == s) o false then Some n else None) (ap (λ z. first z.ancestry) (Some-injective e) ∙ f)
      ∙ ap (λ b. if b then Some n else None) (both_of (p == p) (s == s) (eq-eqb p p refl) (eq-eqb s s refl))
      ∙ ap Some (let z : n ≡ n + 0 = omega arith in z)
  found_there p s n (i ∷ is) (suc j) x e f h =
      ap (λ o. either o (if is_child S p s i then Some n else None)) (found_there p s (suc n) is j x e f (λ k y l g w. h (suc k) y (omega (arith, l)) g w))
      ∙ ap Some (let z : suc n + j ≡ n + suc j = omega arith in z)

  in_tree : (levels n : ℕ) (i : Instance) (p s j : ℕ) (x : Instance) → ((q : ℕ × ℕ) → first i.ancestry ≡ Some q → q.0 < n) → slice_get (tree levels S n i) j ≡ Some x → first x.ancestry ≡ Some (p, s) → child_among S p s n (tree levels S n i) ≡ Some (n + j)
  in_tree levels n i p s j x h e f =
      found_there p s n (tree levels S n i) j x e f (λ k y l g w. let z = single_tree levels n i h j k x y (p, s) e g f w in absurd (omega (arith, z, l)))

  -- ---- after each effect

  SlotsAre : List Act → Type 0
  SlotsAre done = (q p s : ℕ) (rest : List (ℕ × ℕ)) → alive S done q ≡ true → ancestry_of S (born S done) q ≡ (p, s) ∷ rest → occupant S done p s ≡ Some q

  pub by_living_of : (done : List Act) → AreOrderly S done → AreByLiving S done
  by_living_of [] h = tt
  by_living_of (a ∷ done) h = (by_living_of done h.0, h.1)

  first_of_line : (is : List Instance) (q : ℕ) (x : Instance) (p s : ℕ) (rest : List (ℕ × ℕ)) → slice_get is q ≡ Some x → ancestry_of S is q ≡ (p, s) ∷ rest → first x.ancestry ≡ Some (p, s)
  first_of_line is q x p s rest e f = ap first (sym (lined S is q x e) ∙ f)

  at_opening : SlotsAre []
  unfolding SlotsAre occupant born root_tree
  at_opening q p s rest h f =
      let g = got_at (born S []) q (alive_born S [] q h) in
      in_tree depth_limit 0 (record { kind = S.root.kind; birth = Args S.root.args; ancestry = [] }) p s q g.0 (λ r z. absurd cc) g.1 (first_of_line (born S []) q g.0 p s rest g.1 f)
      ∙ ap Some (let z : 0 + q ≡ q = omega arith in z)

  after_create : (done : List Act) (b : ℕ) (item : Item) (slot kind : ℕ) (birth : Birth) → AreByLiving S done → alive S done b ≡ true → occupant S done b slot ≡ None → SlotsAre done → SlotsAre (record { by = b; item = item; effect = effect.Create slot kind birth } ∷ done)
  unfolding SlotsAre occupant created born
  after_create done b item slot kind birth by lb empty h q p s rest k f = at (nat_lt q (length (born S done))) refl
    where
      not_here : (x y : Bool) → (b == p) ≡ x → (slot == s) ≡ y → occupant S done p s ≡ Some q → (x && y) ≡ false
      not_here true true u v w = absurd (let z : None ≡ Some q = sym empty ∙ ap (λ c. occupant S done c slot) (eqb-true b p u) ∙ ap (occupant S done p) (eqb-true slot s v) ∙ w in cc)
      not_here true false u v w = refl
      not_here false y u v w = refl

      at : (t : Bool) → nat_lt q (length (born S done)) ≡ t → either (child_among S p s (length (born S done)) (created S (born S done) b slot kind birth)) (occupant S done p s) ≡ Some q
      at true e =
          let n = length (born S done) in
          let l = ltb-true q n e in
          let f' = sym (same_line S done (record { by = b; item = item; effect = effect.Create slot kind birth }) q l) ∙ f in
          let old = h q p s rest (sym (old_alive S done b item slot kind birth q l) ∙ k) f' in
          let below : p < q = ancestor_born S done q (p, s) (by_born S done by) (subst (IsIn (p, s)) (sym f') here) in
          ap (λ o. either o (occupant S done p s))
          (outside_tree S p s depth_limit n (record { kind = kind; birth = birth; ancestry = (b, slot) ∷ ancestry_of S (born S done) b }) (omega (arith, below, l))
          ∙ ap (λ t. if t then Some n else None) (not_here (b == p) (slot == s) refl refl old))
          ∙ old
      at false e =
          let n = length (born S done) in
          let news = created S (born S done) b slot kind birth in
          let l = ltb-false q n e in
          let g = got_at (born S done ++ news) q (alive_born S (record { by = b; item = item; effect = effect.Create slot kind birth } ∷ done) q k) in
          let same : q ≡ n + (q - n) = omega (arith, l) in
          let got : slice_get news (q - n) ≡ Some g.0 = sym (get_right (born S done) news (q - n)) ∙ ap (slice_get (born S done ++ news)) (sym same) ∙ g.1 in
          let lb' = alive_born S done b lb in
          ap (λ o. either o (occupant S done p s))
          (in_tree depth_limit n (record { kind = kind; birth = birth; ancestry = (b, slot) ∷ ancestry_of S (born S done) b }) p s (q - n) g.0 (λ r z. let w : b ≡ r.0 = ap (λ y. y.0) (Some-injective z) in omega (arith, w, lb')) got (first_of_line (born S done ++ news) q g.0 p s rest g.1 f)
          ∙ ap Some (sym same))

  after_destroy : (done : List Act) (b : ℕ) (item : Item) (t : ℕ) → SlotsAre done → SlotsAre (record { by = b; item = item; effect = effect.Destroy t } ∷ done)
  unfolding SlotsAre occupant alive born
  after_destroy done b item t h q p s rest k f =
      let a = both _ _ k in
      let off = any_none (λ r. b == r.0 && t == r.1) (p, s) (ancestry_of S (born S done) q) (not_true _ a.1) (subst (IsIn (p, s)) (sym f) here) in
      ap (λ x. if x then None else occupant S done p s) off ∙ h q p s rest a.0 f

  after_effect : (done : List Act) (b : ℕ) (item : Item) (e : Effect) → AreByLiving S done → alive S done b ≡ true → FindsEmpty S done b e → SlotsAre done → SlotsAre (record { by = b; item = item; effect = e } ∷ done)
  unfolding SlotsAre occupant alive born
  after_effect done b item (effect.Create slot kind birth) by lb empty h = after_create done b item slot kind birth by lb empty h
  after_effect done b item (effect.Destroy t) by lb empty h = after_destroy done b item t h
  after_effect done b item (effect.Trigger x e) by lb empty h = h
  after_effect done b item (effect.Answer e) by lb empty h = h
  after_effect done b item (effect.Start s) by lb empty h = h
  after_effect done b item (effect.Stop s) by lb empty h = h
  after_effect done b item (effect.Dump s) by lb empty h = h
  after_effect done b item (effect.Hold k) by lb empty h = h
  after_effect done b item (effect.Resume k) by lb empty h = h
  after_effect done b item (effect.Unplug k f) by lb empty h = h
  after_effect done b item (effect.Plug k f x) by lb empty h = h
  after_effect done b item effect.Escalate by lb empty h = h

  slots_are : (done : List Act) → AreOrderly S done → SlotsAre done
  slots_are [] h = at_opening
  slots_are (a ∷ done) h = after_effect done a.by a.item a.effect (by_living_of done h.0) h.1 h.2 (slots_are done h.0)

  pub slot_holds : (done : List Act) (q p s : ℕ) (rest : List (ℕ × ℕ)) → AreOrderly S done → alive S done q ≡ true → ancestry_of S (born S done) q ≡ (p, s) ∷ rest → occupant S done p s ≡ Some q
  unfolding SlotsAre
  slot_holds done q p s rest h k f = slots_are done h q p s rest k f

  -- ---- records

  finds_empty : (done : List Act) (c K : ℕ) (item : Item) (e : Effect) → IsMet S done c K item e → FindsEmpty S done c e
  finds_empty done c K item (effect.Create slot k birth) m = m.empty
  finds_empty done c K item (effect.Trigger p e) m = tt
  finds_empty done c K item (effect.Answer e) m = tt
  finds_empty done c K item (effect.Start s) m = tt
  finds_empty done c K item (effect.Stop s) m = tt
  finds_empty done c K item (effect.Destroy s) m = tt
  finds_empty done c K item (effect.Dump s) m = tt
  finds_empty done c K item (effect.Hold k) m = tt
  finds_empty done c K item (effect.Resume k) m = tt
  finds_empty done c K item (effect.Unplug k f) m = tt
  finds_empty done c K item (effect.Plug k f p) m = tt
  finds_empty done c K item effect.Escalate m = tt

  pub orderly_by : (done : List Act) (c K : ℕ) (item : Item) (es : List Effect) → AreOrderly S done → StaysAlive S done c item es → AreMet S done c K item es → AreOrderly S (acts_for c (Some item) es ++ done)
  orderly_by done c K item [] h a m = h
  orderly_by done c K item (e ∷ es) h a m =
      subst (AreOrderly S) (sym (one_first c item done e es)) (orderly_by (record { by = c; item = item; effect = e } ∷ done) c K item es (h, a.0, finds_empty done c K item e m.0) a.1 m.1)

  orderly_at : (Z : Plan) → IsDeclared S → (P : History) (w c took : ℕ) (body : Body) (es : List Effect) (to : Option ℕ) (places : List ℕ) → IsLegal S Z (Did w c took (outcome.Done body es) to places ∷ P) → AreOrderly S (acts P) → (o : Option Item) → item_at P took ≡ o
      → AreOrderly S (acts_for c o es ++ acts P)
  orderly_at Z D P w c took body es to places l h None e = h
  orderly_at Z D P w c took body es to places l h (Some item) e = orderly_by (acts P) c body.kind item es h (handler_lives S Z P w c took body es to places item l) (effects_met S Z D P w c took body es to places item l e)

  pub orderly : (Z : Plan) → IsDeclared S → (P : History) → IsLegal S Z P → AreOrderly S (acts P)
  unfolding IsLegal acts acts_of
  orderly Z D [] l = tt
  orderly Z D (Took w c item ∷ P) l = orderly Z D P l.0
  orderly Z D (Moved w t rs ∷ P) l = orderly Z D P l.0
  orderly Z D (Did w c took outcome.Void to places ∷ P) l = orderly Z D P l.0
  orderly Z D (Did w c took (outcome.Fault n) to places ∷ P) l = orderly Z D P l.0
  orderly Z D (Did w c took (outcome.Done body es) to places ∷ P) l = orderly_at Z D P w c took body es to places l (orderly Z D P l.0) (item_at P took) refl
