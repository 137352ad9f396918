-- The ancestry of an instance is its parent with the slot there, and then the parent's ancestry.
use Rattle.std.proofs.Common.{◌≡◌, ℕ, zero, suc, ◌+◌, ◌-◌, ◌<◌, ◌≤◌, Bool, true, false, refl, sym, ap, ◌∙◌, subst, List, [], ◌∷◌, ◌++◌, length, Option, Some, None, ◌⊎◌, inl, inr, arith}
use Rattle.std.specs.Prelude.{slice_get, nat_lt}
use Rattle.std.specs.List.{enumerate_from}
use Rattle.std.specs.Option.{option_map_or}
use Rattle.std.proofs.lemmas.Bool.{ltb-true, ltb-false}
use Rattle.std.proofs.lemmas.Option.{slice_get_within}
use Rattle.kom_base.specs.Lists.{first}
use Rattle.kom_lang.specs.Declarations.{Declarations, kind_of}
use Rattle.kom_lang.specs.declared.kind.Child.{Child}
use Rattle.kom_lang.specs.declared.kind.SlotDecl.{SlotDecl}
use Rattle.kom_lang.specs.declared.body.Birth.TheVariants.{Args}
use Rattle.kom_lang.specs.declared.body.Effect.{Effect}
use Rattle.kom_lang.specs.declared.body.Effect.TheVariants as effect
use Rattle.kom_record.specs.Entries.{Act}
use Rattle.kom_record.specs.Instances.{Instance, depth_limit, tree, child_tree, child_trees, root_tree, born, born_after, created, ancestry_of}
use Rattle.kom_laws.proofs.Members.{IsIn, here, there, Some-injective}
use Rattle.kom_laws.proofs.ListFacts.{get_left, get_right, in_cons}
use Rattle.kom_laws.proofs.InstanceLaws.{ActsByBorn, ancestor_born}

module _ (S : Declarations) where
  -- the instance j of these, of which the first has the number n, is under `base`, or under an earlier one of them
  abbrev pub HasParent : ℕ → List Instance → List (ℕ × ℕ) → ℕ → Instance → Type 0
  HasParent n is base j x = (x.ancestry ≡ base) ⊎ ((m : ℕ) × (y : Instance) × (s : ℕ) × (m < j) × (slice_get is m ≡ Some y) × (x.ancestry ≡ (n + m, s) ∷ y.ancestry))

  abbrev pub HaveParents : ℕ → Type 0
  HaveParents levels = (n : ℕ) (i : Instance) (j : ℕ) (x : Instance) → slice_get (tree levels S n i) j ≡ Some x → HasParent n (tree levels S n i) i.ancestry j x

  -- in a row of trees: directly under their parent, or under an earlier one of the row
  abbrev pub InRow : ℕ → List (ℕ × ℕ) → ℕ → List Instance → ℕ → Instance → Type 0
  InRow n line next is j x = ((a : ℕ) × (x.ancestry ≡ (n, a) ∷ line)) ⊎ ((m : ℕ) × (y : Instance) × (s : ℕ) × (m < j) × (slice_get is m ≡ Some y) × (x.ancestry ≡ (next + m, s) ∷ y.ancestry))

  one_slot : (levels : ℕ) → HaveParents levels → (n : ℕ) (line : List (ℕ × ℕ)) (next a : ℕ) (o : Option Child) (j : ℕ) (x : Instance)
      → slice_get (option_map_or (λ child. tree levels S next (record { kind = child.kind; birth = Args child.args; ancestry = (n, a) ∷ line })) o []) j ≡ Some x
      → InRow n line next (option_map_or (λ child. tree levels S next (record { kind = child.kind; birth = Args child.args; ancestry = (n, a) ∷ line })) o []) j x
  one_slot levels h n line next a None j x e = absurd cc
  one_slot levels h n line next a (Some child) j x e = elim (h next (record { kind = child.kind; birth = Args child.args; ancestry = (n, a) ∷ line }) j x e) [
    | inl p ↦ inl (a, p)
    | inr p ↦ inr p
  ]

  front_row : (n : ℕ) (line : List (ℕ × ℕ)) (next : ℕ) (xs ys : List Instance) (j : ℕ) (x : Instance) → InRow n line next xs j x → InRow n line next (xs ++ ys) j x
  front_row n line next xs ys j x (inl p) = inl p
  front_row n line next xs ys j x (inr p) = inr (p.0, p.1, p.2, p.3, get_left xs ys p.0 (slice_get_within xs p.0 p.1 p.4) ∙ p.4, p.5)

  back_row : (n : ℕ) (line : List (ℕ × ℕ)) (next : ℕ) (xs ys : List Instance) (j : ℕ) (x : Instance) → InRow n line (next + length xs) ys j x → InRow n line next (xs ++ ys) (length xs + j) x
  back_row n line next xs ys j x (inl p) = inl p
  back_row n line next xs ys j x (inr p) =
      inr (length xs + p.0, p.1, p.2, omega (arith, p.3), get_right xs ys p.0 ∙ p.4, p.5 ∙ ap (λ k. (k, p.2) ∷ p.1.ancestry) (let f : (next + length xs) + p.0 ≡ next + (length xs + p.0) = omega arith in f))

  pub row_parents : (levels : ℕ) → HaveParents levels → (n : ℕ) (line : List (ℕ × ℕ)) (next : ℕ) (ss : List (ℕ × SlotDecl)) (j : ℕ) (x : Instance)
      → slice_get (child_trees (tree levels S) n line next ss) j ≡ Some x → InRow n line next (child_trees (tree levels S) n line next ss) j x
  row_parents levels h n line next [] j x e = absurd cc
  row_parents levels h n line next (s ∷ ss) j x e =
      at (λ k g. row_parents levels h n line (next + length (child_tree (tree levels S) n line next s)) ss k x g) (nat_lt j (length (child_tree (tree levels S) n line next s))) refl
    where
      at : ((k : ℕ) → slice_get (child_trees (tree levels S) n line (next + length (child_tree (tree levels S) n line next s)) ss) k ≡ Some x
          → InRow n line (next + length (child_tree (tree levels S) n line next s)) (child_trees (tree levels S) n line (next + length (child_tree (tree levels S) n line next s)) ss) k x)
          → (b : Bool) → nat_lt j (length (child_tree (tree levels S) n line next s)) ≡ b
          → InRow n line next (child_tree (tree levels S) n line next s ++ child_trees (tree levels S) n line (next + length (child_tree (tree levels S) n line next s)) ss) j x
      at rest true q =
          let one = child_tree (tree levels S) n line next s in
          let more = child_trees (tree levels S) n line (next + length one) ss in
          front_row n line next one more j x (one_slot levels h n line next s.0 s.1.child j x (sym (get_left one more j (ltb-true j (length one) q)) ∙ e))
      at rest false q =
          let one = child_tree (tree levels S) n line next s in
          let more = child_trees (tree levels S) n line (next + length one) ss in
          let ge = ltb-false j (length one) q in
          let same : j ≡ length one + (j - length one) = omega (arith, ge) in
          subst (λ k. InRow n line next (one ++ more) k x) (sym same)
          (back_row n line next one more (j - length one) x (rest (j - length one) (sym (get_right one more (j - length one)) ∙ ap (slice_get (one ++ more)) (sym same) ∙ e)))

  pub tree_parents : (levels : ℕ) → HaveParents levels
  tree_parents zero n i zero x e = inl (ap (λ z. z.ancestry) (sym (Some-injective e)))
  tree_parents zero n i (suc j) x e = absurd cc
  tree_parents (suc levels) n i zero x e = inl (ap (λ z. z.ancestry) (sym (Some-injective e)))
  tree_parents (suc levels) n i (suc j) x e =
      elim (row_parents levels (tree_parents levels) n i.ancestry (suc n) (enumerate_from 0 (kind_of S i.kind).slots) j x e) [
        | inl p ↦ inr (0, i, p.0, omega arith, refl, p.1 ∙ ap (λ k. (k, p.0) ∷ i.ancestry) (let f : n ≡ n + 0 = omega arith in f))
        | inr p ↦ inr (suc p.0, p.1, p.2, omega (arith, p.3), p.4, p.5 ∙ ap (λ k. (k, p.2) ∷ p.1.ancestry) (let f : suc n + p.0 ≡ n + suc p.0 = omega arith in f))
      ]

  -- whoever is an ancestor of one of a tree is one of the tree, or stands in the line of its first instance
  pub tree_line : (levels n : ℕ) (i : Instance) (fuel j : ℕ) (x : Instance) (q : ℕ × ℕ) → j < fuel → slice_get (tree levels S n i) j ≡ Some x → IsIn q x.ancestry → (n ≤ q.0) ⊎ IsIn q i.ancestry
  tree_line levels n i zero j x q l e m = absurd (omega (arith, l))
  tree_line levels n i (suc fuel) j x q l e m = elim (tree_parents levels n i j x e) [
    | inl p ↦ inr (subst (IsIn q) p m)
    | inr p ↦ elim (in_cons q (n + p.0, p.2) p.1.ancestry (subst (IsIn q) p.5 m)) [
      | inl s ↦ inl (let f : q.0 ≡ n + p.0 = ap (λ z. z.0) s in omega (arith, f))
      | inr k ↦ tree_line levels n i fuel p.0 p.1 q (let a = p.3 in omega (arith, a, l)) p.4 k
    ]
  ]

  -- ---- all that were born

  -- the ancestry of each is that of its parent under the parent, or empty
  abbrev pub IsLine : List Instance → Instance → Type 0
  IsLine is x = (x.ancestry ≡ []) ⊎ ((p : ℕ) × (s : ℕ) × (x.ancestry ≡ (p, s) ∷ ancestry_of S is p))

  abbrev pub AreLines : List Instance → Type 0
  AreLines is = (c : ℕ) (x : Instance) → slice_get is c ≡ Some x → IsLine is x

  pub lined : (is : List Instance) (p : ℕ) (y : Instance) → slice_get is p ≡ Some y → ancestry_of S is p ≡ y.ancestry
  unfolding ancestry_of
  lined is p y e = ap (λ o. option_map_or (λ i. i.ancestry) o []) e

  -- an ancestry is not empty only where the instance is there
  old_line : (old news : List Instance) (x : Instance) → ((p s : ℕ) → x.ancestry ≡ (p, s) ∷ ancestry_of S old p → p < length old) → IsLine old x → IsLine (old ++ news) x
  unfolding ancestry_of
  old_line old news x h (inl e) = inl e
  old_line old news x h (inr e) = inr (e.0, e.1, e.2 ∙ ap (λ o. (e.0, e.1) ∷ option_map_or (λ i. i.ancestry) o []) (sym (get_left old news e.0 (h e.0 e.1 e.2))))

  from_tree : (old news : List Instance) (base : List (ℕ × ℕ)) (j : ℕ) (x : Instance) → (x.ancestry ≡ base → IsLine (old ++ news) x) → HasParent (length old) news base j x → IsLine (old ++ news) x
  from_tree old news base j x h (inl e) = h e
  from_tree old news base j x h (inr p) =
      inr (length old + p.0, p.2, p.5 ∙ ap (λ l. (length old + p.0, p.2) ∷ l) (sym (lined (old ++ news) (length old + p.0) p.1 (get_right old news p.0 ∙ p.4))))

  -- a line leads to a lesser number
  line_below : (done : List Act) → ActsByBorn S done → (c : ℕ) (x : Instance) → slice_get (born S done) c ≡ Some x → (p s : ℕ) (rest : List (ℕ × ℕ)) → x.ancestry ≡ (p, s) ∷ rest → p < c
  line_below done by c x e p s rest f = ancestor_born S done c (p, s) by (subst (IsIn (p, s)) (sym (lined (born S done) c x e ∙ f)) here)

  by_case : (done : List Act) (a : Act) (e : Effect) → ActsByBorn S done → a.by < length (born S done) → AreLines (born S done) → AreLines (born_after S a e (born S done))
  unfolding created
  by_case done a (effect.Create slot kind birth) by lt h c x g = at (nat_lt c (length (born S done))) refl
    where
      at : (b : Bool) → nat_lt c (length (born S done)) ≡ b → IsLine (born S done ++ created S (born S done) a.by slot kind birth) x
      at true q =
          let l = ltb-true c (length (born S done)) q in
          let old = sym (get_left (born S done) (created S (born S done) a.by slot kind birth) c l) ∙ g in
          old_line (born S done) (created S (born S done) a.by slot kind birth) x (λ p s f. let k = line_below done by c x old p s (ancestry_of S (born S done) p) f in omega (arith, k, l)) (h c x old)
      at false q =
          let n = length (born S done) in
          let news = created S (born S done) a.by slot kind birth in
          let ge = ltb-false c n q in
          let same : c ≡ n + (c - n) = omega (arith, ge) in
          let got : slice_get news (c - n) ≡ Some x = sym (get_right (born S done) news (c - n)) ∙ ap (slice_get (born S done ++ news)) (sym same) ∙ g in
          from_tree (born S done) news ((a.by, slot) ∷ ancestry_of S (born S done) a.by) (c - n) x
          (λ f. old_line (born S done) news x (λ p s k. let y : (a.by, slot) ≡ (p, s) = Some-injective (sym (ap first f) ∙ ap first k) in let z : a.by ≡ p = ap (λ w. w.0) y in omega (arith, z, lt)) (inr (a.by, slot, f)))
          (tree_parents depth_limit n (record { kind = kind; birth = birth; ancestry = (a.by, slot) ∷ ancestry_of S (born S done) a.by }) (c - n) x got)
  by_case done a (effect.Trigger p e) by lt h c x g = h c x g
  by_case done a (effect.Answer e) by lt h c x g = h c x g
  by_case done a (effect.Start s) by lt h c x g = h c x g
  by_case done a (effect.Stop s) by lt h c x g = h c x g
  by_case done a (effect.Destroy s) by lt h c x g = h c x g
  by_case done a (effect.Dump s) by lt h c x g = h c x g
  by_case done a (effect.Hold k) by lt h c x g = h c x g
  by_case done a (effect.Resume k) by lt h c x g = h c x g
  by_case done a (effect.Unplug k f) by lt h c x g = h c x g
  by_case done a (effect.Plug k f p) by lt h c x g = h c x g
  by_case done a effect.Escalate by lt h c x g = h c x g

  pub none_there : (is : List Instance) (p : ℕ) → slice_get is p ≡ None → ancestry_of S is p ≡ []
  unfolding ancestry_of
  none_there is p e = ap (λ o. option_map_or (λ i. i.ancestry) o []) e

  pub lines : (done : List Act) → ActsByBorn S done → AreLines (born S done)
  unfolding born root_tree
  lines [] by c x e = from_tree [] (root_tree S) [] c x (λ f. inl f) (tree_parents depth_limit 0 (record { kind = S.root.kind; birth = Args S.root.args; ancestry = [] }) c x e)
  lines (a ∷ done) by c x e = by_case done a a.effect by.0 by.1 (lines done by.0) c x e

  -- the ancestors of an ancestor are ancestors
  pub ancestors_of : (done : List Act) → ActsByBorn S done → (fuel c : ℕ) (q r : ℕ × ℕ) → c < fuel → IsIn q (ancestry_of S (born S done) c) → IsIn r (ancestry_of S (born S done) q.0) → IsIn r (ancestry_of S (born S done) c)
  ancestors_of done by zero c q r l m k = absurd (omega (arith, l))
  ancestors_of done by (suc fuel) c q r l m k = go (λ p a z. ancestors_of done by fuel p q r (omega (arith, a, l)) z k) (slice_get (born S done) c) refl
    where
      up : ((p : ℕ) → p < c → IsIn q (ancestry_of S (born S done) p) → IsIn r (ancestry_of S (born S done) p)) → (x : Instance) → slice_get (born S done) c ≡ Some x → IsLine (born S done) x → IsIn r (ancestry_of S (born S done) c)
      up deeper x e (inl f) = elim (subst (IsIn q) (lined (born S done) c x e ∙ f) m) [ ]
      up deeper x e (inr f) =
          let same = lined (born S done) c x e ∙ f.2 in
          subst (IsIn r) (sym same)
          (elim (in_cons q (f.0, f.1) (ancestry_of S (born S done) f.0) (subst (IsIn q) same m)) [
            | inl z ↦ there (subst (λ p. IsIn r (ancestry_of S (born S done) p)) (ap (λ y. y.0) z) k)
            | inr z ↦ there (deeper f.0 (line_below done by c x e f.0 f.1 (ancestry_of S (born S done) f.0) f.2) z)
          ])

      go : ((p : ℕ) → p < c → IsIn q (ancestry_of S (born S done) p) → IsIn r (ancestry_of S (born S done) p)) → (o : Option Instance) → slice_get (born S done) c ≡ o → IsIn r (ancestry_of S (born S done) c)
      go deeper None e = elim (subst (IsIn q) (none_there (born S done) c e) m) [ ]
      go deeper (Some x) e = up deeper x e (lines done by c x e)
