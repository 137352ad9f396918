-- A created tree fills the typed slots of its instances, and no slot of others but the one it is made in.
use Rattle.std.proofs.Common.{◌≡◌, ℕ, zero, suc, ◌+◌, ◌-◌, ◌<◌, ◌≤◌, Bool, true, false, if◌then◌else◌, ◌&&◌, ◌==◌, refl, sym, ap, ◌∙◌, subst, List, [], ◌∷◌, ◌++◌, length, Option, Some, None, ◌⊎◌, inl, inr, arith, eq-eqb}
use Rattle.std.specs.Prelude.{slice_get, slice_index_or, nat_lt, map}
use Rattle.std.specs.List.{enumerate_from, list_all}
use Rattle.std.specs.Option.{option_map, option_map_or, option_and_then}
use Rattle.std.proofs.lemmas.List.{length-append}
use Rattle.std.proofs.lemmas.Bool.{eqb-true, ltb-true, ltb-false, lt-ltb}
use Rattle.std.proofs.lemmas.Bool.Decides.{eqb_tells}
use Rattle.kom_base.specs.Lists.{either, first}
use Rattle.kom_lang.specs.Declarations.{Declarations, kind_of, height, height_of, child_height, greatest, no_kind}
use Rattle.kom_lang.specs.declared.kind.Kind.{Kind}
use Rattle.kom_lang.specs.declared.kind.Child.{Child}
use Rattle.kom_lang.specs.declared.kind.SlotDecl.{SlotDecl}
use Rattle.kom_lang.specs.declared.body.Birth.TheVariants.{Args}
use Rattle.kom_system.specs.WellFormed.{IsDeclared}
use Rattle.kom_record.specs.Instances.{Instance, tree, child_tree, child_trees, child_among, is_child}
use Rattle.kom_laws.proofs.Members.{Some-injective}
use Rattle.kom_laws.proofs.ListFacts.{get_left, get_right, got_at}

module _ (S : Declarations) where
  -- ---- parents

  -- whoever of these has a parent has one of these numbers
  abbrev pub ParentsAre : (ℕ → Type 0) → List Instance → Type 0
  ParentsAre Q [] = Unit {0}
  ParentsAre Q (i ∷ is) = ((q : ℕ × ℕ) → first i.ancestry ≡ Some q → Q q.0) × ParentsAre Q is

  parents_append : (Q : ℕ → Type 0) (xs ys : List Instance) → ParentsAre Q xs → ParentsAre Q ys → ParentsAre Q (xs ++ ys)
  parents_append Q [] ys h k = k
  parents_append Q (x ∷ xs) ys h k = (h.0, parents_append Q xs ys h.1 k)

  test_of : (p s : ℕ) (line : List (ℕ × ℕ)) → option_map_or (λ q. q.0 == p && q.1 == s) (first line) false ≡ true → (q : ℕ × ℕ) × (first line ≡ Some q) × (q.0 ≡ p) × (q.1 ≡ s)
  test_of p s [] e = absurd cc
  test_of p s (q ∷ line) e = go (q.0 == p) (q.1 == s) refl refl e
    where
      go : (a b : Bool) → (q.0 == p) ≡ a → (q.1 == s) ≡ b → (a && b) ≡ true → (r : ℕ × ℕ) × (Some q ≡ Some r) × (r.0 ≡ p) × (r.1 ≡ s)
      go true true f g h = (q, refl, eqb-true q.0 p f, eqb-true q.1 s g)
      go true false f g h = absurd cc
      go false b f g h = absurd cc

  no_child : (p s : ℕ) (i : Instance) → ((q : ℕ × ℕ) → first i.ancestry ≡ Some q → q.0 ≡ p → q.1 ≡ s → ⊥) → is_child S p s i ≡ false
  no_child p s i h = go (is_child S p s i) refl
    where
      go : (b : Bool) → is_child S p s i ≡ b → b ≡ false
      go true e = let r = test_of p s i.ancestry e in absurd (h r.0 r.1 r.2 r.3)
      go false e = refl

  -- nobody among these is a child of p
  pub none_among : (Q : ℕ → Type 0) (p s n : ℕ) (is : List Instance) → ParentsAre Q is → (Q p → ⊥) → child_among S p s n is ≡ None
  unfolding child_among
  none_among Q p s n [] h k = refl
  none_among Q p s n (i ∷ is) h k =
      ap (λ o. either o (if is_child S p s i then Some n else None)) (none_among Q p s (suc n) is h.1 k)
      ∙ ap (λ b. if b then Some n else None) (no_child p s i (λ q e a b. k (subst Q a (h.0 q e))))

  pub among_append : (p s n : ℕ) (xs ys : List Instance) → child_among S p s n (xs ++ ys) ≡ either (child_among S p s (n + length xs) ys) (child_among S p s n xs)
  unfolding child_among
  among_append p s n [] ys = ap (λ m. child_among S p s m ys) (let e : n ≡ n + 0 = omega arith in e) ∙ none_after (child_among S p s (n + 0) ys)
    where
      none_after : (o : Option ℕ) → o ≡ either o None
      none_after None = refl
      none_after (Some x) = refl
  among_append p s n (x ∷ xs) ys =
      ap (λ o. either o (if is_child S p s x then Some n else None)) (among_append p s (suc n) xs ys)
      ∙ both (child_among S p s (suc n + length xs) ys) (child_among S p s (suc n) xs) (if is_child S p s x then Some n else None)
      ∙ ap (λ m. either (child_among S p s m ys) (either (child_among S p s (suc n) xs) (if is_child S p s x then Some n else None))) (let e : suc n + length xs ≡ n + suc (length xs) = omega arith in e)
    where
      both : (a b c : Option ℕ) → either (either a b) c ≡ either a (either b c)
      both None b c = refl
      both (Some x) b c = refl

  abbrev Grows : (ℕ → Type 0) → (ℕ → Instance → List Instance) → Type 0
  Grows Q grow = (n : ℕ) (i : Instance) → ((q : ℕ × ℕ) → first i.ancestry ≡ Some q → Q q.0) → ((k : ℕ) → n ≤ k → k < n + length (grow n i) → Q k) → ParentsAre Q (grow n i)

  slot_parents : (Q : ℕ → Type 0) (grow : ℕ → Instance → List Instance) → Grows Q grow → (parent : ℕ) (line : List (ℕ × ℕ)) (next s : ℕ) (o : Option Child) → Q parent
      → ((k : ℕ) → next ≤ k → k < next + length (option_map_or (λ child. grow next (record { kind = child.kind; birth = Args child.args; ancestry = (parent, s) ∷ line })) o []) → Q k)
      → ParentsAre Q (option_map_or (λ child. grow next (record { kind = child.kind; birth = Args child.args; ancestry = (parent, s) ∷ line })) o [])
  slot_parents Q grow g parent line next s None h k = tt
  slot_parents Q grow g parent line next s (Some child) h k =
      g next (record { kind = child.kind; birth = Args child.args; ancestry = (parent, s) ∷ line }) (λ q e. subst Q (let f : parent ≡ q.0 = ap (λ z. z.0) (Some-injective e) in f) h) k

  row_parents : (Q : ℕ → Type 0) (grow : ℕ → Instance → List Instance) → Grows Q grow → (parent : ℕ) (line : List (ℕ × ℕ)) (next : ℕ) (ss : List (ℕ × SlotDecl)) → Q parent
      → ((k : ℕ) → next ≤ k → k < next + length (child_trees grow parent line next ss) → Q k) → ParentsAre Q (child_trees grow parent line next ss)
  row_parents Q grow g parent line next [] h k = tt
  row_parents Q grow g parent line next (s ∷ ss) h k =
      let one = child_tree grow parent line next s in
      let rest = child_trees grow parent line (next + length one) ss in
      parents_append Q one rest
      (slot_parents Q grow g parent line next s.0 s.1.child h (λ m a b. k m a (omega (arith, length-append one rest, b))))
      (row_parents Q grow g parent line (next + length one) ss h (λ m a b. k m (omega (arith, a)) (omega (arith, length-append one rest, b))))

  pub tree_parents : (Q : ℕ → Type 0) (levels : ℕ) → Grows Q (tree levels S)
  tree_parents Q zero n i h k = (h, tt)
  tree_parents Q (suc levels) n i h k =
      (h, row_parents Q (tree levels S) (tree_parents Q levels) n i.ancestry (suc n) (enumerate_from 0 (kind_of S i.kind).slots) (k n (omega arith) (omega arith)) (λ m a b. k m (omega (arith, a)) (omega (arith, b))))

  -- ---- a tree under a parent outside it

  from_row : (p levels n : ℕ) (line : List (ℕ × ℕ)) (next : ℕ) (ss : List (ℕ × SlotDecl)) → n ≤ next → ParentsAre (λ k. n ≤ k) (child_trees (tree levels S) n line next ss)
  from_row p levels n line next ss h = row_parents (λ k. n ≤ k) (tree levels S) (tree_parents (λ k. n ≤ k) levels) n line next ss (omega arith) (λ k a b. omega (arith, a, h))

  -- of those whose number is lesser, only the parent of a tree has a child in it: its first instance
  pub outside_tree : (p s levels n : ℕ) (i : Instance) → p < n → child_among S p s n (tree levels S n i) ≡ (if is_child S p s i then Some n else None)
  unfolding child_among
  outside_tree p s zero n i h = refl
  outside_tree p s (suc levels) n i h =
      ap (λ o. either o (if is_child S p s i then Some n else None))
      (none_among (λ k. n ≤ k) p s (suc n) (child_trees (tree levels S) n i.ancestry (suc n) (enumerate_from 0 (kind_of S i.kind).slots)) (from_row p levels n i.ancestry (suc n) (enumerate_from 0 (kind_of S i.kind).slots) (omega arith)) (λ k. absurd (omega (arith, k, h))))

  -- ---- the slots of the instances of a tree

  -- the type with which a slot is declared
  abbrev pub declared_child : Option SlotDecl → Option ℕ
  declared_child o = option_map (λ child. child.kind) (option_and_then (λ d. d.child) o)

  -- the slot s of c is empty among these instances, or has one of this type
  abbrev pub Holds : ℕ → List Instance → ℕ → ℕ → Option ℕ → Type 0
  Holds n is c s None = child_among S c s n is ≡ None
  Holds n is c s (Some k) = (m : ℕ) × (x : Instance) × (child_among S c s n is ≡ Some (n + m)) × (slice_get is m ≡ Some x) × (x.kind ≡ k)

  holds_front : (n : ℕ) (xs ys : List Instance) (c s : ℕ) (o : Option ℕ) → child_among S c s (n + length xs) ys ≡ None → Holds n xs c s o → Holds n (xs ++ ys) c s o
  holds_front n xs ys c s None e h = among_append c s n xs ys ∙ ap (λ z. either z (child_among S c s n xs)) e ∙ h
  holds_front n xs ys c s (Some k) e h =
      (h.0, h.1, among_append c s n xs ys ∙ ap (λ z. either z (child_among S c s n xs)) e ∙ h.2, get_left xs ys h.0 (within xs h.0 h.1 h.3) ∙ h.3, h.4)
    where
      within : (is : List Instance) (j : ℕ) (i : Instance) → slice_get is j ≡ Some i → j < length is
      within [] j i q = absurd cc
      within (z ∷ is) zero i q = omega arith
      within (z ∷ is) (suc j) i q = let r = within is j i q in omega (arith, r)

  holds_back : (n : ℕ) (xs ys : List Instance) (c s : ℕ) (o : Option ℕ) → child_among S c s n xs ≡ None → Holds (n + length xs) ys c s o → Holds n (xs ++ ys) c s o
  holds_back n xs ys c s None e h = among_append c s n xs ys ∙ ap (λ z. either z (child_among S c s n xs)) h ∙ e
  holds_back n xs ys c s (Some k) e h =
      (length xs + h.0, h.1, among_append c s n xs ys ∙ ap (λ z. either z (child_among S c s n xs)) h.2 ∙ ap Some (let f : (n + length xs) + h.0 ≡ n + (length xs + h.0) = omega arith in f), get_right xs ys h.0 ∙ h.3, h.4)

  holds_after : (n : ℕ) (i : Instance) (is : List Instance) (c s : ℕ) (o : Option ℕ) → is_child S c s i ≡ false → Holds (suc n) is c s o → Holds n (i ∷ is) c s o
  unfolding child_among
  holds_after n i is c s None e h = ap (λ z. either z (if is_child S c s i then Some n else None)) h ∙ ap (λ b. if b then Some n else None) e
  holds_after n i is c s (Some k) e h =
      (suc h.0, h.1, ap (λ z. either z (if is_child S c s i then Some n else None)) h.2 ∙ ap Some (let f : suc n + h.0 ≡ n + suc h.0 = omega arith in f), h.3, h.4)

  same_number : (n : ℕ) → (n == n) ≡ true
  same_number n = eq-eqb n n refl

  other_number : (a t : ℕ) → (a ≡ t → ⊥) → (a == t) ≡ false
  other_number a t h = elim (eqb_tells a t) [ inl e ↦ absurd (h e.1) | inr e ↦ e.0 ]

  abbrev in_slot : ℕ → List (ℕ × ℕ) → ℕ → Child → Instance
  in_slot n line a child = record { kind = child.kind; birth = Args child.args; ancestry = (n, a) ∷ line }

  abbrev slot_tree : ℕ → ℕ → List (ℕ × ℕ) → ℕ → ℕ → Option Child → List Instance
  slot_tree levels n line next a o = option_map_or (λ child. tree levels S next (in_slot n line a child)) o []

  in_slot_tree : (levels n : ℕ) (line : List (ℕ × ℕ)) (next a t : ℕ) (o : Option Child) (b : Bool) → n < next → (a == t) ≡ b → child_among S n t next (slot_tree levels n line next a o) ≡ option_map_or (λ child. if b then Some next else None) o None
  unfolding child_among
  in_slot_tree levels n line next a t None b h e = refl
  in_slot_tree levels n line next a t (Some child) b h e =
      outside_tree n t levels next (in_slot n line a child) h
      ∙ ap (λ c. if c && a == t then Some next else None) (same_number n)
      ∙ ap (λ c. if c then Some next else None) e

  none_of : (o : Option Child) → ◌≡◌ {A = Option ℕ} (option_map_or (λ child. if false then Some 0 else None) o None) None
  none_of None = refl
  none_of (Some x) = refl

  -- a row of slots that begins later has nobody in the slot
  row_before : (levels n : ℕ) (line : List (ℕ × ℕ)) (next : ℕ) (ss : List SlotDecl) (a t : ℕ) → n < next → t < a → child_among S n t next (child_trees (tree levels S) n line next (enumerate_from a ss)) ≡ None
  unfolding child_among
  row_before levels n line next [] a t h k = refl
  row_before levels n line next (d ∷ ds) a t h k =
      let one = slot_tree levels n line next a d.child in
      among_append n t next one (child_trees (tree levels S) n line (next + length one) (enumerate_from (a + 1) ds))
      ∙ ap (λ o. either o (child_among S n t next one)) (row_before levels n line (next + length one) ds (a + 1) t (omega (arith, h)) (omega (arith, k)))
      ∙ in_slot_tree levels n line next a t d.child false h (other_number a t (λ e. absurd (omega (arith, e, k))))
      ∙ none_of d.child

  pub tree_head : (levels n : ℕ) (i : Instance) → slice_get (tree levels S n i) 0 ≡ Some i
  tree_head zero n i = refl
  tree_head (suc levels) n i = refl

  in_own_slot : (levels n : ℕ) (line : List (ℕ × ℕ)) (next a : ℕ) (o : Option Child) → n < next → Holds next (slot_tree levels n line next a o) n (a + 0) (option_map (λ child. child.kind) o)
  unfolding child_among
  in_own_slot levels n line next a None h = refl
  in_own_slot levels n line next a (Some child) h =
      (0, in_slot n line a child, in_slot_tree levels n line next a (a + 0) (Some child) true h (eq-eqb a (a + 0) (omega arith)) ∙ ap Some (let e : next ≡ next + 0 = omega arith in e), tree_head levels next (in_slot n line a child), refl)

  -- each slot of a row has the tree with which it is declared
  row_slots : (levels n : ℕ) (line : List (ℕ × ℕ)) (next : ℕ) (ss : List SlotDecl) (a s : ℕ) → n < next → Holds next (child_trees (tree levels S) n line next (enumerate_from a ss)) n (a + s) (declared_child (slice_get ss s))
  unfolding child_among
  row_slots levels n line next [] a s h = refl
  row_slots levels n line next (d ∷ ds) a zero h =
      let one = slot_tree levels n line next a d.child in
      holds_front next one (child_trees (tree levels S) n line (next + length one) (enumerate_from (a + 1) ds)) n (a + 0) (option_map (λ child. child.kind) d.child)
      (row_before levels n line (next + length one) ds (a + 1) (a + 0) (omega (arith, h)) (omega arith)) (in_own_slot levels n line next a d.child h)
  row_slots levels n line next (d ∷ ds) a (suc s) h =
      let one = slot_tree levels n line next a d.child in
      let rest = child_trees (tree levels S) n line (next + length one) (enumerate_from (a + 1) ds) in
      holds_back next one rest n (a + suc s) (declared_child (slice_get ds s))
      (in_slot_tree levels n line next a (a + suc s) d.child false h (other_number a (a + suc s) (λ e. absurd (omega (arith, e)))) ∙ none_of d.child)
      (subst (λ t. Holds (next + length one) rest n t (declared_child (slice_get ds s))) (let e : (a + 1) + s ≡ a + suc s = omega arith in e) (row_slots levels n line (next + length one) ds (a + 1) s (omega (arith, h))))

  -- ---- the instances below

  abbrev Fills : ℕ → Type 0
  Fills levels = (n : ℕ) (i : Instance) → ((q : ℕ × ℕ) → first i.ancestry ≡ Some q → q.0 < n) → height_of S i.kind ≤ levels
      → (j : ℕ) (x : Instance) (s : ℕ) → slice_get (tree levels S n i) j ≡ Some x → Holds n (tree levels S n i) (n + j) s (declared_child (slice_get (kind_of S x.kind).slots s))

  abbrev are_low : ℕ → List SlotDecl → Bool
  are_low h ss = list_all (λ s. option_map_or (λ child. nat_lt (height_of S child.kind) h) s.child true) ss

  and_first : (a b : Bool) → (a && b) ≡ true → a ≡ true
  and_first true b e = refl
  and_first false b e = absurd cc

  and_second : (a b : Bool) → (a && b) ≡ true → b ≡ true
  and_second true b e = e
  and_second false b e = absurd cc

  in_child : (levels : ℕ) → Fills levels → (n : ℕ) (line : List (ℕ × ℕ)) (next a : ℕ) (o : Option Child) (j : ℕ) (x : Instance) (s : ℕ) → n < next → option_map_or (λ child. nat_lt (height_of S child.kind) (suc levels)) o true ≡ true
      → slice_get (slot_tree levels n line next a o) j ≡ Some x → Holds next (slot_tree levels n line next a o) (next + j) s (declared_child (slice_get (kind_of S x.kind).slots s))
  in_child levels f n line next a None j x s h l e = absurd cc
  in_child levels f n line next a (Some child) j x s h l e =
      let low = ltb-true (height_of S child.kind) (suc levels) l in
      f next (in_slot n line a child) (λ q g. let p : n ≡ q.0 = ap (λ z. z.0) (Some-injective g) in omega (arith, p, h)) (omega (arith, low)) j x s e

  row_deep : (levels : ℕ) → Fills levels → (n : ℕ) (line : List (ℕ × ℕ)) (next : ℕ) (ss : List SlotDecl) (a j : ℕ) (x : Instance) (s : ℕ) → n < next → are_low (suc levels) ss ≡ true
      → slice_get (child_trees (tree levels S) n line next (enumerate_from a ss)) j ≡ Some x
      → Holds next (child_trees (tree levels S) n line next (enumerate_from a ss)) (next + j) s (declared_child (slice_get (kind_of S x.kind).slots s))
  row_deep levels f n line next [] a j x s h l e = absurd cc
  row_deep levels f n line next (d ∷ ds) a j x s h l e =
      at (λ k g. row_deep levels f n line (next + length (slot_tree levels n line next a d.child)) ds (a + 1) k x s (omega (arith, h)) (and_second _ _ l) g) (nat_lt j (length (slot_tree levels n line next a d.child))) refl
    where
      at : ((k : ℕ) → slice_get (child_trees (tree levels S) n line (next + length (slot_tree levels n line next a d.child)) (enumerate_from (a + 1) ds)) k ≡ Some x
          → Holds (next + length (slot_tree levels n line next a d.child)) (child_trees (tree levels S) n line (next + length (slot_tree levels n line next a d.child)) (enumerate_from (a + 1) ds)) ((next + length (slot_tree levels n line next a d.child)) + k) s (declared_child (slice_get (kind_of S x.kind).slots s)))
          → (b : Bool) → nat_lt j (length (slot_tree levels n line next a d.child)) ≡ b
          → Holds next (slot_tree levels n line next a d.child ++ child_trees (tree levels S) n line (next + length (slot_tree levels n line next a d.child)) (enumerate_from (a + 1) ds)) (next + j) s (declared_child (slice_get (kind_of S x.kind).slots s))
      at deeper true q =
          let one = slot_tree levels n line next a d.child in
          let rest = child_trees (tree levels S) n line (next + length one) (enumerate_from (a + 1) ds) in
          let want = declared_child (slice_get (kind_of S x.kind).slots s) in
          let lt = ltb-true j (length one) q in
          holds_front next one rest (next + j) s want
          (none_among (λ k. (k ≡ n) ⊎ (next + length one ≤ k)) (next + j) s (next + length one) rest
          (row_parents (λ k. (k ≡ n) ⊎ (next + length one ≤ k)) (tree levels S) (tree_parents (λ k. (k ≡ n) ⊎ (next + length one ≤ k)) levels) n line (next + length one) (enumerate_from (a + 1) ds) (inl refl) (λ k u v. inr u))
          (λ k. elim k [ inl u ↦ absurd (omega (arith, u, h)) | inr u ↦ absurd (omega (arith, u, lt)) ]))
          (in_child levels f n line next a d.child j x s h (and_first _ _ l) (sym (get_left one rest j lt) ∙ e))
      at deeper false q =
          let one = slot_tree levels n line next a d.child in
          let rest = child_trees (tree levels S) n line (next + length one) (enumerate_from (a + 1) ds) in
          let want = declared_child (slice_get (kind_of S x.kind).slots s) in
          let ge = ltb-false j (length one) q in
          let same : j ≡ length one + (j - length one) = omega (arith, ge) in
          let got : slice_get rest (j - length one) ≡ Some x = sym (get_right one rest (j - length one)) ∙ ap (slice_get (one ++ rest)) (sym same) ∙ e in
          holds_back next one rest (next + j) s want
          (none_among (λ k. k < next + length one) (next + j) s next one
          (slot_parents (λ k. k < next + length one) (tree levels S) (tree_parents (λ k. k < next + length one) levels) n line next a d.child (omega (arith, h)) (λ k u v. v))
          (λ k. absurd (omega (arith, k, ge))))
          (subst (λ t. Holds (next + length one) rest t s want) (let g : (next + length one) + (j - length one) ≡ next + j = omega (arith, same) in g)
          (deeper (j - length one) got))

  -- a type that is declared has at least one level, and one that is not has no slots
  beyond : (k : ℕ) → (k < length S.kinds) ⊎ (kind_of S k ≡ no_kind)
  beyond k = go S.kinds k
    where
      go : (ks : List Kind) (k : ℕ) → (k < length ks) ⊎ (slice_index_or ks k no_kind ≡ no_kind)
      go [] k = inr refl
      go (x ∷ xs) zero = inl (omega arith)
      go (x ∷ xs) (suc k) = elim (go xs k) [
        | inl a ↦ inl (omega (arith, a))
        | inr a ↦ inr a
      ]

  pub height_some : (k : ℕ) → k < length S.kinds → 1 ≤ height_of S k
  height_some k h = go S.kinds k h
    where
      go : (ks : List Kind) (k : ℕ) → k < length ks → 1 ≤ height (length ks) ks k
      go [] k h = absurd (omega (arith, h))
      go (x ∷ xs) k h =
          let g = got_at (x ∷ xs) k h in
          subst (λ o. 1 ≤ option_map_or (λ kind. 1 + greatest (map (child_height (height (length xs) (x ∷ xs))) kind.slots)) o 0) (sym g.1) (omega arith)

  low_slots : IsDeclared S → (k levels : ℕ) → height_of S k ≤ suc levels → are_low (suc levels) (kind_of S k).slots ≡ true
  low_slots D k levels h = elim (beyond k) [
    | inl a ↦ lower (kind_of S k).slots (D.kinds k a).tree.children
    | inr a ↦ ap (λ z. are_low (suc levels) z.slots) a
  ]
    where
      lower_at : (o : Option Child) → option_map_or (λ child. nat_lt (height_of S child.kind) (height_of S k)) o true ≡ true → option_map_or (λ child. nat_lt (height_of S child.kind) (suc levels)) o true ≡ true
      lower_at None e = refl
      lower_at (Some child) e = let l = ltb-true (height_of S child.kind) (height_of S k) e in lt-ltb (height_of S child.kind) (suc levels) (omega (arith, l, h))

      lower : (ss : List SlotDecl) → are_low (height_of S k) ss ≡ true → are_low (suc levels) ss ≡ true
      lower [] e = refl
      lower (s ∷ ss) e = subst (λ b. (b && are_low (suc levels) ss) ≡ true) (sym (lower_at s.child (and_first _ _ e))) (lower ss (and_second _ _ e))

  no_slots : (k s : ℕ) → height_of S k ≤ 0 → declared_child (slice_get (kind_of S k).slots s) ≡ None
  no_slots k s h = elim (beyond k) [
    | inl a ↦ let p = height_some k a in absurd (omega (arith, p, h))
    | inr a ↦ ap (λ z. declared_child (slice_get z.slots s)) a
  ]

  -- the first instance of a tree is in no slot of a later one
  first_outside : (n c s : ℕ) (i : Instance) → ((q : ℕ × ℕ) → first i.ancestry ≡ Some q → q.0 < n) → n ≤ c → is_child S c s i ≡ false
  first_outside n c s i h k = no_child c s i (λ q e a b. let l = h q e in absurd (omega (arith, l, a, k)))

  -- in a tree that is deep enough each instance has its typed slots filled
  pub fills : IsDeclared S → (levels : ℕ) → Fills levels
  unfolding child_among
  fills D zero n i h k zero x s e =
      let same : i ≡ x = Some-injective e in
      subst (λ o. Holds n (i ∷ []) (n + 0) s o) (sym (no_slots x.kind s (subst (λ z. height_of S z.kind ≤ 0) same k)))
      (ap (λ b. if b then Some n else None) (first_outside n (n + 0) s i h (omega arith)))
  fills D zero n i h k (suc j) x s e = absurd cc
  fills D (suc levels) n i h k zero x s e =
      let same : i ≡ x = Some-injective e in
      let row = child_trees (tree levels S) n i.ancestry (suc n) (enumerate_from 0 (kind_of S i.kind).slots) in
      subst (λ z. Holds n (i ∷ row) (n + 0) s (declared_child (slice_get (kind_of S z.kind).slots s))) same
      (holds_after n i row (n + 0) s (declared_child (slice_get (kind_of S i.kind).slots s)) (first_outside n (n + 0) s i h (omega arith))
      (subst (λ c. Holds (suc n) row c s (declared_child (slice_get (kind_of S i.kind).slots s))) (let f : n ≡ n + 0 = omega arith in f)
      (subst (λ t. Holds (suc n) row n t (declared_child (slice_get (kind_of S i.kind).slots s))) (let f : 0 + s ≡ s = omega arith in f)
      (row_slots levels n i.ancestry (suc n) (kind_of S i.kind).slots 0 s (omega arith)))))
  fills D (suc levels) n i h k (suc j) x s e =
      let row = child_trees (tree levels S) n i.ancestry (suc n) (enumerate_from 0 (kind_of S i.kind).slots) in
      holds_after n i row (n + suc j) s (declared_child (slice_get (kind_of S x.kind).slots s)) (first_outside n (n + suc j) s i h (omega arith))
      (subst (λ c. Holds (suc n) row c s (declared_child (slice_get (kind_of S x.kind).slots s))) (let f : suc n + j ≡ n + suc j = omega arith in f)
      (row_deep levels (fills D levels) n i.ancestry (suc n) (kind_of S i.kind).slots 0 j x s (omega arith) (low_slots D i.kind levels k) e))

  -- ---- what holds of all instances of a tree

  abbrev pub AllAre : (Instance → Type 0) → List Instance → Type 0
  AllAre Q [] = Unit {0}
  AllAre Q (i ∷ is) = Q i × AllAre Q is

  pub all_append : (Q : Instance → Type 0) (xs ys : List Instance) → AllAre Q xs → AllAre Q ys → AllAre Q (xs ++ ys)
  all_append Q [] ys h k = k
  all_append Q (x ∷ xs) ys h k = (h.0, all_append Q xs ys h.1 k)

  pub all_get : (Q : Instance → Type 0) (is : List Instance) (j : ℕ) (x : Instance) → AllAre Q is → slice_get is j ≡ Some x → Q x
  all_get Q [] j x h e = absurd cc
  all_get Q (i ∷ is) zero x h e = subst Q (Some-injective e) h.0
  all_get Q (i ∷ is) (suc j) x h e = all_get Q is j x h.1 e

  -- what goes on from an instance to its children in typed slots
  abbrev pub GoesDown : (Instance → Type 0) → Type 0
  GoesDown Q = (n : ℕ) (i : Instance) → Q i → (a : ℕ) (d : SlotDecl) (child : Child) → slice_get (kind_of S i.kind).slots a ≡ Some d → d.child ≡ Some child
      → Q (record { kind = child.kind; birth = Args child.args; ancestry = (n, a) ∷ i.ancestry })

  all_slot : (Q : Instance → Type 0) (levels : ℕ) → ((n : ℕ) (i : Instance) → Q i → AllAre Q (tree levels S n i)) → (n : ℕ) (line : List (ℕ × ℕ)) (next a : ℕ) (o : Option Child) → ((child : Child) → o ≡ Some child → Q (in_slot n line a child))
      → AllAre Q (slot_tree levels n line next a o)
  all_slot Q levels t n line next a None h = tt
  all_slot Q levels t n line next a (Some child) h = t next (in_slot n line a child) (h child refl)

  all_row : (Q : Instance → Type 0) (levels : ℕ) → ((n : ℕ) (i : Instance) → Q i → AllAre Q (tree levels S n i)) → (n : ℕ) (line : List (ℕ × ℕ)) (next : ℕ) (ss : List SlotDecl) (a : ℕ)
      → ((j : ℕ) (d : SlotDecl) (child : Child) → slice_get ss j ≡ Some d → d.child ≡ Some child → Q (in_slot n line (a + j) child)) → AllAre Q (child_trees (tree levels S) n line next (enumerate_from a ss))
  all_row Q levels t n line next [] a h = tt
  all_row Q levels t n line next (d ∷ ds) a h =
      let one = slot_tree levels n line next a d.child in
      all_append Q one (child_trees (tree levels S) n line (next + length one) (enumerate_from (a + 1) ds))
      (all_slot Q levels t n line next a d.child (λ child e. subst (λ m. Q (in_slot n line m child)) (let f : a + 0 ≡ a = omega arith in f) (h 0 d child refl e)))
      (all_row Q levels t n line (next + length one) ds (a + 1) (λ j e child g k. subst (λ m. Q (in_slot n line m child)) (let f : a + suc j ≡ (a + 1) + j = omega arith in f) (h (suc j) e child g k)))

  pub all_tree : (Q : Instance → Type 0) → GoesDown Q → (levels n : ℕ) (i : Instance) → Q i → AllAre Q (tree levels S n i)
  all_tree Q g zero n i h = (h, tt)
  all_tree Q g (suc levels) n i h =
      (h, all_row Q levels (all_tree Q g levels) n i.ancestry (suc n) (kind_of S i.kind).slots 0 (λ j d child e k. subst (λ m. Q (in_slot n i.ancestry m child)) (let f : j ≡ 0 + j = omega arith in f) (g n i h j d child e k)))
