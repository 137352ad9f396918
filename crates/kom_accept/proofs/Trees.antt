-- The trees of component types in a syntax tree that breaks no rule: their heights and what they have.
use Rattle.std.proofs.Common.{◌≡◌, ℕ, zero, suc, ◌+◌, ◌-◌, ◌<◌, ◌≤◌, ◌==◌, max, Bool, true, false, ◌||◌, List, [], ◌∷◌, map, length, Option, Some, None, slice_get, sum_by, nat_lt, refl, sym, ap, ◌∙◌, arith, inl, inr, eqb, eq-eqb}
use Rattle.std.specs.List.{cons_option, filter_map, list_any, list_all, IsDistinct, AllByRecursion}
use Rattle.std.specs.Option.{option_map, option_map_or}
use Rattle.std.proofs.lemmas.Bool.{cases_lt, lt-ltb, ltb-false, eqb-true}
use Rattle.std.proofs.lemmas.List.{length-map}
use Rattle.std.proofs.lemmas.List.Sums.{sum_by-cons}
use Rattle.std.proofs.lemmas.Map.Steps.{length-le_from_distinct_below}
use Rattle.std.proofs.lemmas.Option.{slice_get_within}
use Rattle.kom_lang.specs.Declarations.{greatest, child_height, height, height_of}
use Rattle.kom_lang.specs.declared.kind.Kind.{Kind}
use Rattle.kom_system.specs.WellFormed.{tree_count, TreeFits}
use Rattle.kom_system.specs.declared.parts.ChildPart.{ChildPart}
use Rattle.kom_system.specs.declared.parts.SlotPart.{SlotPart}
use Rattle.kom_system.specs.declared.parts.ComponentPart.{ComponentPart}
use Rattle.kom_system.specs.declared.parts.Parts.{Parts}
use Rattle.kom_rules.specs.Names.{at_if}
use Rattle.kom_rules.specs.Spaces.{component_number}
use Rattle.kom_rules.specs.Declaring.{unknown_component}
use Rattle.kom_rules.specs.Fitting.{child_number, children_of, is_below, tree_height, tree_total, is_too_large}
use Rattle.kom_resolve.specs.Resolved.{kind_value, slot_value, child_value, channel_value}
use Rattle.kom_accept.proofs.Lists.{none_numbered, not_at, neither, member, mapped_at, says_at, all_mapped}
use Rattle.kom_accept.proofs.Kept.{Keeps}
use Rattle.kom_accept.proofs.Components.{declared, kind_is, kinds_long, slot_type_known, component_known}

or_second : (a b : Bool) → b ≡ true → a || b ≡ true
or_second true b e = refl
or_second false b e = e

or_more : (a b c : Bool) → (b ≡ true → c ≡ true) → a || b ≡ true → a || c ≡ true
or_more true b c h e = refl
or_more false b c h e = h e

any_more : (f g : ℕ → Bool) (xs : List ℕ) → ((x : ℕ) → f x ≡ true → g x ≡ true) → list_any f xs ≡ true → list_any g xs ≡ true
any_more f g [] h e = e
any_more f g (x ∷ xs) h e = by (f x) (h x) (any_more f g xs h) e where
  by : (t : Bool) → (t ≡ true → g x ≡ true) → (list_any f xs ≡ true → list_any g xs ≡ true) → t || list_any f xs ≡ true → g x || list_any g xs ≡ true
  by true here more r = ap (λ b. b || list_any g xs) (here refl)
  by false here more r = or_second (g x) (list_any g xs) (more r)

true_false : true ≡ false → ⊥
true_false e = cc

-- ---- the greatest of some numbers

greatest_bounds : (f : ℕ → ℕ) (xs : List ℕ) (m i x : ℕ) → greatest (map f xs) ≤ m → slice_get xs i ≡ Some x → f x ≤ m
greatest_bounds f [] m i x h e = absurd cc
greatest_bounds f (y ∷ xs) m zero x h e = let same : y ≡ x = cc in let moved = ap f same in omega arith
greatest_bounds f (y ∷ xs) m (suc i) x h e = greatest_bounds f xs m i x (omega arith) e

bounded : (f : ℕ → ℕ) (xs : List ℕ) (m : ℕ) → ((i x : ℕ) → slice_get xs i ≡ Some x → f x ≤ m) → greatest (map f xs) ≤ m
bounded f [] m h = omega arith
bounded f (y ∷ xs) m h = let here = h 0 y refl in let more = bounded f xs m (λ i x e. h (suc i) x e) in omega arith

greatest_same : (f g : ℕ → ℕ) (xs : List ℕ) → ((i x : ℕ) → slice_get xs i ≡ Some x → f x ≡ g x) → greatest (map f xs) ≡ greatest (map g xs)
greatest_same f g [] h = refl
greatest_same f g (y ∷ xs) h = ap (λ a. max a (greatest (map f xs))) (h 0 y refl) ∙ ap (max (g y)) (greatest_same f g xs (λ i x e. h (suc i) x e))

-- one of the numbers is the greatest
attained : (f : ℕ → ℕ) (xs : List ℕ) (m : ℕ) → suc m ≤ greatest (map f xs) → (i : ℕ) × (x : ℕ) × (slice_get xs i ≡ Some x) × (suc m ≤ f x)
attained f [] m h = absurd (omega arith)
attained f (y ∷ xs) m h = elim (cases_lt m (f y)) [
  | inl lt ↦ (0, y, refl, omega arith)
  | inr le ↦ let more = attained f xs m (omega arith) in (suc more.0, more.1, more.2, more.3)
]

-- ---- how high trees are

module _ (P : Parts) where
  height_within : (n k : ℕ) → tree_height n P k ≤ n
  height_within zero k = omega arith
  height_within (suc n) k = let below = bounded (tree_height n P) (children_of P k) n (λ i x e. height_within n x) in omega arith

  -- a tree that is no higher than the levels that are counted is no higher by more levels
  settled : (m k : ℕ) → tree_height (suc m) P k ≤ m → tree_height m P k ≡ tree_height (suc m) P k
  settled zero k h = absurd (omega arith)
  settled (suc j) k h =
      let below : greatest (map (tree_height (suc j) P) (children_of P k)) ≤ j = omega arith in
      ap (λ n. 1 + n) (greatest_same (tree_height j P) (tree_height (suc j) P) (children_of P k) (λ i x e. settled j x (greatest_bounds (tree_height (suc j) P) (children_of P k) j i x below e)))

  stays_low : (m k : ℕ) → tree_height (suc m) P k ≤ m → tree_height (suc (suc m)) P k ≤ m
  stays_low zero k h = absurd (omega arith)
  stays_low (suc j) k h =
      let below : greatest (map (tree_height (suc j) P) (children_of P k)) ≤ j = omega arith in
      let more = bounded (tree_height (suc (suc j)) P) (children_of P k) j (λ i x e. stays_low j x (greatest_bounds (tree_height (suc j) P) (children_of P k) j i x below e)) in
      omega arith

  low_by_more : (i m k : ℕ) → tree_height (suc m) P k ≤ m → tree_height (suc (i + m)) P k ≤ m
  low_by_more zero m k h = let same : suc (0 + m) ≡ suc m = omega arith in let e = ap (λ n. tree_height n P k) same in omega (arith, e, h)
  low_by_more (suc i) m k h =
      let less = low_by_more i m k h in
      let next = stays_low (i + m) k (omega arith) in
      let low = settled (suc (i + m)) k (omega arith) in
      let same : suc (suc i + m) ≡ suc (suc (i + m)) = omega arith in
      let e = ap (λ n. tree_height n P k) same in
      omega (arith, e, low, less)

  -- ---- lines of component types of which each has the next in a slot

  abbrev pub IsKid : ℕ → ℕ → Type 0
  IsKid a b = (i : ℕ) × (slice_get (children_of P a) i ≡ Some b)

  abbrev Linked : ℕ → List ℕ → Type 0
  Linked a [] = Unit {0}
  Linked a (b ∷ rest) = IsKid a b × Linked b rest

  long_line : (m k : ℕ) → suc m ≤ tree_height (suc m) P k → (rest : List ℕ) × (length rest ≡ m) × Linked k rest
  long_line zero k h = ([], refl, tt)
  long_line (suc j) k h =
      let top = attained (tree_height (suc j) P) (children_of P k) j (omega arith) in
      let more = long_line j top.1 top.3 in
      (top.1 ∷ more.0, ap suc more.1, ((top.0, top.2), more.2))

  any_there : (f : ℕ → Bool) (xs : List ℕ) (i x : ℕ) → slice_get xs i ≡ Some x → f x ≡ true → list_any f xs ≡ true
  any_there f [] i x e h = absurd cc
  any_there f (y ∷ xs) zero x e h = let same : y ≡ x = cc in let yes = ap f same ∙ h in ap (λ b. b || list_any f xs) yes
  any_there f (y ∷ xs) (suc i) x e h = or_second (f y) (list_any f xs) (any_there f xs i x e h)

  below_by : (n a b c : ℕ) → IsKid a c → is_below n P c b ≡ true → is_below (suc n) P a b ≡ true
  below_by n a b c kid h = any_there (λ d. d == b || is_below n P d b) (children_of P a) kid.0 c kid.1 (or_second (c == b) (is_below n P c b) h)

  below_at : (n a b : ℕ) → IsKid a b → is_below (suc n) P a b ≡ true
  below_at n a b kid = any_there (λ d. d == b || is_below n P d b) (children_of P a) kid.0 b kid.1 (ap (λ t. t || is_below n P b b) (eq-eqb b b refl))

  -- whoever stands in the line is below its first
  in_line : (a b : ℕ) (rest : List ℕ) → Linked a rest → list_any (λ c. c == b) rest ≡ true → is_below (length rest) P a b ≡ true
  in_line a b [] l h = absurd cc
  in_line a b (c ∷ rest) l h = by (c == b) refl (in_line c b rest l.1) h where
    by : (t : Bool) → (c == b) ≡ t → (list_any (λ d. d == b) rest ≡ true → is_below (length rest) P c b ≡ true) → t || list_any (λ d. d == b) rest ≡ true → is_below (suc (length rest)) P a b ≡ true
    by true e go g = let same : c ≡ b = eqb-true c b e in below_at (length rest) a b (l.0.0, l.0.1 ∙ ap Some same)
    by false e go g = below_by (length rest) a b c l.0 (go g)

  below_more : (n m a b : ℕ) → n ≤ m → is_below n P a b ≡ true → is_below m P a b ≡ true
  below_more zero m a b h e = absurd cc
  below_more (suc n) zero a b h e = absurd (omega arith)
  below_more (suc n) (suc m) a b h e = any_more (λ c. c == b || is_below n P c b) (λ c. c == b || is_below m P c b) (children_of P a) (λ c g. or_more (c == b) (is_below n P c b) (is_below m P c b) (below_more n m c b (omega arith)) g) e

  -- ---- where no component type is in a tree of its own

  module _ (acyclic : (k : ℕ) → k < length P.components → is_below (length P.components) P k k ≡ false) (kid_known : (a b : ℕ) → IsKid a b → b < length P.components) where
    apart : (a : ℕ) (all rest : List ℕ) → a < length P.components → length rest ≤ length P.components → ((b : ℕ) → list_any (λ c. c == b) rest ≡ true → list_any (λ c. c == b) all ≡ true) → list_any (λ c. c == a) all ≡ false → AllByRecursion (λ y. eqb a y ≡ false) rest
    apart a all [] small few among none = tt
    apart a all (c ∷ rest) small few among none = (
      by (eqb a c) refl,
      apart a all rest small (omega arith) (λ b h. among b (or_second (c == b) (list_any (λ d. d == b) rest) h)) none,
    ) where
      by : (t : Bool) → eqb a c ≡ t → t ≡ false
      by true e = absurd (true_false (sym (among a (ap (λ u. u || list_any (λ d. d == a) rest) (eq-eqb c a (sym (eqb-true a c e))))) ∙ none))
      by false e = refl

    distinct : (a : ℕ) (rest : List ℕ) → a < length P.components → suc (length rest) ≤ suc (length P.components) → Linked a rest → IsDistinct eqb (a ∷ rest)
    unfolding IsDistinct
    distinct a [] small few l = (tt, tt)
    distinct a (b ∷ rest) small few l =
        let none = not_member a (list_any (λ c. c == a) (b ∷ rest)) refl in
        (apart a (b ∷ rest) (b ∷ rest) small (omega arith) (λ c h. h) none, distinct b rest (kid_known a b l.0) (omega arith) l.1) where
          not_member : (q : ℕ) (t : Bool) → list_any (λ c. c == a) (b ∷ rest) ≡ t → t ≡ false
          not_member q true e = absurd (true_false (sym (below_more (length (b ∷ rest)) (length P.components) a a (omega arith) (in_line a a (b ∷ rest) l e)) ∙ acyclic a small))
          not_member q false e = refl

    all_known : (a q : ℕ) (rest : List ℕ) → a < length P.components → Linked a rest → list_any (eqb q) (a ∷ rest) ≡ true → q < length P.components
    all_known a q [] small l h = by (eqb q a) refl h where
      by : (t : Bool) → eqb q a ≡ t → t || false ≡ true → q < length P.components
      by true e g = let same : q ≡ a = eqb-true q a e in omega arith
      by false e g = absurd cc
    all_known a q (b ∷ rest) small l h = by (eqb q a) refl (all_known b q rest (kid_known a b l.0) l.1) h where
      by : (t : Bool) → eqb q a ≡ t → (list_any (eqb q) (b ∷ rest) ≡ true → q < length P.components) → t || list_any (eqb q) (b ∷ rest) ≡ true → q < length P.components
      by true e go g = let same : q ≡ a = eqb-true q a e in omega arith
      by false e go g = go g

    -- no tree has more levels than there are component types
    few_levels : (k : ℕ) → k < length P.components → tree_height (suc (length P.components)) P k ≤ length P.components
    few_levels k small = elim (cases_lt (length P.components) (tree_height (suc (length P.components)) P k)) [
      | inl lt ↦
          let line = long_line (length P.components) k (omega arith) in
          let short = length-le_from_distinct_below (k ∷ line.0) (length P.components) (distinct k line.0 small (omega (arith, line.1)) line.2) (λ q h. all_known k q line.0 small line.2 h) in
          absurd (omega (arith, line.1, short))
      | inr le ↦ omega arith
    ]

    pub levels_settled : (k : ℕ) → k < length P.components → tree_height (length P.components) P k ≡ tree_height (suc (length P.components)) P k
    levels_settled k small = settled (length P.components) k (few_levels k small)

    pub kid_lower : (a b : ℕ) → a < length P.components → IsKid a b → tree_height (length P.components) P b < tree_height (length P.components) P a
    kid_lower a b small kid =
        let top = levels_settled a small in
        let under = greatest_bounds (tree_height (length P.components) P) (children_of P a) (greatest (map (tree_height (length P.components) P) (children_of P a))) kid.0 b (omega arith) kid.1 in
        omega (arith, top, under)

-- ---- heights and totals, by the tree and by the system

some_same : {X : Type 0} {x y : X} → Some x ≡ Some y → x ≡ y
some_same e = cc

module _ (P : Parts) (K : Keeps P) where
  known_child : (n : ℕ) (c : ComponentPart) (i : ℕ) (s : SlotPart) (child : ChildPart) → slice_get P.components n ≡ Some c → slice_get c.slots i ≡ Some s → s.child ≡ Some child → (t : ComponentPart) × (slice_get P.components (component_number P child.kind) ≡ Some t)
  known_child n c i s child at there e = component_known P K child.kind (says_at (λ d. unknown_component P d.kind) s.child child (slot_type_known P K n c at i s there) e)

  slots_high : (n : ℕ) (slots : List SlotPart) → ((i : ℕ) (s : SlotPart) (child : ChildPart) → slice_get slots i ≡ Some s → s.child ≡ Some child → height n (declared P).kinds (component_number P child.kind) ≡ tree_height n P (component_number P child.kind))
      → greatest (map (child_height (height n (declared P).kinds)) (map (slot_value P) slots)) ≡ greatest (map (tree_height n P) (filter_map (child_number P) slots))
  slots_high n [] h = refl
  slots_high n (s ∷ slots) h = by s.child (λ child e. h 0 s child refl e) (slots_high n slots (λ i q child e f. h (suc i) q child e f)) where
    by : (o : Option ChildPart) → ((child : ChildPart) → o ≡ Some child → height n (declared P).kinds (component_number P child.kind) ≡ tree_height n P (component_number P child.kind))
        → greatest (map (child_height (height n (declared P).kinds)) (map (slot_value P) slots)) ≡ greatest (map (tree_height n P) (filter_map (child_number P) slots))
        → max (option_map_or (λ d. height n (declared P).kinds d.kind) (option_map (child_value P) o) 0) (greatest (map (child_height (height n (declared P).kinds)) (map (slot_value P) slots))) ≡ greatest (map (tree_height n P) (cons_option (option_map (λ d. component_number P d.kind) o) (filter_map (child_number P) slots)))
    by None here more = omega arith
    by (Some child) here more = let same = here child refl in omega arith

  heights_same : (n k : ℕ) (c : ComponentPart) → slice_get P.components k ≡ Some c → height n (declared P).kinds k ≡ tree_height n P k
  heights_same zero k c at = refl
  heights_same (suc n) k c at =
      let kind = ap (λ o. option_map_or (λ d. 1 + greatest (map (child_height (height n (declared P).kinds)) d.slots)) o 0) (mapped_at (kind_value P) P.components k c at) in
      let slots = slots_high n c.slots (λ i s child e f. let t = known_child k c i s child at e f in heights_same n (component_number P child.kind) t.0 t.1) in
      let kids = ap (λ o. 1 + greatest (map (tree_height n P) (option_map_or (λ d. filter_map (child_number P) d.slots) o []))) at in
      kind ∙ ap (λ m. 1 + m) slots ∙ sym kids

  slots_total : (adds : Kind → ℕ) (of : ComponentPart → ℕ) (n : ℕ) (slots : List SlotPart) → ((i : ℕ) (s : SlotPart) (child : ChildPart) → slice_get slots i ≡ Some s → s.child ≡ Some child → tree_count adds n (declared P) (component_number P child.kind) ≡ tree_total of n P (component_number P child.kind))
      → sum_by (λ s. option_map_or (λ child. tree_count adds n (declared P) child.kind) s.child 0) (map (slot_value P) slots) ≡ sum_by (tree_total of n P) (filter_map (child_number P) slots)
  slots_total adds of n [] h = refl
  slots_total adds of n (s ∷ slots) h =
      let step = sum_by-cons (λ q. option_map_or (λ child. tree_count adds n (declared P) child.kind) q.child 0) (slot_value P s) (map (slot_value P) slots) in
      let rest = by s.child (λ child e. h 0 s child refl e) (slots_total adds of n slots (λ i q child e f. h (suc i) q child e f)) in
      omega (arith, step, rest) where
        by : (o : Option ChildPart) → ((child : ChildPart) → o ≡ Some child → tree_count adds n (declared P) (component_number P child.kind) ≡ tree_total of n P (component_number P child.kind))
            → sum_by (λ q. option_map_or (λ child. tree_count adds n (declared P) child.kind) q.child 0) (map (slot_value P) slots) ≡ sum_by (tree_total of n P) (filter_map (child_number P) slots)
            → option_map_or (λ child. tree_count adds n (declared P) child.kind) (option_map (child_value P) o) 0 + sum_by (λ q. option_map_or (λ child. tree_count adds n (declared P) child.kind) q.child 0) (map (slot_value P) slots)
            ≡ sum_by (tree_total of n P) (cons_option (option_map (λ d. component_number P d.kind) o) (filter_map (child_number P) slots))
        by None here more = omega (arith, more)
        by (Some child) here more = let same = here child refl in omega (arith, same, more, sum_by-cons (tree_total of n P) (component_number P child.kind) (filter_map (child_number P) slots))

  totals_same : (adds : Kind → ℕ) (of : ComponentPart → ℕ) → ((c : ComponentPart) → adds (kind_value P c) ≡ of c) → (n k : ℕ) (c : ComponentPart) → slice_get P.components k ≡ Some c → tree_count adds n (declared P) k ≡ tree_total of n P k
  totals_same adds of h zero k c at = refl
  totals_same adds of h (suc n) k c at =
      let kind = ap (λ d. adds d + sum_by (λ s. option_map_or (λ child. tree_count adds n (declared P) child.kind) s.child 0) d.slots) (kind_is P k c at) in
      let slots = slots_total adds of n c.slots (λ i s child e f. let t = known_child k c i s child at e f in totals_same adds of h n (component_number P child.kind) t.0 t.1) in
      let part = ap (λ o. option_map_or of o 0 + sum_by (tree_total of n P) (option_map_or (λ d. filter_map (child_number P) d.slots) o [])) at in
      omega (arith, kind, h c, slots, part)

  -- ---- who is in a slot of whom

  kid_at : (slots : List SlotPart) (i : ℕ) (s : SlotPart) (child : ChildPart) → slice_get slots i ≡ Some s → s.child ≡ Some child → (j : ℕ) × (slice_get (filter_map (child_number P) slots) j ≡ Some (component_number P child.kind))
  kid_at [] i s child e f = absurd cc
  kid_at (q ∷ slots) zero s child e f =
      let same : q ≡ s = some_same e in
      (0, ap (λ o. slice_get (cons_option (option_map (λ d. component_number P d.kind) o) (filter_map (child_number P) slots)) 0) (ap (λ x. x.child) same ∙ f))
  kid_at (q ∷ slots) (suc i) s child e f = by q.child (kid_at slots i s child e f) where
    by : (o : Option ChildPart) → (j : ℕ) × (slice_get (filter_map (child_number P) slots) j ≡ Some (component_number P child.kind))
        → (j : ℕ) × (slice_get (cons_option (option_map (λ d. component_number P d.kind) o) (filter_map (child_number P) slots)) j ≡ Some (component_number P child.kind))
    by None more = more
    by (Some d) more = (suc more.0, more.1)

  kid_of_slot : (slots : List SlotPart) (j b : ℕ) → slice_get (filter_map (child_number P) slots) j ≡ Some b → (i : ℕ) × (s : SlotPart) × (child : ChildPart) × (slice_get slots i ≡ Some s) × (s.child ≡ Some child) × (component_number P child.kind ≡ b)
  kid_of_slot [] j b e = absurd cc
  kid_of_slot (q ∷ slots) j b e = by q.child refl j e (λ i f. kid_of_slot slots i b f) where
    by : (o : Option ChildPart) → q.child ≡ o → (j : ℕ) → slice_get (cons_option (option_map (λ d. component_number P d.kind) o) (filter_map (child_number P) slots)) j ≡ Some b
        → ((i : ℕ) → slice_get (filter_map (child_number P) slots) i ≡ Some b → (m : ℕ) × (s : SlotPart) × (child : ChildPart) × (slice_get slots m ≡ Some s) × (s.child ≡ Some child) × (component_number P child.kind ≡ b))
        → (m : ℕ) × (s : SlotPart) × (child : ChildPart) × (slice_get (q ∷ slots) m ≡ Some s) × (s.child ≡ Some child) × (component_number P child.kind ≡ b)
    by None f i g go = let more = go i g in (suc more.0, more.1, more.2, more.3, more.4, more.5)
    by (Some d) f zero g go = (0, q, d, refl, f, some_same g)
    by (Some d) f (suc i) g go = let more = go i g in (suc more.0, more.1, more.2, more.3, more.4, more.5)

  acyclic : (k : ℕ) → k < length P.components → is_below (length P.components) P k k ≡ false
  acyclic k small =
      let c = member P.components k small in
      let none = none_numbered (λ x. at_if (is_below (length P.components) P x.0 x.0) x.1.name.at) 0 P.components k c.0 K.containers c.1 in
      let zero_more : 0 + k ≡ k = omega arith in
      ap (λ n. is_below (length P.components) P n n) (sym zero_more) ∙ not_at (is_below (length P.components) P (0 + k) (0 + k)) c.0.name.at none

  kid_known : (a b : ℕ) → IsKid P a b → b < length P.components
  kid_known a b kid = by (slice_get P.components a) refl kid.1 where
    by : (o : Option ComponentPart) → slice_get P.components a ≡ o → slice_get (option_map_or (λ d. filter_map (child_number P) d.slots) o []) kid.0 ≡ Some b → b < length P.components
    by None e g = absurd cc
    by (Some c) e g =
        let slot = kid_of_slot c.slots kid.0 b g in
        let t = known_child a c slot.0 slot.1 slot.2 e slot.3 slot.4 in
        let within = slice_get_within P.components (component_number P slot.2.kind) t.0 t.1 in
        omega (arith, within, slot.5)

  -- ---- the whole

  high : (k : ℕ) (c : ComponentPart) → slice_get P.components k ≡ Some c → height_of (declared P) k ≡ tree_height (length P.components) P k
  high k c at = heights_same (length (declared P).kinds) k c at ∙ ap (λ n. tree_height n P k) (kinds_long P K)

  module _ (k : ℕ) (c : ComponentPart) (at : slice_get P.components k ≡ Some c) where
    small : is_too_large P k ≡ false
    small =
        let none = none_numbered (λ x. at_if (is_too_large P x.0) x.1.name.at) 0 P.components k c K.small at in
        let zero_more : 0 + k ≡ k = omega arith in
        ap (is_too_large P) (sym zero_more) ∙ not_at (is_too_large P (0 + k)) c.name.at none

    low : tree_height 17 P k ≤ 16
    low = ltb-false 16 (tree_height 17 P k) (neither (nat_lt 16 (tree_height 17 P k)) (nat_lt 1000 (tree_total (λ d. 1) 16 P k) || nat_lt 1000 (tree_total (λ d. length d.channels) 16 P k)) small).0

    few : (tree_total (λ d. 1) 16 P k ≤ 1000) × (tree_total (λ d. length d.channels) 16 P k ≤ 1000)
    few =
        let both = neither (nat_lt 1000 (tree_total (λ d. 1) 16 P k)) (nat_lt 1000 (tree_total (λ d. length d.channels) 16 P k))
        (neither (nat_lt 16 (tree_height 17 P k)) (nat_lt 1000 (tree_total (λ d. 1) 16 P k) || nat_lt 1000 (tree_total (λ d. length d.channels) 16 P k)) small).1 in
        (ltb-false 1000 (tree_total (λ d. 1) 16 P k) both.0, ltb-false 1000 (tree_total (λ d. length d.channels) 16 P k) both.1)

    low_whole : tree_height (length P.components) P k ≤ 16
    low_whole = elim (cases_lt 16 (length P.components)) [
      | inl lt ↦
          let same : suc ((length P.components - 17) + 16) ≡ length P.components = omega arith in
          let moved = ap (λ n. tree_height n P k) same in
          omega (arith, low_by_more P (length P.components - 17) 16 k low, moved)
      | inr le ↦ omega (arith, height_within P (length P.components) k)
    ]

    slot_lower : (i : ℕ) (s : SlotPart) → slice_get c.slots i ≡ Some s → option_map_or (λ child. nat_lt (height_of (declared P) child.kind) (height_of (declared P) k)) (slot_value P s).child true ≡ true
    slot_lower i s there = by s.child refl where
      by : (o : Option ChildPart) → s.child ≡ o → option_map_or (λ child. nat_lt (height_of (declared P) child.kind) (height_of (declared P) k)) (option_map (child_value P) o) true ≡ true
      by None e = refl
      by (Some child) e =
          let t = known_child k c i s child at there e in
          let j = kid_at c.slots i s child there e in
          let kid : IsKid P k (component_number P child.kind) = (j.0, ap (λ o. slice_get (option_map_or (λ d. filter_map (child_number P) d.slots) o []) j.0) at ∙ j.1) in
          let less = kid_lower P acyclic kid_known k (component_number P child.kind) (slice_get_within P.components k c at) kid in
          lt-ltb (height_of (declared P) (component_number P child.kind)) (height_of (declared P) k) (omega (arith, less, high (component_number P child.kind) t.0 t.1, high k c at))

    pub tree_fits : TreeFits (declared P) k
    tree_fits = record {
      children = ap (λ d. list_all (λ s. option_map_or (λ child. nat_lt (height_of (declared P) child.kind) (height_of (declared P) k)) s.child true) d.slots) (kind_is P k c at)
          ∙ all_mapped (λ s. option_map_or (λ child. nat_lt (height_of (declared P) child.kind) (height_of (declared P) k)) s.child true) (slot_value P) c.slots slot_lower;
      height = omega (arith, high k c at, low_whole);
      instances = omega (arith, totals_same (λ d. 1) (λ d. 1) (λ d. refl) 16 k c at, few.0);
      channels = omega (arith, totals_same (λ d. length d.channels) (λ d. length d.channels) (λ d. length-map d.channels (channel_value P d)) 16 k c at, few.1);
    }
