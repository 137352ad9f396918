-- Seeds one after another, and what is known of the sprouts of a tree.
use Rattle.std.proofs.Common.{◌≡◌, ℕ, zero, suc, ◌+◌, ◌-◌, ◌<◌, ◌≤◌, ◌&&◌, Bool, true, false, refl, sym, ap, ◌∙◌, subst, List, [], ◌∷◌, ◌++◌, length, map, get_or, take, Option, Some, None, inl, inr, arith}
use Rattle.std.specs.Prelude.{slice_get}
use Rattle.std.specs.List.{enumerate_from, list_all}
use Rattle.std.specs.Option.{option_map, option_map_or}
use Rattle.std.proofs.lemmas.Bool.{ltb-true}
use Rattle.std.proofs.lemmas.List.{length-map, map-append, take_all, take_more}
use Rattle.std.proofs.lemmas.List.FromFn.{get_or-enumerate_from, length-enumerate_from}
use Rattle.std.proofs.lemmas.Option.{slice_get-get_or, slice_get-map, slice_get_within}
use Rattle.kom_base.specs.Lists.{first}
use Rattle.kom_lang.specs.Declarations.{Declarations, height_of, kind_of}
use Rattle.kom_lang.specs.declared.body.Birth.{Birth}
use Rattle.kom_lang.specs.declared.body.Birth.TheVariants.{Args}
use Rattle.kom_lang.specs.declared.kind.Child.{Child}
use Rattle.kom_lang.specs.declared.kind.SlotDecl.{SlotDecl}
use Rattle.kom_system.specs.Fitting.{child_fits, slot_fits}
use Rattle.kom_system.specs.WellFormed.{IsDeclared}
use Rattle.kom_record.specs.Instances.{Instance, depth_limit, tree, child_tree, child_trees}
use Rattle.kom_laws.proofs.ListFacts.{got_at}
use Rattle.kom_laws.proofs.Members.{Some-injective}
use Rattle.kom_limits.proofs.Small.{few_instances, slots_fit, some_height}
use Rattle.kom_lives.proofs.Lineage.{tree_parents}
use Rattle.kom_births.specs.declared.seed.Seed.{Seed}
use Rattle.kom_births.specs.declared.sprout.Sprout.{Sprout}
use Rattle.kom_births.specs.declared.sprout.Seat.{Seat}
use Rattle.kom_births.specs.Seeds.{seed_in, seeds_in}
use Rattle.kom_births.specs.Sprouts.{AreOf, IsDeep, IsSmall, sprout_of, seat_of}

pub seeds_more : (S : Declarations) (n : ℕ) (xs : List Sprout) (k : ℕ) (old new : List Seed) (s : Seed) → k < length xs → new ≡ old ++ s ∷ []
    → ((x : Sprout) → slice_get xs k ≡ Some x → s ≡ seed_in n xs S (n + k, x))
    → old ≡ map (seed_in n xs S) (take k (enumerate_from n xs)) → new ≡ map (seed_in n xs S) (take (k + 1) (enumerate_from n xs))
seeds_more S n xs k old new s h e f g =
    let x = got_at xs k h in
    let item : get_or xs k x.0 ≡ x.0 = Some-injective (sym (slice_get-get_or xs k x.0 h) ∙ x.1) in
    let at : get_or (enumerate_from n xs) k (n, x.0) ≡ (n + k, x.0) = get_or-enumerate_from n xs k (n, x.0) h ∙ ap (λ y. (n + k, y)) item in
    let next : take (k + 1) (enumerate_from n xs) ≡ take k (enumerate_from n xs) ++ (n + k, x.0) ∷ [] = take_more (enumerate_from n xs) k (n, x.0) (omega (arith, h, length-enumerate_from n xs)) ∙ ap (λ q. take k (enumerate_from n xs) ++ q ∷ []) at in
    e ∙ ap (λ l. l ++ s ∷ []) g
    ∙ ap (λ z. map (seed_in n xs S) (take k (enumerate_from n xs)) ++ z ∷ []) (f x.0 x.1)
    ∙ sym (map-append (seed_in n xs S) (take k (enumerate_from n xs)) ((n + k, x.0) ∷ []))
    ∙ ap (map (seed_in n xs S)) (sym next)

pub seeds_all : (S : Declarations) (n : ℕ) (xs : List Sprout) (k : ℕ) (new : List Seed) → length xs ≤ k → new ≡ map (seed_in n xs S) (take k (enumerate_from n xs)) → new ≡ seeds_in n xs S
seeds_all S n xs k new h e = e ∙ ap (map (seed_in n xs S)) (take_all k (enumerate_from n xs) (omega (arith, h, length-enumerate_from n xs)))

-- ---- the types of a tree

both : (a b : Bool) → (a && b) ≡ true → (a ≡ true) × (b ≡ true)
both true b e = (refl, e)
both false b e = absurd cc

module _ (S : Declarations) (D : IsDeclared S) where
  abbrev AreDeclared : List Instance → Type 0
  AreDeclared [] = Unit {0}
  AreDeclared (i ∷ is) = (i.kind < length S.kinds) × AreDeclared is

  declared_append : (xs ys : List Instance) → AreDeclared xs → AreDeclared ys → AreDeclared (xs ++ ys)
  declared_append [] ys h k = k
  declared_append (x ∷ xs) ys h k = (h.0, declared_append xs ys h.1 k)

  declared_at : (is : List Instance) (j : ℕ) (x : Instance) → AreDeclared is → slice_get is j ≡ Some x → x.kind < length S.kinds
  declared_at [] j x h e = absurd cc
  declared_at (i ∷ is) zero x h e = subst (λ (z : Instance). z.kind < length S.kinds) (Some-injective e) h.0
  declared_at (i ∷ is) (suc j) x h e = declared_at is j x h.1 e

  abbrev Grows : ℕ → Type 0
  Grows levels = (n : ℕ) (i : Instance) → i.kind < length S.kinds → AreDeclared (tree levels S n i)

  one_slot : (levels : ℕ) → Grows levels → (p : ℕ) (line : List (ℕ × ℕ)) (next s : ℕ) (o : Option Child) → option_map_or (child_fits S) o true ≡ true
      → AreDeclared (option_map_or (λ child. tree levels S next (record { kind = child.kind; birth = Args child.args; ancestry = (p, s) ∷ line })) o [])
  one_slot levels g p line next s None e = tt
  one_slot levels g p line next s (Some child) e = g next (record { kind = child.kind; birth = Args child.args; ancestry = (p, s) ∷ line }) (ltb-true child.kind (length S.kinds) (both _ _ e).0)

  all_slots : (levels : ℕ) → Grows levels → (p : ℕ) (line : List (ℕ × ℕ)) (next a : ℕ) (ss : List SlotDecl) → list_all (slot_fits S) ss ≡ true
      → AreDeclared (child_trees (tree levels S) p line next (enumerate_from a ss))
  all_slots levels g p line next a [] e = tt
  all_slots levels g p line next a (s ∷ ss) e =
      let one = child_tree (tree levels S) p line next (a, s) in
      declared_append one (child_trees (tree levels S) p line (next + length one) (enumerate_from (a + 1) ss)) (one_slot levels g p line next a s.child (both _ _ e).0)
      (all_slots levels g p line (next + length one) (a + 1) ss (both _ _ e).1)

  grows : (levels : ℕ) → Grows levels
  grows zero n i h = (h, tt)
  grows (suc levels) n i h = (h, all_slots levels (grows levels) n i.ancestry (suc n) 0 (kind_of S i.kind).slots (slots_fit S D i.kind h))

  -- ---- the sprouts of a tree

  module _ (n : ℕ) (i : Instance) (declared : i.kind < length S.kinds) (small : n + 1000 ≤ 4000000000) (under : (q : ℕ × ℕ) → first i.ancestry ≡ Some q → q.0 < n) where
    abbrev news : List Instance
    news = tree depth_limit S n i

    pub few : n + length (map sprout_of news) ≤ 4294967296
    few = let f = few_instances S D n i in omega (arith, small, f, length-map news sprout_of)

    seat_small : (j : ℕ) (x : Instance) (a : Seat) → slice_get news j ≡ Some x → seat_of x ≡ Some a → a.comp < 4294967296
    seat_small j x a e f = at (first x.ancestry) refl f
      where
        below : (q : ℕ × ℕ) → first x.ancestry ≡ Some q → q.0 < 4294967296
        below q g = elim (tree_parents S depth_limit n i j x e) [
          | inl p ↦ let u = under q (ap first (sym p) ∙ g) in omega (arith, u, small)
          | inr p ↦
              let h : (n + p.0, p.2) ≡ q = Some-injective (sym (ap first p.5) ∙ g) in
              let z : n + p.0 ≡ q.0 = ap (λ (w : ℕ × ℕ). w.0) h in
              let l = few_instances S D n i in
              let w = slice_get_within news j x e in
              let m = p.3 in
              omega (arith, z, l, w, m, small)
        ]

        at : (o : Option (ℕ × ℕ)) → first x.ancestry ≡ o → option_map (λ (q : ℕ × ℕ). record { comp = q.0; slot = q.1 }) o ≡ Some a → a.comp < 4294967296
        at None g h = absurd cc
        at (Some q) g h = let z : q.0 ≡ a.comp = ap (λ (s : Seat). s.comp) (Some-injective h) in let b = below q g in omega (arith, z, b)

    pub of_tree : AreOf S (map sprout_of news)
    of_tree k x e = at (slice_get news k) refl (sym (slice_get-map sprout_of news k) ∙ e)
      where
        at : (o : Option Instance) → slice_get news k ≡ o → option_map sprout_of o ≡ Some x → (x.kind < length S.kinds) × IsSmall x.seat
        at None g h = absurd cc
        at (Some y) g h =
            let same : sprout_of y ≡ x = Some-injective h in
            subst (λ (z : Sprout). (z.kind < length S.kinds) × IsSmall z.seat) same (declared_at news k y (grows depth_limit n i declared) g, λ a f. seat_small k y a g f)

  pub not_deep : (k depth : ℕ) → k < length S.kinds → depth + height_of S k ≤ 17 → depth ≤ 16
  not_deep k depth h e = let z = some_height S D (length S.kinds) S.kinds k (omega (arith, h)) h in omega (arith, z, e)

-- ---- an ancestry for a place and a depth

abbrev repeated : ℕ → ℕ × ℕ → List (ℕ × ℕ)
repeated zero q = []
repeated (suc n) q = q ∷ repeated n q

repeated_long : (n : ℕ) (q : ℕ × ℕ) → length (repeated n q) ≡ n
repeated_long zero q = refl
repeated_long (suc n) q = ap suc (repeated_long n q)

abbrev pub line_for : Option (ℕ × ℕ) → ℕ → List (ℕ × ℕ)
line_for None depth = []
line_for (Some q) depth = repeated (depth - 1) q

pub line_first : (n : ℕ) (place : Option (ℕ × ℕ)) (depth : ℕ) → IsDeep n place depth → first (line_for place depth) ≡ place
line_first n None depth h = refl
line_first n (Some q) depth h = at (depth - 1) (let z = h.1 in omega (arith, z))
  where
    at : (k : ℕ) → 0 < k → first (repeated k q) ≡ Some q
    at zero l = absurd (omega (arith, l))
    at (suc k) l = refl

pub line_deep : (n : ℕ) (place : Option (ℕ × ℕ)) (depth : ℕ) → IsDeep n place depth → 1 + length (line_for place depth) ≡ depth
line_deep n None depth h = omega (arith, h)
line_deep n (Some q) depth h = let z = h.1 in omega (arith, z, repeated_long (depth - 1) q)

pub line_under : (n : ℕ) (place : Option (ℕ × ℕ)) (depth : ℕ) → IsDeep n place depth → (q : ℕ × ℕ) → first (line_for place depth) ≡ Some q → q.0 < n
line_under n None depth h q e = absurd cc
line_under n (Some p) depth h q e = let f : p ≡ q = Some-injective (sym (line_first n (Some p) depth h) ∙ e) in subst (λ (z : ℕ × ℕ). z.0 < n) f h.0

-- an instance is created so
pub same_sprout : (i : Instance) (kind : ℕ) (birth : Birth) (place : Option (ℕ × ℕ)) (seat : Option Seat) (depth : ℕ) → i.kind ≡ kind → i.birth ≡ birth → first i.ancestry ≡ place
    → seat ≡ option_map (λ q. record { comp = q.0; slot = q.1 }) place → 1 + length i.ancestry ≡ depth → sprout_of i ≡ record { kind = kind; birth = birth; seat = seat; depth = depth }
same_sprout i kind birth place seat depth k b f s d =
    ap {B = Sprout} (λ z. record { kind = z; birth = i.birth; seat = seat_of i; depth = 1 + length i.ancestry }) k
    ∙ ap {B = Sprout} (λ z. record { kind = kind; birth = z; seat = seat_of i; depth = 1 + length i.ancestry }) b
    ∙ ap {B = Sprout} (λ z. record { kind = kind; birth = birth; seat = z; depth = 1 + length i.ancestry }) (ap (option_map (λ (q : ℕ × ℕ). record { comp = q.0; slot = q.1 })) f ∙ sym s)
    ∙ ap {B = Sprout} (λ z. record { kind = kind; birth = birth; seat = seat; depth = z }) d

-- ---- the whole tree

module _ (S : Declarations) (D : IsDeclared S) (number m : ℕ) (i : Instance) (xs : List Sprout) (same : m ≡ number) (declared : i.kind < length S.kinds) (small : number + 1000 ≤ 4000000000)
    (under : (q : ℕ × ℕ) → first i.ancestry ≡ Some q → q.0 < number) (are : xs ≡ map sprout_of (tree depth_limit S m i)) where
  whole : xs ≡ map sprout_of (tree depth_limit S number i)
  whole = are ∙ ap (λ k. map sprout_of (tree depth_limit S k i)) same

  pub whole_few : number + length xs ≤ 4294967296
  whole_few = let f = few S D number i declared small under in omega (arith, f, ap length whole)

  pub whole_fits : AreOf S xs
  whole_fits = subst (AreOf S) (sym whole) (of_tree S D number i declared small under)

pub whole_seeds : (S : Declarations) (number m : ℕ) (i : Instance) (xs : List Sprout) (seeds : List Seed) → m ≡ number → xs ≡ map sprout_of (tree depth_limit S m i) → seeds ≡ seeds_in number xs S
    → seeds ≡ seeds_in number (map sprout_of (tree depth_limit S number i)) S
whole_seeds S number m i xs seeds same are e = e ∙ ap (λ l. seeds_in number l S) (are ∙ ap (λ k. map sprout_of (tree depth_limit S k i)) same)
