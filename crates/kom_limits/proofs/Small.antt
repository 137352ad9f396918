-- The trees of a well-formed system are small.
use Rattle.std.proofs.Common.{◌≡◌, ℕ, zero, suc, ◌+◌, ◌*◌, ◌<◌, ◌≤◌, ◌&&◌, Bool, true, false, refl, ap, ◌∙◌, List, [], ◌∷◌, ◌++◌, length, map, Option, Some, None, arith}
use Rattle.std.specs.Prelude.{slice_get, nat_lt}
use Rattle.std.specs.List.{enumerate_from, flat_map, list_all, sum_by}
use Rattle.std.specs.Option.{option_map_or}
use Rattle.std.proofs.lemmas.Bool.{ltb-true, leb-true}
use Rattle.std.proofs.lemmas.List.{get_or_past, length-append, length-map}
use Rattle.std.proofs.lemmas.List.FromFn.{length-enumerate_from}
use Rattle.std.proofs.lemmas.List.Sums.{sum_by-cons, sum_by-append}
use Rattle.kom_lang.specs.Declarations.{Declarations, child_height, greatest, kind_of, no_kind, height, height_of}
use Rattle.kom_lang.specs.declared.kind.Kind.{Kind}
use Rattle.kom_lang.specs.declared.kind.Child.{Child}
use Rattle.kom_lang.specs.declared.kind.SlotDecl.{SlotDecl}
use Rattle.kom_lang.specs.declared.body.Birth.TheVariants.{Args}
use Rattle.kom_lang.specs.declared.body.Effect.{Effect}
use Rattle.kom_lang.specs.declared.body.Effect.TheVariants as effect
use Rattle.kom_system.specs.Fitting.{child_fits, slot_fits}
use Rattle.kom_system.specs.WellFormed.{IsDeclared, tree_count}
use Rattle.kom_record.specs.Entries.{Act}
use Rattle.kom_record.specs.Instances.{Instance, depth_limit, tree, child_tree, child_trees, ancestry_of, born, born_after, created, root_tree}
use Rattle.kom_record.specs.Channels.{Environment, Own, channels, channels_of}
use Rattle.kom_limits.specs.Laws.{TreesAreSmall, InstancesAreFew, FewAfter, channel_count}

both : (a b : Bool) → (a && b) ≡ true → (a ≡ true) × (b ≡ true)
both true b e = (refl, e)
both false b e = absurd cc

not_past : (kinds : List Kind) (k : ℕ) → k < length kinds → slice_get kinds k ≡ None → ⊥
not_past [] k h e = absurd (omega (arith, h))
not_past (x ∷ xs) zero h e = absurd cc
not_past (x ∷ xs) (suc k) h e = not_past xs k (omega (arith, h)) e

module _ (S : Declarations) (D : IsDeclared S) where
  -- the slots of a declared type hold declared types
  pub slots_fit : (k : ℕ) → k < length S.kinds → list_all (slot_fits S) (kind_of S k).slots ≡ true
  slots_fit k h = (both _ _ (both _ _ (both _ _ (D.kinds k h).parts).1).0).1

  pub some_height : (n : ℕ) (kinds : List Kind) (k : ℕ) → 0 < n → k < length kinds → 0 < height n kinds k
  some_height zero kinds k l h = absurd (omega (arith, l))
  some_height (suc n) kinds k l h = at (slice_get kinds k) refl
    where
      at : (o : Option Kind) → slice_get kinds k ≡ o → 0 < option_map_or (λ (kind : Kind). 1 + greatest (map (child_height (height n kinds)) kind.slots)) (slice_get kinds k) 0
      at None e = absurd (not_past kinds k h e)
      at (Some kind) e = omega (arith, ap (λ o. option_map_or (λ (kind : Kind). 1 + greatest (map (child_height (height n kinds)) kind.slots)) o 0) e)

  module _ (adds : Kind → ℕ) where
    abbrev weight : List Instance → ℕ
    weight is = sum_by (λ i. adds (kind_of S i.kind)) is

    abbrev Bounds : ℕ → Type 0
    Bounds levels = (c n : ℕ) (i : Instance) → i.kind < length S.kinds → height_of S i.kind ≤ c → weight (tree levels S n i) ≤ tree_count adds c S i.kind

    abbrev in_slot : ℕ → SlotDecl → ℕ
    in_slot c s = option_map_or (λ child. tree_count adds c S child.kind) s.child 0

    one_slot : (levels c h : ℕ) → Bounds levels → (parent : ℕ) (line : List (ℕ × ℕ)) (next s : ℕ) (o : Option Child) → h ≤ suc c
        → option_map_or (λ child. nat_lt (height_of S child.kind) h) o true ≡ true → option_map_or (child_fits S) o true ≡ true
        → weight (option_map_or (λ child. tree levels S next (record { kind = child.kind; birth = Args child.args; ancestry = (parent, s) ∷ line })) o []) ≤ option_map_or (λ child. tree_count adds c S child.kind) o 0
    one_slot levels c h b parent line next s None l e f = omega arith
    one_slot levels c h b parent line next s (Some child) l e f =
        let low = ltb-true (height_of S child.kind) h e in
        b c next (record { kind = child.kind; birth = Args child.args; ancestry = (parent, s) ∷ line }) (ltb-true child.kind (length S.kinds) (both _ _ f).0) (omega (arith, low, l))

    all_slots : (levels c h : ℕ) → Bounds levels → (parent : ℕ) (line : List (ℕ × ℕ)) (next a : ℕ) (ss : List SlotDecl) → h ≤ suc c
        → list_all (λ s. option_map_or (λ child. nat_lt (height_of S child.kind) h) s.child true) ss ≡ true → list_all (slot_fits S) ss ≡ true
        → weight (child_trees (tree levels S) parent line next (enumerate_from a ss)) ≤ sum_by (in_slot c) ss
    all_slots levels c h b parent line next a [] l e f = omega arith
    all_slots levels c h b parent line next a (s ∷ ss) l e f =
        let one = child_tree (tree levels S) parent line next (a, s) in
        let p = both _ _ e in
        let q = both _ _ f in
        let x = one_slot levels c h b parent line next a s.child l p.0 q.0 in
        let y = all_slots levels c h b parent line (next + length one) (a + 1) ss l p.1 q.1 in
        omega (arith, x, y, sum_by-append (λ i. adds (kind_of S i.kind)) one (child_trees (tree levels S) parent line (next + length one) (enumerate_from (a + 1) ss)), sum_by-cons (in_slot c) s ss)

    bounds : (levels : ℕ) → Bounds levels
    bounds levels zero n i k h = let z = some_height (length S.kinds) S.kinds i.kind (omega (arith, k)) k in absurd (omega (arith, h, z))
    bounds zero (suc c) n i k h = omega (arith, sum_by-cons (λ i. adds (kind_of S i.kind)) i [])
    bounds (suc levels) (suc c) n i k h =
        let r = all_slots levels c (height_of S i.kind) (bounds levels) n i.ancestry (suc n) 0 (kind_of S i.kind).slots h (D.kinds i.kind k).tree.children (slots_fit i.kind k) in
        omega (arith, r, sum_by-cons (λ i. adds (kind_of S i.kind)) i (child_trees (tree levels S) n i.ancestry (suc n) (enumerate_from 0 (kind_of S i.kind).slots)))

    -- a type that is not declared has no slots
    alone : (n : ℕ) (i : Instance) → length S.kinds ≤ i.kind → tree depth_limit S n i ≡ i ∷ []
    alone n i h = ap (λ (k : Kind). i ∷ child_trees (tree 15 S) n i.ancestry (suc n) (enumerate_from 0 k.slots)) (get_or_past S.kinds i.kind no_kind h)

    by_kind : {P : Type 0} (a b : ℕ) → (a < b → P) → (b ≤ a → P) → P
    by_kind zero zero l g = g (omega arith)
    by_kind zero (suc b) l g = l (omega arith)
    by_kind (suc a) zero l g = g (omega arith)
    by_kind (suc a) (suc b) l g = by_kind a b (λ h. l (omega (arith, h))) (λ h. g (omega (arith, h)))

    pub weighs : (n : ℕ) (i : Instance) (most : ℕ) → ((k : ℕ) → k < length S.kinds → tree_count adds 16 S k ≤ most) → adds no_kind ≤ most → weight (tree depth_limit S n i) ≤ most
    weighs n i most f g = by_kind i.kind (length S.kinds)
        (λ k. let b = bounds depth_limit 16 n i k (D.kinds i.kind k).tree.height in let m = f i.kind k in omega (arith, b, m))
        (λ k. let e = ap weight (alone n i k) in let c = sum_by-cons (λ i. adds (kind_of S i.kind)) i [] in let z = ap adds (get_or_past S.kinds i.kind no_kind k) in omega (arith, e, c, z, g))

  ones : (is : List Instance) → sum_by (λ i. 1) is ≡ length is
  ones [] = refl
  ones (i ∷ is) = let e = ones is in omega (arith, e, sum_by-cons (λ i. 1) i is)

  pub few_instances : (n : ℕ) (i : Instance) → length (tree depth_limit S n i) ≤ 1000
  few_instances n i = let w = weighs (λ k. 1) n i 1000 (λ k l. (D.kinds k l).tree.instances) (omega arith) in omega (arith, w, ones (tree depth_limit S n i))

  pub few_channels : (n : ℕ) (i : Instance) → channel_count S (tree depth_limit S n i) ≤ 1000
  few_channels n i = weighs (λ k. length k.channels) n i 1000 (λ k l. (D.kinds k l).tree.channels) (omega arith)

  -- ---- after some effects

  abbrev Few : List Instance → ℕ → Type 0
  Few is k = (length is ≤ 1000 + 1000 * k) × (channel_count S is ≤ 1000 + 1000 * k)

  more_few : (is news : List Instance) (k : ℕ) → Few is k → length news ≤ 1000 → channel_count S news ≤ 1000 → Few (is ++ news) (suc k)
  more_few is news k f a b =
      let x = f.0 in let y = f.1 in
      (omega (arith, x, a, length-append is news), omega (arith, y, b, sum_by-append (λ i. length (kind_of S i.kind).channels) is news))

  same_few : (is : List Instance) (k : ℕ) → Few is k → Few is (suc k)
  same_few is k f = let x = f.0 in let y = f.1 in (omega (arith, x), omega (arith, y))

  by_effect : (done : List Act) (a : Act) (e : Effect) → Few (born S done) (length done) → Few (born_after S a e (born S done)) (suc (length done))
  unfolding created
  by_effect done a (effect.Create slot kind birth) f =
      let i : Instance = record { kind = kind; birth = birth; ancestry = (a.by, slot) ∷ ancestry_of S (born S done) a.by } in
      more_few (born S done) (tree depth_limit S (length (born S done)) i) (length done) f (few_instances (length (born S done)) i) (few_channels (length (born S done)) i)
  by_effect done a (effect.Trigger p e) f = same_few (born S done) (length done) f
  by_effect done a (effect.Answer e) f = same_few (born S done) (length done) f
  by_effect done a (effect.Start s) f = same_few (born S done) (length done) f
  by_effect done a (effect.Stop s) f = same_few (born S done) (length done) f
  by_effect done a (effect.Destroy s) f = same_few (born S done) (length done) f
  by_effect done a (effect.Dump s) f = same_few (born S done) (length done) f
  by_effect done a (effect.Hold k) f = same_few (born S done) (length done) f
  by_effect done a (effect.Resume k) f = same_few (born S done) (length done) f
  by_effect done a (effect.Unplug k d) f = same_few (born S done) (length done) f
  by_effect done a (effect.Plug k d p) f = same_few (born S done) (length done) f
  by_effect done a effect.Escalate f = same_few (born S done) (length done) f

  few_born : (done : List Act) → Few (born S done) (length done)
  unfolding born root_tree
  few_born [] =
      let i : Instance = record { kind = S.root.kind; birth = Args S.root.args; ancestry = [] } in
      let a = few_instances 0 i in
      let b = few_channels 0 i in
      (omega (arith, a), omega (arith, b))
  few_born (a ∷ done) = by_effect done a a.effect (few_born done)

  own_count : (n : ℕ) (is : List Instance) → length (flat_map (channels_of S) (enumerate_from n is)) ≡ channel_count S is
  own_count n [] = refl
  own_count n (i ∷ is) =
      let a = length-append (channels_of S (n, i)) (flat_map (channels_of S) (enumerate_from (n + 1) is)) in
      let b : length (channels_of S (n, i)) ≡ length (kind_of S i.kind).channels = length-map (enumerate_from 0 (kind_of S i.kind).channels) (λ k. Own n k.0) ∙ length-enumerate_from 0 (kind_of S i.kind).channels in
      let r = own_count (n + 1) is in
      let s = sum_by-cons (λ i. length (kind_of S i.kind).channels) i is in
      omega (arith, a, b, r, s)

  pub few_ports : length (kind_of S S.root.kind).ports ≤ 16
  few_ports = leb-true (length (kind_of S S.root.kind).ports) 16 (both _ _ (both _ _ (D.kinds S.root.kind (ltb-true S.root.kind (length S.kinds) (both _ _ D.root).0)).parts).0).0

  few_after : (done : List Act) → FewAfter S done
  unfolding channels
  few_after done =
      let env = map (λ q. Environment q.0) (enumerate_from 0 (kind_of S S.root.kind).ports) in
      let a = length-append env (flat_map (channels_of S) (enumerate_from 0 (born S done))) in
      let b : length env ≡ length (kind_of S S.root.kind).ports = length-map (enumerate_from 0 (kind_of S S.root.kind).ports) (λ q. Environment q.0) ∙ length-enumerate_from 0 (kind_of S S.root.kind).ports in
      let f = few_born done in
      let x = f.0 in let y = f.1 in
      record { instances = x; channels_few = omega (arith, a, b, y, own_count 0 (born S done), few_ports) }

pub trees_are_small : TreesAreSmall
trees_are_small S n i D = (few_instances S D n i, few_channels S D n i)

pub instances_are_few : InstancesAreFew
instances_are_few S done D = few_after S D done
