-- The sprouts of a tree, in order of number.
use Rattle.std.proofs.Common.{◌≡◌, ℕ, zero, suc, ◌+◌, ◌-◌, ◌<◌, ◌≤◌, refl, sym, ap, ◌∙◌, subst, List, [], ◌∷◌, ◌++◌, length, get_or, take, Option, Some, None, ◌⊎◌, inl, inr, arith}
use Rattle.std.specs.Prelude.{map}
use Rattle.std.specs.List.{enumerate_from}
use Rattle.std.specs.Option.{option_map_or}
use Rattle.std.proofs.lemmas.List.{append_assoc, append-nil, length-append, take_all, take_more, get_or_past, map-append, length-map}
use Rattle.std.proofs.lemmas.List.FromFn.{get_or-enumerate_from, length-enumerate_from}
use Rattle.kom_lang.specs.Declarations.{Declarations, kind_of, no_kind}
use Rattle.kom_lang.specs.declared.body.Birth.TheVariants.{Args}
use Rattle.kom_lang.specs.declared.kind.SlotDecl.{SlotDecl}
use Rattle.kom_lang.specs.declared.kind.Child.{Child}
use Rattle.kom_record.specs.Instances.{Instance, tree, child_tree, child_trees}
use Rattle.kom_births.specs.declared.sprout.Sprout.{Sprout}
use Rattle.kom_births.specs.declared.sprout.Seat.{Seat}
use Rattle.kom_births.specs.Sprouts.{sprout_of, HasTree, HasTrees}

-- the tree in one slot more
more_slots : (f : ℕ → Instance → List Instance) (p : ℕ) (a : List (ℕ × ℕ)) (n : ℕ) (xs : List (ℕ × SlotDecl)) (y : ℕ × SlotDecl)
    → child_trees f p a n (xs ++ y ∷ []) ≡ child_trees f p a n xs ++ child_tree f p a (n + length (child_trees f p a n xs)) y
more_slots f p a n [] y = append-nil (child_tree f p a n y) ∙ ap (λ m. child_tree f p a m y) (let e : n ≡ n + 0 = omega arith in e)
more_slots f p a n (x ∷ xs) y =
    let here = child_tree f p a n x in
    let m = n + length here in
    let rest = child_trees f p a m xs in
    ap (λ l. here ++ l) (more_slots f p a m xs y)
    ∙ sym (append_assoc here rest (child_tree f p a (m + length rest) y))
    ∙ ap (λ k. (here ++ rest) ++ child_tree f p a k y) (let e : m + length rest ≡ n + length (here ++ rest) = omega (arith, length-append here rest) in e)

module _ (S : Declarations) where
  pub no_trees : (number levels parent depth : ℕ) (old : List Sprout) → HasTrees S number levels parent depth [] old old
  no_trees number levels parent depth old a h = sym (append-nil old)

  -- one slot more, with its number
  pub trees_more : (number levels parent depth : ℕ) (slots : List SlotDecl) (s : ℕ) (d : SlotDecl) (old mid new : List Sprout) → s < length slots → d ≡ get_or slots s d
      → HasTrees S number levels parent depth (take s (enumerate_from 0 slots)) old mid
      → HasTrees S number levels parent depth ((s, d) ∷ []) mid new
      → HasTrees S number levels parent depth (take (s + 1) (enumerate_from 0 slots)) old new
  trees_more number levels parent depth slots s d old mid new l g h k a e =
      let T = tree levels S in
      let xs = take s (enumerate_from 0 slots) in
      let y : ℕ × SlotDecl = (s, d) in
      let n = number + length old in
      let so_far = child_trees T parent a n xs in
      let at : get_or (enumerate_from 0 slots) s (0, d) ≡ y = get_or-enumerate_from 0 slots s (0, d) l ∙ ap (λ m. (m, get_or slots s d)) (let z : 0 + s ≡ s = omega arith in z) ∙ ap (λ e. (s, e)) (sym g) in
      let all : take (s + 1) (enumerate_from 0 slots) ≡ xs ++ y ∷ [] = take_more (enumerate_from 0 slots) s (0, d) (omega (arith, l, length-enumerate_from 0 slots)) ∙ ap (λ q. xs ++ q ∷ []) at in
      let next : number + length mid ≡ n + length so_far = omega (arith, ap length (h a e), length-append old (map sprout_of so_far), length-map so_far sprout_of) in
      k a e
      ∙ ap (λ m. mid ++ map sprout_of (child_trees T parent a m (y ∷ []))) next
      ∙ ap (λ l. mid ++ map sprout_of l) (append-nil (child_tree T parent a (n + length so_far) y))
      ∙ ap (λ l. l ++ map sprout_of (child_tree T parent a (n + length so_far) y)) (h a e)
      ∙ append_assoc old (map sprout_of so_far) (map sprout_of (child_tree T parent a (n + length so_far) y))
      ∙ ap (λ l. old ++ l) (sym (map-append sprout_of so_far (child_tree T parent a (n + length so_far) y)))
      ∙ ap (λ l. old ++ map sprout_of l) (sym (more_slots T parent a n xs y))
      ∙ ap (λ l. old ++ map sprout_of (child_trees T parent a n l)) (sym all)

  pub trees_all : (number levels parent depth : ℕ) (slots declared : List SlotDecl) (s : ℕ) (old new : List Sprout) → slots ≡ declared → length slots ≤ s → HasTrees S number levels parent depth (take s (enumerate_from 0 slots)) old new
      → HasTrees S number levels parent depth (enumerate_from 0 declared) old new
  trees_all number levels parent depth slots declared s old new e l h =
      subst (λ xs. HasTrees S number levels parent depth xs old new) (take_all s (enumerate_from 0 slots) (omega (arith, l, length-enumerate_from 0 slots)) ∙ ap (enumerate_from 0) e) h

  pub no_child : (number levels depth : ℕ) (at : Seat) (slot : SlotDecl) (old : List Sprout) → slot.child ≡ None → HasTrees S number levels at.comp depth ((at.slot, slot) ∷ []) old old
  no_child number levels depth at slot old e a h =
      sym (append-nil old) ∙ ap (λ (c : Option Child). old ++ map sprout_of (option_map_or (λ child. tree levels S (number + length old) (record { kind = child.kind; birth = Args child.args; ancestry = (at.comp, at.slot) ∷ a })) c [] ++ [])) (sym e)

  pub one_child : (number levels depth : ℕ) (at : Seat) (slot : SlotDecl) (child : Child) (top : Sprout) (old new : List Sprout) → slot.child ≡ Some child
      → top ≡ record { kind = child.kind; birth = Args child.args; seat = Some at; depth = depth + 1 } → HasTree S number levels top old new → HasTrees S number levels at.comp depth ((at.slot, slot) ∷ []) old new
  one_child number levels depth at slot child top old new e t h a l =
      let i : Instance = record { kind = child.kind; birth = Args child.args; ancestry = (at.comp, at.slot) ∷ a } in
      let same : 1 + length i.ancestry ≡ depth + 1 = omega (arith, l) in
      h i (ap {B = Sprout} (λ d. record { kind = child.kind; birth = Args child.args; seat = Some at; depth = d }) same ∙ sym t)
      ∙ ap (λ l. old ++ map sprout_of l) (sym (append-nil (tree levels S (number + length old) i)))
      ∙ ap (λ (c : Option Child). old ++ map sprout_of (option_map_or (λ child. tree levels S (number + length old) (record { kind = child.kind; birth = Args child.args; ancestry = (at.comp, at.slot) ∷ a })) c [] ++ [])) (sym e)

  -- ---- an instance

  only_node : (levels n : ℕ) (i : Instance) → kind_of S i.kind ≡ no_kind → i ∷ [] ≡ tree levels S n i
  only_node zero n i e = refl
  only_node (suc l) n i e = ap (λ k. i ∷ child_trees (tree l S) n i.ancestry (suc n) (enumerate_from 0 k.slots)) (sym e)

  -- all of a tree that is built from nothing
  pub from_nothing : (number levels : ℕ) (top : Sprout) (old new : List Sprout) → old ≡ [] → HasTree S number levels top old new → (i : Instance) → sprout_of i ≡ top → new ≡ map sprout_of (tree levels S number i)
  from_nothing number levels top old new e h i k =
      h i k ∙ ap (λ l. l ++ map sprout_of (tree levels S (number + length old) i)) e ∙ ap (λ m. map sprout_of (tree levels S m i)) (let z : number + length old ≡ number = omega (arith, ap length e) in z)

  pub alone : (number levels : ℕ) (top : Sprout) (old new : List Sprout) → (levels ≡ 0) ⊎ (length S.kinds ≤ top.kind) → new ≡ old ++ top ∷ [] → HasTree S number levels top old new
  alone number levels top old new why e i h = e ∙ ap (λ x. old ++ x ∷ []) (sym h) ∙ ap (λ l. old ++ map sprout_of l) (only why)
    where
      only : (levels ≡ 0) ⊎ (length S.kinds ≤ top.kind) → i ∷ [] ≡ tree levels S (number + length old) i
      only (inl z) = ap (λ m. tree m S (number + length old) i) (sym z)
      only (inr z) = only_node levels (number + length old) i (ap (λ (t : Sprout). kind_of S t.kind) h ∙ get_or_past S.kinds top.kind no_kind z)

  pub with_children : (number levels parent : ℕ) (top : Sprout) (old mid new : List Sprout) → 0 < levels → parent ≡ number + length old → mid ≡ old ++ top ∷ []
      → HasTrees S number (levels - 1) parent top.depth (enumerate_from 0 (kind_of S top.kind).slots) mid new → HasTree S number levels top old new
  with_children number levels parent top old mid new l p e h i k =
      let n = number + length old in
      let T = tree (levels - 1) S in
      let next : number + length mid ≡ suc n = omega (arith, ap length e, length-append old (top ∷ [])) in
      h i.ancestry (ap (λ (t : Sprout). t.depth) k)
      ∙ ap (λ m. mid ++ map sprout_of (child_trees T parent i.ancestry m (enumerate_from 0 (kind_of S top.kind).slots))) next
      ∙ ap (λ q. mid ++ map sprout_of (child_trees T q i.ancestry (suc n) (enumerate_from 0 (kind_of S top.kind).slots))) p
      ∙ ap (λ (t : Sprout). mid ++ map sprout_of (child_trees T n i.ancestry (suc n) (enumerate_from 0 (kind_of S t.kind).slots))) (sym k)
      ∙ ap (λ l. l ++ map sprout_of (child_trees T n i.ancestry (suc n) (enumerate_from 0 (kind_of S i.kind).slots))) (e ∙ ap (λ x. old ++ x ∷ []) (sym k))
      ∙ append_assoc old (sprout_of i ∷ []) (map sprout_of (child_trees T n i.ancestry (suc n) (enumerate_from 0 (kind_of S i.kind).slots)))
      ∙ ap (λ m. old ++ map sprout_of (tree m S n i)) (let z : suc (levels - 1) ≡ levels = omega (arith, l) in z)
