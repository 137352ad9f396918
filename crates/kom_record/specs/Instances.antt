-- The instances of components, the occupants of slots, and who is alive. Each is asked for after a
-- list of acts, the latest first.
use Rattle.std.specs.Prelude.{ℕ, zero, suc, ◌+◌, Bool, false, not, ◌&&◌, ◌==◌, nat_lt, if◌then◌else◌, List, [], ◌∷◌, ◌++◌, length, slice_get, Option, Some, None}
use Rattle.std.specs.List.{list_any, enumerate_from}
use Rattle.std.specs.Option.{option_map_or}
use Rattle.kom_base.specs.Lists.{either, first}
use Rattle.kom_lang.specs.Declarations.{Declarations, kind_of}
use Rattle.kom_lang.specs.declared.kind.SlotDecl.{SlotDecl}
use Rattle.kom_lang.specs.declared.body.Birth.{Birth}
use Rattle.kom_lang.specs.declared.body.Birth.TheVariants.{Args}
use Rattle.kom_lang.specs.declared.body.Effect.{Effect}
use Rattle.kom_lang.specs.declared.body.Effect.TheVariants as effect
use Rattle.kom_record.specs.Entries.{Act}

-- An instance of a component type, with what it was created from. Its ancestry begins with its
-- parent's number and the slot of the parent in which it is; the parent's own ancestry follows.
-- That of the root is empty.
pub record Instance : Type 0 where
  pub kind : ℕ
  pub birth : Birth
  pub ancestry : List (ℕ × ℕ)

-- the greatest depth of a tree; the root has depth 1
abbrev pub depth_limit : ℕ
depth_limit = 16

-- the tree in one slot of a parent, empty where the slot has no type; `subtree` gives the tree of a
-- child with a number
abbrev pub child_tree : (ℕ → Instance → List Instance) → ℕ → List (ℕ × ℕ) → ℕ → ℕ × SlotDecl → List Instance
child_tree subtree parent ancestry next slot =
    option_map_or (λ child. subtree next (record { kind = child.kind; birth = Args child.args; ancestry = (parent, slot.0) ∷ ancestry })) slot.1.child []

-- the trees in the slots of a parent, one after another, numbered from `next` on
abbrev pub child_trees : (ℕ → Instance → List Instance) → ℕ → List (ℕ × ℕ) → ℕ → List (ℕ × SlotDecl) → List Instance
child_trees subtree parent ancestry next [] = []
child_trees subtree parent ancestry next (slot ∷ slots) =
    let tree = child_tree subtree parent ancestry next slot in
    tree ++ child_trees subtree parent ancestry (next + length tree) slots

-- The tree of an instance with the number n, in order of number: the instance, then for each of
-- its typed slots in order of declaration the tree of the child. `levels` bounds how deep it goes
-- below the instance.
abbrev pub tree : ℕ → Declarations → ℕ → Instance → List Instance
tree zero S n i = i ∷ []
tree (suc levels) S n i = i ∷ child_trees (tree levels S) n i.ancestry (suc n) (enumerate_from 0 (kind_of S i.kind).slots)

-- the act's component is p, and t, which the act names, is s
abbrev pub is_own : Act → ℕ → ℕ → ℕ → Bool
is_own a t p s = a.by == p && t == s

module _ (S : Declarations) where
  -- the root with its children, as the record begins
  unfoldable pub root_tree : List Instance
  root_tree = tree depth_limit S 0 (record { kind = S.root.kind; birth = Args S.root.args; ancestry = [] })

  unfoldable pub ancestry_of : List Instance → ℕ → List (ℕ × ℕ)
  ancestry_of instances c = option_map_or (λ i. i.ancestry) (slice_get instances c) []

  -- the tree that p creates in a slot, when these instances are there already
  unfoldable pub created : List Instance → ℕ → ℕ → ℕ → Birth → List Instance
  created instances p slot kind birth =
      tree depth_limit S (length instances) (record { kind = kind; birth = birth; ancestry = (p, slot) ∷ ancestry_of instances p })

  abbrev pub born_after : Act → Effect → List Instance → List Instance
  born_after a (effect.Create slot kind birth) old = old ++ created old a.by slot kind birth
  born_after a e old = old

  -- all instances that were ever created, in order of number
  unfoldable pub born : List Act → List Instance
  born [] = root_tree
  born (a ∷ done) = born_after a a.effect (born done)

  abbrev pub is_child : ℕ → ℕ → Instance → Bool
  is_child p s i = option_map_or (λ q. q.0 == p && q.1 == s) (first i.ancestry) false

  -- the number of the last of these instances that is a child of p in its slot s; the first of
  -- them has the number n
  unfoldable pub child_among : ℕ → ℕ → ℕ → List Instance → Option ℕ
  child_among p s n [] = None
  child_among p s n (i ∷ is) = either (child_among p s (suc n) is) (if is_child p s i then Some n else None)

  abbrev pub occupant_after : List Act → Act → ℕ → ℕ → Effect → Option ℕ → Option ℕ
  occupant_after done a p s (effect.Create slot kind birth) old = either (child_among p s (length (born done)) (created (born done) a.by slot kind birth)) old
  occupant_after done a p s (effect.Destroy t) old = if is_own a t p s then None else old
  occupant_after done a p s e old = old

  -- the occupant of slot s of p: the last instance that was created there, none since p destroyed
  -- what is in the slot
  unfoldable pub occupant : List Act → ℕ → ℕ → Option ℕ
  occupant [] p s = child_among p s 0 root_tree
  occupant (a ∷ done) p s = occupant_after done a p s a.effect (occupant done p s)

  abbrev pub alive_after : List Act → Act → ℕ → Effect → Bool → Bool
  alive_after done a c (effect.Create slot kind birth) old = if nat_lt c (length (born done)) then old else nat_lt c (length (born (a ∷ done)))
  alive_after done a c (effect.Destroy t) old = old && not (list_any (λ q. is_own a t q.0 q.1) (ancestry_of (born done) c))
  alive_after done a c e old = old

  -- c was created, and since then no slot in which it is, itself or by an ancestor, was destroyed
  unfoldable pub alive : List Act → ℕ → Bool
  alive [] c = nat_lt c (length root_tree)
  alive (a ∷ done) c = alive_after done a c a.effect (alive done c)
