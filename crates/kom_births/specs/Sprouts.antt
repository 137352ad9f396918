-- The instances of a tree that is to be created, before their channels are laid.
use Rattle.std.specs.Prelude.{◌≡◌, ◌≤◌, ◌<◌, ◌^◌, ℕ, suc, ◌+◌, Bool, false, ◌&&◌, ◌==◌, if◌then◌else◌, List, [], ◌∷◌, ◌++◌, length, map, slice_get, Option, Some, None}
use Rattle.std.specs.Option.{option_map, option_map_or}
use Rattle.kom_base.specs.Lists.{either, first}
use Rattle.kom_lang.specs.Declarations.{Declarations}
use Rattle.kom_lang.specs.declared.kind.SlotDecl.{SlotDecl}
use Rattle.kom_record.specs.Instances.{Instance, tree, child_trees}
use Rattle.kom_births.specs.declared.sprout.Sprout.{Sprout}
use Rattle.kom_births.specs.declared.sprout.Seat.{Seat}

-- the slot of the parent in which an instance is created; none for the root
abbrev pub seat_of : Instance → Option Seat
seat_of i = option_map (λ q. record { comp = q.0; slot = q.1 }) (first i.ancestry)

abbrev pub sprout_of : Instance → Sprout
sprout_of i = record { kind = i.kind; birth = i.birth; seat = seat_of i; depth = 1 + length i.ancestry }

-- the tree of this instance stands behind the sprouts that were there, of which the first has a number
abbrev pub HasTree : Declarations → ℕ → ℕ → Sprout → List Sprout → List Sprout → Type 0
HasTree S number levels top old new = (i : Instance) → sprout_of i ≡ top → new ≡ old ++ map sprout_of (tree levels S (number + length old) i)

-- the trees of the children in some slots of an instance of that depth stand there
abbrev pub HasTrees : Declarations → ℕ → ℕ → ℕ → ℕ → List (ℕ × SlotDecl) → List Sprout → List Sprout → Type 0
HasTrees S number levels parent depth slots old new =
    (ancestry : List (ℕ × ℕ)) → 1 + length ancestry ≡ depth → new ≡ old ++ map sprout_of (child_trees (tree levels S) parent ancestry (number + length old) slots)

abbrev pub sits_in : ℕ → ℕ → Option Seat → Bool
sits_in p s seat = option_map_or (λ q. q.comp == p && q.slot == s) seat false

-- the number of the last of these that is a child of p in its slot s; the first of them has the number n
abbrev pub child_in : ℕ → ℕ → ℕ → List Sprout → Option ℕ
child_in p s n [] = None
child_in p s n (x ∷ xs) = either (child_in p s (suc n) xs) (if sits_in p s x.seat then Some n else None)

-- the parent's number has 32 bits
abbrev pub IsSmall : Option Seat → Type 0
IsSmall seat = (q : Seat) → seat ≡ Some q → q.comp < 2 ^ 32

-- each is of a type of the system, and its parent's number has 32 bits
abbrev pub AreOf : Declarations → List Sprout → Type 0
AreOf S sprouts = (k : ℕ) (x : Sprout) → slice_get sprouts k ≡ Some x → (x.kind < length S.kinds) × IsSmall x.seat

-- the root has depth 1, and whoever is created in a slot of an older one is deeper
abbrev pub IsDeep : ℕ → Option (ℕ × ℕ) → ℕ → Type 0
IsDeep number None depth = depth ≡ 1
IsDeep number (Some q) depth = (q.0 < number) × (2 ≤ depth)
