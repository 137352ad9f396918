-- What the tree of instances is seen as, and what its calls make of it.
use Rattle.std.specs.Prelude.{◌≡◌, ℕ, ◌<◌, Bool, true, false, not, ◌&&◌, ◌==◌, List, [], ◌∷◌, ◌++◌, slice_get, position, Option, Some, None}
use Rattle.std.specs.List.{list_any}
use Rattle.std.specs.Option.{option_map_or}
use Rattle.kom_base.specs.Lists.{first}

-- an instance that was made. Its line is its parent with the slot there, then the parent's line
pub record Instance : Type 0 where
  pub kind : ℕ
  pub line : List (ℕ × ℕ)
  pub living : Bool

-- the instances in order of number, and for how many more there is room
pub record Forest : Type 0 where
  pub instances : List Instance
  pub spare : ℕ

abbrev pub line_of : List Instance → ℕ → List (ℕ × ℕ)
line_of is c = option_map_or (λ i. i.line) (slice_get is c) []

-- the parent of c with the slot there, none for the first instance
abbrev pub parent_of : List Instance → ℕ → Option (ℕ × ℕ)
parent_of is c = first (line_of is c)

abbrev pub is_alive : List Instance → ℕ → Bool
is_alive is c = option_map_or (λ i. i.living) (slice_get is c) false

abbrev pub is_slot : ℕ → ℕ → ℕ × ℕ → Bool
is_slot p s q = q.0 == p && q.1 == s

abbrev pub hangs_in : ℕ → ℕ → Option (ℕ × ℕ) → Bool
hangs_in p s q = option_map_or (is_slot p s) q false

-- the living instance in slot s of p
abbrev pub occupant : List Instance → ℕ → ℕ → Option ℕ
occupant is p s = position (λ i. i.living && hangs_in p s (first i.line)) is

-- where an instance may be made: in an empty slot of a living one, or with no parent as the first of all
abbrev pub MayHang : List Instance → Option (ℕ × ℕ) → Type 0
MayHang is None = is ≡ []
MayHang is (Some q) = (is_alive is q.0 ≡ true) × (occupant is q.0 q.1 ≡ None)

abbrev pub line_under : List Instance → Option (ℕ × ℕ) → List (ℕ × ℕ)
line_under is None = []
line_under is (Some q) = q ∷ line_of is q.0

-- one instance more
abbrev pub with_child : List Instance → Option (ℕ × ℕ) → ℕ → List Instance
with_child is q kind = is ++ record { kind = kind; line = line_under is q; living = true } ∷ []

-- the instance after all that lies in slot s of p ended
abbrev pub felled : ℕ → ℕ → Instance → Instance
felled p s i = record i { living = i.living && not (list_any (is_slot p s) i.line) }

abbrev pub is_under : ℕ → Option (ℕ × ℕ) → Bool
is_under p q = option_map_or (λ q. q.0 == p) q false

-- a living child of p; none where p has none
abbrev pub IsLivingChild : List Instance → ℕ → Option ℕ → Type 0
IsLivingChild is p None = (c : ℕ) → is_alive is c ≡ true → is_under p (parent_of is c) ≡ false
IsLivingChild is p (Some c) = (is_alive is c ≡ true) × (is_under p (parent_of is c) ≡ true)

-- each line goes on with that of the parent, which is older; a living instance has a living parent and
-- is the one in its slot
pub record IsGrown (is : List Instance) : Type 0 where
  pub lines : (c : ℕ) → line_of is c ≡ line_under is (parent_of is c)
  pub older : (c : ℕ) (q : ℕ × ℕ) → parent_of is c ≡ Some q → q.0 < c
  pub rooted : (c : ℕ) (q : ℕ × ℕ) → is_alive is c ≡ true → parent_of is c ≡ Some q → is_alive is q.0 ≡ true
  pub seated : (c : ℕ) (q : ℕ × ℕ) → is_alive is c ≡ true → parent_of is c ≡ Some q → occupant is q.0 q.1 ≡ Some c
  pub sitting : (p s c : ℕ) → occupant is p s ≡ Some c → (is_alive is c ≡ true) × (parent_of is c ≡ Some (p, s))
