-- The parts of a tree, what they mean and how they agree.
use Rattle.std.specs.Prelude.{◌≡◌, ◌≢◌, ℕ, zero, suc, ◌+◌, ◌-◌, ◌<◌, ◌≤◌, Bool, true, false, not, ◌&&◌, ◌==◌, ◌⊎◌, if◌then◌else◌, List, [], ◌∷◌, ◌++◌, length, slice_get, count_by, Option, Some, None}
use Rattle.std.specs.List.{fold}
use Rattle.std.specs.Option.{option_map_or, option_and_then, unwrap_or}
use Rattle.kom_tree.specs.declared.family.Origin.{Origin}
use Rattle.kom_tree.specs.declared.family.Links.{Links}
use Rattle.kom_tree.specs.Forest.{Instance, Forest, line_under, hangs_in}

-- the parent of c with the slot there
abbrev pub parent_at : List Origin → ℕ → Option (ℕ × ℕ)
parent_at os c = option_and_then (λ o. o.parent) (slice_get os c)

abbrev pub lives : List Bool → ℕ → Bool
lives bs c = unwrap_or (slice_get bs c) false

abbrev pub child_at : List Links → ℕ → Option ℕ
child_at ls c = option_and_then (λ l. l.child) (slice_get ls c)

abbrev pub sibling_at : List Links → ℕ → Option ℕ
sibling_at ls c = option_and_then (λ l. l.sibling) (slice_get ls c)

-- b was made in a slot of c
abbrev pub hangs_at : List Origin → ℕ → ℕ → Bool
hangs_at os c b = option_map_or (λ q. q.0 == c) (parent_at os b) false

-- c lives in slot s of p
abbrev pub sits : List Origin → List Bool → ℕ → ℕ → ℕ → Bool
sits os bs p s c = lives bs c && hangs_in p s (parent_at os c)

-- who lives in slot s of p, if anyone does
abbrev pub IsSitter : List Origin → List Bool → ℕ → ℕ → Option ℕ → Type 0
IsSitter os bs p s None = (c : ℕ) → sits os bs p s c ≡ false
IsSitter os bs p s (Some c) = sits os bs p s c ≡ true

-- the youngest living child of c whose number is below a bound
unfoldable pub newest : List Origin → List Bool → ℕ → ℕ → Option ℕ
newest os bs c zero = None
newest os bs c (suc b) = if lives bs b && hangs_at os c b then Some b else newest os bs c b

-- one instance more, not yet marked as living or ended
abbrev pub grown : List Instance → Origin → List Instance
grown is o = is ++ record { kind = o.kind; line = line_under is o.parent; living = true } ∷ []

-- all instances as if none had ended
abbrev pub made : List Origin → List Instance
made os = fold grown [] os

-- the instances, each alive where its mark says so
abbrev pub marked : List Instance → List Bool → List Instance
marked [] bs = []
marked (i ∷ is) [] = []
marked (i ∷ is) (b ∷ bs) = record i { living = b } ∷ marked is bs

abbrev pub forest_of : List Origin → List Bool → ℕ → Forest
forest_of os bs room = record { instances = marked (made os) bs; spare = room - length os }

-- the origins and the marks agree: each parent is older than its child and lives while the child does, and a slot holds one
pub record IsForest (os : List Origin) (bs : List Bool) : Type 0 where
  pub marks : length bs ≡ length os
  pub few : length os ≤ 4000000000
  pub root : parent_at os 0 ≡ None
  pub older : (c : ℕ) (q : ℕ × ℕ) → parent_at os c ≡ Some q → q.0 < c
  pub hung : (c : ℕ) → c < length os → parent_at os c ≡ None → c ≡ 0
  pub rooted : (c : ℕ) (q : ℕ × ℕ) → lives bs c ≡ true → parent_at os c ≡ Some q → lives bs q.0 ≡ true
  pub alone : (c d : ℕ) (q : ℕ × ℕ) → lives bs c ≡ true → lives bs d ≡ true → parent_at os c ≡ Some q → parent_at os d ≡ Some q → c ≡ d

-- the chains lead through the living children, the youngest first
pub record IsChained (os : List Origin) (bs : List Bool) (ls : List Links) : Type 0 where
  pub long : length ls ≡ length os
  pub youngest : (c : ℕ) → lives bs c ≡ true → child_at ls c ≡ newest os bs c (length os)
  pub next : (c : ℕ) (q : ℕ × ℕ) → lives bs c ≡ true → parent_at os c ≡ Some q → sibling_at ls c ≡ newest os bs q.0 c

-- ---- while a subtree is being ended

-- who lives has a living parent, but for the children of an instance that ended
abbrev pub IsRootedBut : List Origin → List Bool → ℕ → Type 0
IsRootedBut os bs top = (c : ℕ) (q : ℕ × ℕ) → lives bs c ≡ true → parent_at os c ≡ Some q → q.0 ≢ top → lives bs q.0 ≡ true

-- the parent of c is marked as ended
abbrev pub parent_ended : List Origin → List Bool → ℕ → Bool
parent_ended os bs c = option_map_or (λ q. not (lives bs q.0)) (parent_at os c) false

-- after the top, who lived and has a parent that ended
pub record EndsBelow (os : List Origin) (top : ℕ) (was now : List Bool) : Type 0 where
  pub marks : length now ≡ length was
  pub shrinks : (c : ℕ) → lives now c ≡ true → lives was c ≡ true
  pub gone : lives now top ≡ false
  pub closed : (c : ℕ) (q : ℕ × ℕ) → lives now c ≡ true → parent_at os c ≡ Some q → lives now q.0 ≡ true
  pub cause : (c : ℕ) → lives was c ≡ true → lives now c ≡ false → parent_ended os now c ≡ true

abbrev pub IsAmong : List ℕ → ℕ → Type 0
IsAmong [] c = ⊥
IsAmong (d ∷ ds) c = (c ≡ d) ⊎ IsAmong ds c

-- c is a child of p that the chain from `next` on still comes to
pub record IsAhead (os : List Origin) (next : Option ℕ) (p c : ℕ) : Type 0 where
  pub at : ℕ
  pub is : next ≡ Some at
  pub hangs : hangs_at os p at ≡ true
  pub not_younger : c ≤ at

-- some instances ended, but a living child may have a parent that ended where that parent is pending or the child lies ahead in the chain
pub record IsEnding (os : List Origin) (top : ℕ) (was now : List Bool) (pending : List ℕ) (next : Option ℕ) : Type 0 where
  pub marks : length now ≡ length was
  pub shrinks : (c : ℕ) → lives now c ≡ true → lives was c ≡ true
  pub gone : lives now top ≡ false
  pub closed : (c : ℕ) (q : ℕ × ℕ) → lives now c ≡ true → parent_at os c ≡ Some q → (lives now q.0 ≡ true) ⊎ (IsAmong pending q.0 ⊎ IsAhead os next q.0 c)
  pub cause : (c : ℕ) → lives was c ≡ true → lives now c ≡ false → parent_ended os now c ≡ true
  pub waiting : (c : ℕ) → IsAmong pending c → (lives was c ≡ true) × (lives now c ≡ false)
  pub heading : (c : ℕ) → next ≡ Some c → (lives was c ≡ true) × (parent_ended os now c ≡ true)
  pub room : length pending + count_by (λ b. b) now ≤ length was

-- one more than the number of the next in a chain
abbrev pub place_of : Option ℕ → ℕ
place_of None = 0
place_of (Some c) = suc c
