-- What one change of a chain leaves.
use Rattle.std.specs.Prelude.{◌≡◌, ◌≢◌, ℕ, ◌<◌, Bool, true, false, List, length, slice_set, Option, Some, None, vec_capacity}
use Rattle.kom_tree.specs.declared.family.Family.{Family}
use Rattle.kom_tree.specs.Parts.{lives, child_at, sibling_at, hangs_at, IsChained}

-- nothing but the links is another
pub record KeepsOrigins (old new : Family) : Type 0 where
  pub origins : new.origins ≡ old.origins
  pub long : length new.links.items ≡ length old.links.items
  pub room : vec_capacity new.links ≡ vec_capacity old.links

pub record LeadsTo (old new : Family) (c : ℕ) (to : Option ℕ) : Type 0 where
  pub keeps : KeepsOrigins old new
  pub here : child_at new.links.items c ≡ to
  pub others : (d : ℕ) → d ≢ c → child_at new.links.items d ≡ child_at old.links.items d
  pub siblings : (d : ℕ) → sibling_at new.links.items d ≡ sibling_at old.links.items d

pub record GoesOnTo (old new : Family) (c : ℕ) (to : Option ℕ) : Type 0 where
  pub keeps : KeepsOrigins old new
  pub here : sibling_at new.links.items c ≡ to
  pub others : (d : ℕ) → d ≢ c → sibling_at new.links.items d ≡ sibling_at old.links.items d
  pub children : (d : ℕ) → child_at new.links.items d ≡ child_at old.links.items d

abbrev pub IsPlace : Option (ℕ × ℕ) → ℕ → Type 0
IsPlace None n = Unit {0}
IsPlace (Some q) n = q.0 < n

-- n heads the chain of its parent, if it has one, before who headed it
abbrev pub Hangs : Family → Family → Option (ℕ × ℕ) → ℕ → Option ℕ → Type 0
Hangs old new None n older = (new ≡ old) × (older ≡ None)
Hangs old new (Some q) n older = LeadsTo old new q.0 (Some n) × (older ≡ child_at old.links.items q.0)

-- the chain of p comes to `next` after the child `last`, or begins there
abbrev pub LiesBefore : Family → List Bool → ℕ → Option ℕ → Option ℕ → Type 0
LiesBefore f bs p None next = child_at f.links.items p ≡ next
LiesBefore f bs p (Some c) next = (lives bs c ≡ true) × (hangs_at f.origins.items p c ≡ true) × (sibling_at f.links.items c ≡ next)

-- the chains are those without an instance, and its own children are still found
pub record Unlinks (old new : Family) (bs : List Bool) (gone : ℕ) : Type 0 where
  pub keeps : KeepsOrigins old new
  pub chained : IsChained new.origins.items (slice_set bs gone false) new.links.items
  pub own : child_at new.links.items gone ≡ child_at old.links.items gone
