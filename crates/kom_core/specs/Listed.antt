-- The members of a set as a list.
use Rattle.std.specs.Prelude.{◌≡◌, ◌&&◌, ℕ, List, nat_lt}
use Rattle.kom_base.specs.Lists.{holds_number}
use Rattle.kom_comps.specs.Members.{Members, has}
use Rattle.kom_marks.specs.Settling.{RisesFrom}

-- the list has the members below a bound and nothing else, by rising number
pub record AreListed (set : Members) (bound : ℕ) (list : List ℕ) : Type 0 where
  pub rise : RisesFrom 0 list
  pub are : (c : ℕ) → holds_number list c ≡ (nat_lt c bound && has set c)
