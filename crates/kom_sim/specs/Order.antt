-- A line of components in the order of a simulation.
use Rattle.std.specs.Prelude.{◌≡◌, ℕ, Bool, true, ◌&&◌, ◌||◌, ◌==◌, nat_lt, List, [], ◌∷◌}
use Rattle.kom_base.specs.Lists.{holds_number}
use Rattle.kom_lang.specs.Declarations.{Declarations}
use Rattle.kom_record.specs.declared.plan.Plan.{Plan}
use Rattle.kom_record.specs.Entries.{History}
use Rattle.kom_record.specs.Ready.{ready}
use Rattle.kom_record.specs.Simulated.{ready_since}

-- longer ready, or as long with a lesser number
abbrev pub comes_first : ℕ × ℕ → ℕ × ℕ → Bool
comes_first a b = nat_lt a.0 b.0 || (a.0 == b.0 && nat_lt a.1 b.1)

-- `ready` says which components are ready, and `since` since when
module _ (ready : ℕ → Bool) (since : ℕ → ℕ) where
  -- of those in the line that are ready, each comes before all behind it
  abbrev pub StandInOrder : List ℕ → Type 0
  StandInOrder [] = Unit {0}
  StandInOrder (c ∷ cs) =
      StandInOrder cs
      × ((d : ℕ) → holds_number cs d ≡ true → ready c ≡ true → ready d ≡ true → comes_first (since c, c) (since d, d) ≡ true)

  -- each component that is ready is in the line, and they stand in order
  pub record IsLine (cs : List ℕ) : Type 0 where
    pub all : (c : ℕ) → ready c ≡ true → holds_number cs c ≡ true
    pub in_order : StandInOrder cs

-- a line of those that are ready after a record
abbrev pub IsLineOf : Declarations → Plan → History → List ℕ → Type 0
IsLineOf S Z P cs = IsLine (ready S Z P) (ready_since S Z P) cs
