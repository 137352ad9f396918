-- What is read off the state of a run.
use Rattle.std.specs.Prelude.{◌≡◌, ℕ, Bool, false, ◌||◌, ◌==◌, List, [], find, slice_get, Option}
use Rattle.std.specs.List.Sorted.{IsStrictlyIncreasing}
use Rattle.std.specs.List.{list_any}
use Rattle.std.specs.Option.{option_map_or, option_and_then}
use Rattle.kom_base.specs.declared.numbers.Dir.{Dir}
use Rattle.kom_base.specs.declared.numbers.EntryNo.{EntryNo}
use Rattle.kom_base.specs.declared.numbers.Half.{Half}
use Rattle.kom_base.specs.Lists.{first}
use Rattle.kom_base.specs.Numbers.{same_half}
use Rattle.kom_record.specs.declared.item.Control.{Control as ControlItem}
use Rattle.kom_refine.specs.States.{Link, State}
use Rattle.kom_refine.specs.Firsts.{Front}

-- the first control item that waits for c
abbrev pub first_item : State → ℕ → Option ControlItem
first_item m c = option_and_then (λ r. first r.items) (m.controls c)

-- the first number that waits in a direction
abbrev pub first_number : State → ℕ → Dir → Option EntryNo
first_number m x d = option_and_then (λ q. first q.numbers) (m.queues x d)

abbrev pub is_active : State → ℕ → Bool
is_active m c = option_map_or (λ r. r.active) (m.controls c) false

abbrev pub is_catching : State → ℕ → Bool
is_catching m c = option_map_or (λ r. r.catches) (m.controls c) false

abbrev pub ancestry_at : State → ℕ → List (ℕ × ℕ)
ancestry_at m c = option_map_or (λ n. n.ancestry) (slice_get m.nodes c) []

-- the closest proper ancestor of c that catches faults, with its slot in which c is
abbrev pub nearest_in : State → ℕ → Option (ℕ × ℕ)
nearest_in m c = find (λ q. is_catching m q.0) (ancestry_at m c)

abbrev pub front_seen : ℕ × Dir × EntryNo → Front
front_seen a = record { chan = a.0; dir = a.1; no = a.2 }

abbrev pub is_at : Half → Option Half → Bool
is_at h p = option_map_or (same_half h) p false

-- an end of the channel is plugged at the half
abbrev pub has_end : Half → Link → Bool
has_end h l = is_at h l.plus || is_at h l.minus

-- the numbers of the living channels that are plugged at the half, each once and by rising number
pub record AreAtHalf (m : State) (h : Half) (xs : List ℕ) : Type 0 where
  pub rising : IsStrictlyIncreasing xs
  pub each : (x : ℕ) → list_any (λ y. y == x) xs ≡ option_map_or (has_end h) (m.links x) false
