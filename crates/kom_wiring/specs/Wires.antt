-- What the wiring is seen as.
use Rattle.std.specs.Prelude.{◌≡◌, ℕ, ◌+◌, ◌^◌, if◌then◌else◌, Bool, false, not, ◌||◌, nat_lt, List, [], ◌∷◌, map, filter, Option, Some, None}
use Rattle.std.specs.Ordering.{nat_cmp}
use Rattle.std.specs.Option.{option_map_or, unwrap_or}
use Rattle.kom_base.specs.declared.numbers.Dir.{Dir}
use Rattle.kom_base.specs.declared.numbers.Dir.TheVariants.{Plus, Minus}
use Rattle.kom_base.specs.declared.numbers.Half.{Half}
use Rattle.kom_base.specs.Numbers.{same_half}
use Rattle.kom_index.specs.Entries.{value_of}
use Rattle.kom_wiring.specs.declared.link.Link.{Link}

-- the living channels by rising number, each with its ends and flag, and for how many more there is room
pub record Wires : Type 0 where
  pub links : List (ℕ × Link)
  pub spare : ℕ

abbrev pub link_of : List (ℕ × Link) → ℕ → Option Link
link_of links x = value_of nat_cmp x links

abbrev pub free_link : Link
free_link = record { plus = None; minus = None; held = false }

-- the ends and flag of a channel that is there
abbrev pub link_at : List (ℕ × Link) → ℕ → Link
link_at links x = unwrap_or (link_of links x) free_link

-- where an end is plugged, none where it is free
abbrev pub place_at : Link → Dir → Option Half
place_at l Plus = l.plus
place_at l Minus = l.minus

abbrev pub with_end : Link → Dir → Option Half → Link
with_end l Plus at = record l { plus = at }
with_end l Minus at = record l { minus = at }

abbrev pub with_held : Link → Bool → Link
with_held l held = record l { held = held }

abbrev pub is_at : Half → Option Half → Bool
is_at h p = option_map_or (same_half h) p false

-- an end of the channel is plugged at the half
abbrev pub has_end : Half → Link → Bool
has_end h l = is_at h l.plus || is_at h l.minus

-- the channels plugged at a half, by rising number
abbrev pub plugged_at : Half → List (ℕ × Link) → List ℕ
plugged_at h links = map (λ e. e.0) (filter (λ e. has_end h e.1) links)

-- the numbers from x on; none where the list has ended
abbrev pub from_number : Option ℕ → List ℕ → List ℕ
from_number None xs = []
from_number (Some x) xs = filter (λ y. not (nat_lt y x)) xs

-- the number after this one, if numbers of 32 bits have it
abbrev pub after_number : Option ℕ → Option ℕ
after_number None = None
after_number (Some x) = if nat_lt (x + 1) (2 ^ 32) then Some (x + 1) else None

-- the first of a rising list from a number on, and what stands after it
abbrev pub IsFirstFrom : List ℕ → ℕ → Option ℕ → Type 0
IsFirstFrom xs low None = from_number (Some low) xs ≡ []
IsFirstFrom xs low (Some x) = from_number (Some low) xs ≡ x ∷ from_number (after_number (Some x)) xs
