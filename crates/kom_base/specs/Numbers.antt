-- Tests that compute on the numbers, directions and sides.
use Rattle.std.specs.Prelude.{Bool, true, false, ◌&&◌, ◌||◌, ◌==◌, nat_lt, ℤ, int_le}
use Rattle.kom_base.specs.declared.numbers.Dir.{Dir}
use Rattle.kom_base.specs.declared.numbers.Dir.TheVariants.{Plus, Minus}
use Rattle.kom_base.specs.declared.numbers.Side.{Side}
use Rattle.kom_base.specs.declared.numbers.Side.TheVariants.{Outside, Inside}
use Rattle.kom_base.specs.declared.numbers.Half.{Half}
use Rattle.kom_base.specs.declared.numbers.EntryNo.{EntryNo}

abbrev pub is_plus : Dir → Bool
is_plus Plus = true
is_plus Minus = false

abbrev pub same_dir : Dir → Dir → Bool
same_dir Plus d = is_plus d
same_dir Minus Plus = false
same_dir Minus Minus = true

abbrev pub opposite : Dir → Dir
opposite Plus = Minus
opposite Minus = Plus

abbrev pub same_side : Side → Side → Bool
same_side Outside Outside = true
same_side Outside Inside = false
same_side Inside Outside = false
same_side Inside Inside = true

abbrev pub other_side : Side → Side
other_side Outside = Inside
other_side Inside = Outside

abbrev pub same_half : Half → Half → Bool
same_half h k = h.comp == k.comp && h.port == k.port && same_side h.side k.side

abbrev pub same_int : ℤ → ℤ → Bool
same_int a b = int_le a b && int_le b a

abbrev pub same_no : EntryNo → EntryNo → Bool
same_no a b = a.position == b.position && a.place == b.place

-- the lesser pair
abbrev pub is_earlier : EntryNo → EntryNo → Bool
is_earlier a b = nat_lt a.position b.position || (a.position == b.position && nat_lt a.place b.place)

abbrev pub agree : Bool → Bool → Bool
agree true b = b
agree false true = false
agree false false = true
