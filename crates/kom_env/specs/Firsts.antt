-- The first of some values.
use Rattle.std.specs.Prelude.{ℤ, pos, List, slice_index_or}

abbrev pub first_of : List ℤ → ℤ
first_of vs = slice_index_or vs 0 (pos 0)
