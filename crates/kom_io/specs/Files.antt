-- Files in memory: pairs of a name and bytes.
use Rattle.std.specs.Prelude.{ℕ, List, Option, String, Vec, drop, slice_get, find}
use Rattle.std.specs.Option.{option_map, option_map_or}
use Rattle.std.specs.Str.{bytes_eq}
use Rattle.std.specs.String.{string_bytes}
use Rattle.kom_io.specs.declared.memory.Reading.{Reading}
use Rattle.kom_io.specs.Faults.{last_count}

-- what is left of a file that is read to this place
abbrev pub left_at : {Z Y : Type 0} → List (String Z × Vec ℕ Y) → Reading → Option (List ℕ)
left_at files reading = option_map (λ f. drop reading.at f.1.items) (slice_get files reading.place)

-- the first of the given files with this name
abbrev pub file_of : {Z B : Type 0} → List (String Z × B) → List ℕ → Option (String Z × B)
file_of files name = find (λ f. bytes_eq (string_bytes f.0) name) files

-- no fault yet, and the last count for a name that is not there
abbrev pub first_count : {Z B : Type 0} → List (String Z × B) → List ℕ → ℕ
first_count files name = option_map_or (λ _. 0) (file_of files name) last_count
