-- Names, the lists in which they are looked up, and places in a text.
use Rattle.std.specs.Prelude.{ℕ, Bool, not, ◌&&◌, nat_lt, min, List, [], ◌∷◌, ◌++◌, fold, if◌then◌else◌, map, Option, Some, None, bytes_eq}
use Rattle.std.specs.List.{flat_map, list_any, position_or_len}
use Rattle.kom_base.specs.Lists.{if_so}
use Rattle.kom_system.specs.declared.parts.Spot.{Spot}

abbrev pub Name : Type 0
Name = List ℕ

abbrev pub same : Name → Spot → Bool
same n s = bytes_eq n s.name

-- the names of a list, without their places
abbrev pub names_of : List Spot → List Name
names_of spots = map (λ s. s.name) spots

abbrev pub is_among : List Name → Name → Bool
is_among names n = list_any (bytes_eq n) names

-- the number of a name in its list, from 0; one that is not among them has the list's length
abbrev pub number_in : List Name → Name → ℕ
number_in names n = position_or_len (bytes_eq n) names

-- the names with one more at the end, where it is not among them
abbrev pub with_name : List Name → Name → List Name
with_name names n = if is_among names n then names else names ++ n ∷ []

-- the names, each once
abbrev pub each_once : List Name → List Name
each_once names = fold with_name [] names

-- ---- places

abbrev pub places_of : List Spot → List ℕ
places_of spots = map (λ s. s.at) spots

-- the lesser of two places, of which each may be missing
abbrev pub earlier : Option ℕ → Option ℕ → Option ℕ
earlier None o = o
earlier (Some a) None = Some a
earlier (Some a) (Some b) = Some (min a b)

-- the least place
abbrev pub first_place : List ℕ → Option ℕ
first_place [] = None
first_place (a ∷ places) = earlier (Some a) (first_place places)

-- the place only where the test holds
abbrev pub at_if : Bool → ℕ → List ℕ
at_if test a = if_so test (a ∷ [])

-- the place of a name that is not in the list
abbrev pub unknown : List Name → Spot → List ℕ
unknown names s = at_if (not (is_among names s.name)) s.at

-- the place of a name that has an equal one before it in the text
abbrev pub later : List Spot → Spot → List ℕ
later spots s = at_if (list_any (λ t. bytes_eq s.name t.name && nat_lt t.at s.at) spots) s.at

abbrev pub repeated : List Spot → List ℕ
repeated spots = flat_map (later spots) spots
