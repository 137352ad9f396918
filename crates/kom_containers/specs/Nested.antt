-- Trees of numbers, by a table of the children of each.
use Rattle.std.specs.Prelude.{ℕ, zero, suc, ◌+◌, Bool, false, ◌||◌, ◌==◌, List, [], ◌∷◌, ◌++◌, map, slice_get, slice_index_or, sum_by}
use Rattle.std.specs.List.{list_any, filter_map}
use Rattle.std.specs.Option.{option_map_or}
use Rattle.kom_lang.specs.Declarations.{greatest}
use Rattle.kom_system.specs.declared.parts.ComponentPart.{ComponentPart}
use Rattle.kom_system.specs.declared.parts.Parts.{Parts}
use Rattle.kom_rules.specs.Fitting.{child_number}

-- b is in the tree of a, below its root, at most so many levels down
abbrev pub is_within : ℕ → List (List ℕ) → ℕ → ℕ → Bool
is_within zero children b a = false
is_within (suc levels) children b a = list_any (λ c. c == b || is_within levels children b c) (slice_index_or children a [])

-- how many levels the tree has, of which no more than so many are counted; 0 where the table has no
-- such number
abbrev pub levels_of : ℕ → List (List ℕ) → ℕ → ℕ
levels_of zero children k = 0
levels_of (suc levels) children k = option_map_or (λ below. 1 + greatest (map (levels_of levels children) below)) (slice_get children k) 0

-- what all in the tree add together, down to so many levels, where `own` has what each adds
abbrev pub total_of : ℕ → List (List ℕ) → List ℕ → ℕ → ℕ
total_of zero children own k = 0
total_of (suc levels) children own k = slice_index_or own k 0 + sum_by (total_of levels children own) (slice_index_or children k [])

-- ---- the table of a file: the component types by number, and none below the number behind the last

abbrev pub children_table : Parts → List (List ℕ)
children_table P = map (λ c. filter_map (child_number P) c.slots) P.components ++ [] ∷ []

-- what each component type adds, and 0 for the number behind the last
abbrev pub amounts : (ComponentPart → ℕ) → Parts → List ℕ
amounts adds P = map adds P.components ++ 0 ∷ []
