-- What is left of a walk from a type over its ancestors.
use Rattle.std.proofs.Common.{◌≡◌, ℕ, zero, suc, ◌+◌, ◌-◌, ◌<◌, ◌≤◌, List, [], ◌∷◌, ◌++◌, length, Option, Some, None, slice_get, slice_index_or, refl, ap, ◌∙◌, sym, append-nil, arith, false, ◌==◌, unwrap_or, inl, inr}
use Rattle.std.specs.List.{list_any}
use Rattle.std.specs.Option.{option_map_or}
use Rattle.std.proofs.lemmas.Option.{slice_get_past, unwrap_or-slice_get}
use Rattle.std.proofs.lemmas.Bool.{cases_lt}
use Rattle.std.proofs.lemmas.List.{get_or_past}
use Rattle.kom_events.specs.declared.event_types.EventRow.{EventRow}
use Rattle.kom_events.specs.Kin.{ancestors, kin}

-- the ancestors that a walk still meets: the next one and those above it, n at most
abbrev pub line : ℕ → List EventRow → Option ℕ → List ℕ
line n rows next = option_map_or (ancestors n rows) next []

pub line-step : (n i : ℕ) (rows : List EventRow) (a : ℕ) (row : EventRow) → i < n → slice_get rows a ≡ Some row → line (n - i) rows (Some a) ≡ a ∷ line (n - (i + 1)) rows row.parent
line-step n i rows a row h e = let s : n - i ≡ suc (n - (i + 1)) = omega arith in rw s (rw e refl)

pub line-past : (n : ℕ) (rows : List EventRow) (a : ℕ) → slice_get rows a ≡ None → line n rows (Some a) ≡ []
line-past zero rows a e = refl
line-past (suc n) rows a e = rw e refl

pub line-end : (n i : ℕ) (rows : List EventRow) (next : Option ℕ) → n ≤ i → line (n - i) rows next ≡ []
line-end n i rows None h = refl
line-end n i rows (Some a) h = let s : n - i ≡ 0 = omega arith in rw s refl

pub walk-done : (list tail all : List ℕ) → list ++ tail ≡ all → tail ≡ [] → list ≡ all
walk-done list tail all e h = sym (append-nil list) ∙ ap (λ t. list ++ t) (sym h) ∙ e

pub ancestors-past : (n : ℕ) (rows : List EventRow) (a : ℕ) → length rows ≤ a → ancestors n rows a ≡ []
ancestors-past n rows a h = line-past n rows a (slice_get_past rows a h)

-- a table that is right at each type is right at each number
pub table-whole : (n : ℕ) (rows : List EventRow) (table : List (List ℕ)) → length table ≡ length rows
    → ((b : ℕ) → b < length rows → slice_index_or table b [] ≡ ancestors n rows b) → (a : ℕ) → slice_index_or table a [] ≡ ancestors n rows a
table-whole n rows table e h a = elim (cases_lt a (length rows)) [ inl lt ↦ h a lt | inr le ↦ get_or_past table a [] (omega arith) ∙ sym (ancestors-past n rows a le) ]

-- a type that the table of ancestors lacks is kin to none
pub no-kin : (table : List (List ℕ)) (rows self : List EventRow) (a b : ℕ) → slice_index_or table a [] ≡ ancestors (length rows) rows a → None ≡ slice_get table a → rows ≡ self → false ≡ kin self a b
no-kin table rows self a b e none is =
    let whole = sym e ∙ sym (unwrap_or-slice_get table a []) ∙ ap (λ o. unwrap_or o []) (sym none) in
    rw (← is) (ap (list_any (λ c. c == b)) (sym whole))
