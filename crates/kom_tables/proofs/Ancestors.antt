-- What is left of a walk from an event type over its ancestors, and tables of such walks.
use Rattle.std.proofs.Common.{◌≡◌, ℕ, zero, suc, ◌+◌, ◌-◌, ◌<◌, ◌≤◌, List, [], ◌∷◌, ◌++◌, length, Option, Some, None, slice_get, slice_index_or, refl, ap, ◌∙◌, sym, append-nil, arith, inl, inr}
use Rattle.std.specs.Option.{option_map, option_map_or}
use Rattle.std.proofs.lemmas.Option.{slice_get_past, slice_get-map}
use Rattle.std.proofs.lemmas.Bool.{cases_lt}
use Rattle.std.proofs.lemmas.List.{get_or_past, length-map}
use Rattle.kom_events.specs.declared.event_types.EventRow.{EventRow}
use Rattle.kom_events.specs.Kin.{ancestors}
use Rattle.kom_tables.specs.Ancestry.{parents_in, line_up, AreLines}

-- the ancestors that a walk still meets: the next one and those above it, n at most
abbrev pub rest_up : ℕ → List (Option ℕ) → Option ℕ → List ℕ
rest_up n parents next = option_map_or (line_up n parents) next []

pub rest_step : (n i : ℕ) (parents : List (Option ℕ)) (a : ℕ) (parent : Option ℕ) → i < n → slice_get parents a ≡ Some parent → rest_up (n - i) parents (Some a) ≡ a ∷ rest_up (n - (i + 1)) parents parent
rest_step n i parents a parent h e = let s : n - i ≡ suc (n - (i + 1)) = omega arith in rw s (rw e refl)

pub rest_past : (n : ℕ) (parents : List (Option ℕ)) (a : ℕ) → slice_get parents a ≡ None → rest_up n parents (Some a) ≡ []
rest_past zero parents a e = refl
rest_past (suc n) parents a e = rw e refl

pub rest_end : (n i : ℕ) (parents : List (Option ℕ)) (next : Option ℕ) → n ≤ i → rest_up (n - i) parents next ≡ []
rest_end n i parents None h = refl
rest_end n i parents (Some a) h = let s : n - i ≡ 0 = omega arith in rw s refl

pub walk_done : (list tail all : List ℕ) → list ++ tail ≡ all → tail ≡ [] → list ≡ all
walk_done list tail all e h = sym (append-nil list) ∙ ap (λ t. list ++ t) (sym h) ∙ e

-- a table that is right at each type is right at each number
pub lines_whole : (parents : List (Option ℕ)) (lines : List (List ℕ)) → length lines ≡ length parents
    → ((b : ℕ) → b < length parents → slice_index_or lines b [] ≡ line_up (length parents) parents b) → AreLines lines parents
lines_whole parents lines e h = record {
  count = e;
  each = λ a. elim (cases_lt a (length parents)) [
    | inl lt ↦ h a lt
    | inr le ↦ get_or_past lines a [] (omega arith) ∙ sym (rest_past (length parents) parents a (slice_get_past parents a le))
  ];
}

-- ---- the same by the rows of event types

one_parent : (f g : ℕ → List ℕ) → ((p : ℕ) → f p ≡ g p) → (o : Option ℕ) → option_map_or f o [] ≡ option_map_or g o []
one_parent f g h None = refl
one_parent f g h (Some p) = h p

one_row : (f g : ℕ → List ℕ) (a : ℕ) → ((p : ℕ) → f p ≡ g p) → (o : Option EventRow)
    → option_map_or (λ parent. a ∷ option_map_or f parent []) (option_map (λ (row : EventRow). row.parent) o) [] ≡ option_map_or (λ row. a ∷ option_map_or g row.parent []) o []
one_row f g a h None = refl
one_row f g a h (Some row) = ap (λ xs. a ∷ xs) (one_parent f g h row.parent)

pub same_line : (n : ℕ) (rows : List EventRow) (a : ℕ) → line_up n (parents_in rows) a ≡ ancestors n rows a
same_line zero rows a = refl
same_line (suc n) rows a =
    ap (λ (o : Option (Option ℕ)). option_map_or (λ parent. a ∷ option_map_or (line_up n (parents_in rows)) parent []) o []) (slice_get-map (λ (row : EventRow). row.parent) rows a)
    ∙ one_row (line_up n (parents_in rows)) (ancestors n rows) a (same_line n rows) (slice_get rows a)

-- lines by the parents of the rows
pub line_at : (rows : List EventRow) (parents : List (Option ℕ)) (lines : List (List ℕ)) → parents ≡ parents_in rows → AreLines lines parents → (k : ℕ) → slice_index_or lines k [] ≡ ancestors (length rows) rows k
line_at rows parents lines e are k =
    let many : length (parents_in rows) ≡ length rows = length-map rows (λ row. row.parent) in
    are.each k ∙ ap (λ (ps : List (Option ℕ)). line_up (length ps) ps k) e ∙ ap (λ n. line_up n (parents_in rows) k) many ∙ same_line (length rows) rows k
