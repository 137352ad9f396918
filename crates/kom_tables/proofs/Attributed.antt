-- The attributes of event types by their lines of ancestors.
use Rattle.std.proofs.Common.{◌≡◌, ℕ, zero, suc, ◌+◌, List, [], ◌∷◌, length, map, reverse, Some, None, slice_get, slice_index_or, unwrap_or, sum_by, refl, sym, ap, ◌∙◌, arith, Bool, false, ◌==◌}
use Rattle.std.proofs.Math.Path.{fun_ext}
use Rattle.std.specs.List.{list_any}
use Rattle.std.specs.Option.{option_map_or}
use Rattle.std.proofs.lemmas.List.{length-map, reverse-append}
use Rattle.std.proofs.lemmas.List.Concat.{length-flat_map}
use Rattle.std.proofs.lemmas.List.Sums.{sum_by-cons, sum_by_push}
use Rattle.std.proofs.lemmas.Option.{unwrap_or-slice_get}
use Rattle.kom_events.specs.declared.event_types.EventRow.{EventRow}
use Rattle.kom_events.specs.Kin as kin_of
use Rattle.kom_events.specs.Kin.{ancestors, kin, attributes}
use Rattle.kom_system.specs.declared.parts.EventPart.{EventPart}
use Rattle.kom_system.specs.declared.parts.Parts.{Parts}
use Rattle.kom_rules.specs.Names.{Name, names_of, is_among}
use Rattle.kom_rules.specs.Spaces.{event_row, event_rows, own_attributes, attribute_names}
use Rattle.kom_tables.specs.Ancestry.{names_along}
use Rattle.kom_tables.proofs.Entries.{index_map, index_map_or}

-- ---- counts

own_counts : (P : Parts) (es : List EventPart) → map (λ (row : EventRow). row.own) (map (event_row P) es) ≡ map (length {A = Name}) (map (λ (e : EventPart). names_of e.attrs) es)
own_counts P [] = refl
own_counts P (e ∷ es) = rw (own_counts P es, length-map e.attrs (λ s. s.name)) refl

own_count : (P : Parts) (a : ℕ) → kin_of.own_attributes (event_rows P) a ≡ length (slice_index_or (own_attributes P) a [])
own_count P a =
    sym (index_map_or (λ (row : EventRow). row.own) (event_rows P) a)
    ∙ ap (λ (ns : List ℕ). slice_index_or (2 ∷ 1 ∷ 1 ∷ 2 ∷ ns) a 0) (own_counts P P.events)
    ∙ index_map (length {A = Name}) [] (own_attributes P) a

sum_reverse : (f : ℕ → ℕ) (xs : List ℕ) → sum_by f (reverse xs) ≡ sum_by f xs
sum_reverse f [] = refl
sum_reverse f (x ∷ xs) =
    let a : sum_by f (reverse (x ∷ xs)) ≡ sum_by f (reverse xs) + f x = ap (sum_by f) (reverse-append (x ∷ []) xs) ∙ sum_by_push f (reverse xs) x in
    let b : sum_by f (x ∷ xs) ≡ f x + sum_by f xs = sum_by-cons f x xs in
    let c : sum_by f (reverse xs) ≡ sum_by f xs = sum_reverse f xs in
    omega arith

-- as many names as attributes
pub names_count : (P : Parts) (k : ℕ) → length (attribute_names P k) ≡ attributes (event_rows P) k
names_count P k =
    let line = ancestors (length (event_rows P)) (event_rows P) k in
    let same : kin_of.own_attributes (event_rows P) ≡ (λ a. length (slice_index_or (own_attributes P) a [])) = fun_ext (own_count P) in
    length-flat_map (λ (a : ℕ). slice_index_or (own_attributes P) a []) (reverse line)
    ∙ sum_reverse (λ (a : ℕ). length (slice_index_or (own_attributes P) a [])) line
    ∙ ap (λ (f : ℕ → ℕ). sum_by f line) (sym same)

-- the names of each type from its line
pub names_at : (P : Parts) (own : List (List Name)) (lines : List (List ℕ)) (table : List (List Name)) (k : ℕ) → own ≡ own_attributes P
    → slice_index_or lines k [] ≡ ancestors (length (event_rows P)) (event_rows P) k → table ≡ map (names_along own) lines → slice_index_or table k [] ≡ attribute_names P k
names_at P own lines table k is line e =
    ap (λ (xs : List (List Name)). slice_index_or xs k []) e
    ∙ index_map (names_along own) [] lines k
    ∙ ap (λ (o : List (List Name)). names_along o (slice_index_or lines k [])) is
    ∙ ap (names_along (own_attributes P)) line

-- ---- what a table says where it has an entry, and where it has none

there : {A : Type 0} (table : List (List A)) (k : ℕ) (xs all : List A) → Some xs ≡ slice_get table k → slice_index_or table k [] ≡ all → xs ≡ all
there table k xs all e h = ap (λ o. unwrap_or o []) e ∙ unwrap_or-slice_get table k [] ∙ h

pub missing : {A : Type 0} (table : List (List A)) (k : ℕ) (all : List A) → None ≡ slice_get table k → slice_index_or table k [] ≡ all → [] ≡ all
missing table k all e h = ap (λ o. unwrap_or o []) e ∙ unwrap_or-slice_get table k [] ∙ h

pub no_kin : (lines : List (List ℕ)) (rows : List EventRow) (a b : ℕ) → None ≡ slice_get lines a → slice_index_or lines a [] ≡ ancestors (length rows) rows a → false ≡ kin rows a b
no_kin lines rows a b e h = ap (list_any (λ c. c == b)) (missing lines a (ancestors (length rows) rows a) e h)

pub count_there : (P : Parts) (table : List (List Name)) (k : ℕ) (names : List Name) (count : ℕ) → Some names ≡ slice_get table k → slice_index_or table k [] ≡ attribute_names P k → count ≡ length names → count ≡ attributes (event_rows P) k
count_there P table k names count e h is = is ∙ ap (length {A = Name}) (there table k names (attribute_names P k) e h) ∙ names_count P k

pub count_missing : (P : Parts) (table : List (List Name)) (k : ℕ) → None ≡ slice_get table k → slice_index_or table k [] ≡ attribute_names P k → 0 ≡ attributes (event_rows P) k
count_missing P table k e h = ap (length {A = Name}) (missing table k (attribute_names P k) e h) ∙ names_count P k

pub among_missing : (P : Parts) (table : List (List Name)) (k : ℕ) (name : Name) → None ≡ slice_get table k → slice_index_or table k [] ≡ attribute_names P k → false ≡ is_among (attribute_names P k) name
among_missing P table k name e h = ap (λ ns. is_among ns name) (missing table k (attribute_names P k) e h)

pub among_there : (P : Parts) (table : List (List Name)) (k : ℕ) (names : List Name) (name : Name) (r : Bool) → Some names ≡ slice_get table k → slice_index_or table k [] ≡ attribute_names P k → r ≡ is_among names name → r ≡ is_among (attribute_names P k) name
among_there P table k names name r e h is = is ∙ ap (λ ns. is_among ns name) (there table k names (attribute_names P k) e h)
