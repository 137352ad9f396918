-- Tables for one level more.
use Rattle.std.proofs.Common.{◌≡◌, ℕ, zero, suc, ◌+◌, ◌<◌, ◌≤◌, Bool, false, ◌||◌, ◌==◌, List, [], ◌∷◌, ◌++◌, length, map, take, get_or, min, slice_get, slice_index_or, Option, Some, None, refl, sym, ap, ◌∙◌, arith, sum_by, add-one, append-nil}
use Rattle.std.proofs.Math.Path.{fun_ext}
use Rattle.std.specs.List.{list_any, filter_map, cons_option, enumerate_from, flat_map}
use Rattle.std.specs.Option.{option_map_or}
use Rattle.std.proofs.lemmas.List.{map_more, take_more, length-take-le}
use Rattle.std.proofs.lemmas.List.Concat.{flat_map-append}
use Rattle.std.proofs.lemmas.List.Elements.{filter_map-append}
use Rattle.std.proofs.lemmas.List.Sums.{sum_by-cons}
use Rattle.kom_rules.specs.Names.{earlier, first_place}
use Rattle.kom_tables.proofs.Entries.{index_map, index_map_or, numbered_push}
use Rattle.kom_lang.specs.Declarations.{greatest}
use Rattle.kom_containers.specs.Nested.{is_within, levels_of, total_of}

-- ---- whether a number is below others

pub level_further : (levels : ℕ) (children : List (List ℕ)) (number : ℕ) (below table : List Bool) → ((k : ℕ) → slice_index_or below k false ≡ is_within levels children number k)
    → table ≡ map (list_any (λ c. c == number || slice_index_or below c false)) children → (k : ℕ) → slice_index_or table k false ≡ is_within (levels + 1) children number k
level_further levels children number below table h e k =
    let same : (λ c. slice_index_or below c false) ≡ is_within levels children number = fun_ext h in
    rw (e, add-one) (index_map (list_any (λ (c : ℕ). c == number || slice_index_or below c false)) [] children k
    ∙ ap (λ (f : ℕ → Bool). list_any (λ c. c == number || f c) (slice_index_or children k [])) same)

-- ---- heights

pub level_higher : (levels : ℕ) (children : List (List ℕ)) (heights table : List ℕ) → ((k : ℕ) → slice_index_or heights k 0 ≡ levels_of levels children k)
    → table ≡ map (λ below. 1 + greatest (map (λ c. slice_index_or heights c 0) below)) children → (k : ℕ) → slice_index_or table k 0 ≡ levels_of (levels + 1) children k
level_higher levels children heights table h e k =
    let same : (λ c. slice_index_or heights c 0) ≡ levels_of levels children = fun_ext h in
    rw (e, add-one) (index_map_or (λ (below : List ℕ). 1 + greatest (map (λ c. slice_index_or heights c 0) below)) children k
    ∙ ap (λ (f : ℕ → ℕ). option_map_or (λ (below : List ℕ). 1 + greatest (map f below)) (slice_get children k) 0) same)

greatest_le : (f : ℕ → ℕ) (n : ℕ) → ((c : ℕ) → f c ≤ n) → (xs : List ℕ) → greatest (map f xs) ≤ n
greatest_le f n h [] = omega arith
greatest_le f n h (x ∷ xs) = let a = h x in let b = greatest_le f n h xs in omega arith

one_le : (f : ℕ → ℕ) (n : ℕ) → ((c : ℕ) → f c ≤ n) → (o : Option (List ℕ)) → option_map_or (λ below. 1 + greatest (map f below)) o 0 ≤ suc n
one_le f n h None = omega arith
one_le f n h (Some below) = let a = greatest_le f n h below in omega arith

levels_le : (n : ℕ) (children : List (List ℕ)) (k : ℕ) → levels_of n children k ≤ n
levels_le zero children k = omega arith
levels_le (suc n) children k = one_le (levels_of n children) n (levels_le n children) (slice_get children k)

pub below_limit : (n : ℕ) (children : List (List ℕ)) (table : List ℕ) → n < 255 → ((k : ℕ) → slice_index_or table k 0 ≡ levels_of n children k) → (k : ℕ) → slice_index_or table k 0 < 255
below_limit n children table h e k = let le = levels_le n children k in rw (e k) (omega arith)

-- ---- totals, counted no further than a limit

capped : (f : ℕ → ℕ) (most : ℕ) (xs : List ℕ) (own : ℕ) → min (own + sum_by (λ c. min (f c) most) xs) most ≡ min (own + sum_by f xs) most
capped f most [] own = refl
capped f most (x ∷ xs) own =
    let a : sum_by (λ c. min (f c) most) (x ∷ xs) ≡ min (f x) most + sum_by (λ c. min (f c) most) xs = sum_by-cons (λ (c : ℕ). min (f c) most) x xs in
    let b : sum_by f (x ∷ xs) ≡ f x + sum_by f xs = sum_by-cons f x xs in
    let c : min ((own + min (f x) most) + sum_by (λ c. min (f c) most) xs) most ≡ min ((own + min (f x) most) + sum_by f xs) most = capped f most xs (own + min (f x) most) in
    rw (a, b) (omega arith)

pub level_larger : (levels : ℕ) (children : List (List ℕ)) (own totals table : List ℕ) → ((k : ℕ) → slice_index_or totals k 0 ≡ min (total_of levels children own k) 1001)
    → ((k : ℕ) → slice_index_or table k 0 ≡ min (slice_index_or own k 0 + sum_by (λ c. slice_index_or totals c 0) (slice_index_or children k [])) 1001)
    → (k : ℕ) → slice_index_or table k 0 ≡ min (total_of (levels + 1) children own k) 1001
level_larger levels children own totals table h e k =
    let same : (λ c. slice_index_or totals c 0) ≡ (λ c. min (total_of levels children own c) 1001) = fun_ext h in
    rw add-one (e k ∙ ap (λ (f : ℕ → ℕ). min (slice_index_or own k 0 + sum_by f (slice_index_or children k [])) 1001) same
    ∙ capped (total_of levels children own) 1001 (slice_index_or children k []) (slice_index_or own k 0))

pub no_more : (table : List ℕ) (f : ℕ → ℕ) → ((k : ℕ) → slice_index_or table k 0 ≡ min (f k) 1001) → (k : ℕ) → slice_index_or table k 0 ≤ 1001
no_more table f h k = rw (h k) (omega arith)

-- ---- one entry more

pub chosen_push : {A : Type 0} (f : A → Option ℕ) (xs : List A) (i : ℕ) (x : A) (list : List ℕ) → i < length xs → x ≡ get_or xs i x → list ≡ filter_map f (take i xs) → list ++ cons_option (f x) [] ≡ filter_map f (take (i + 1) xs)
chosen_push f xs i x list lt is old =
    ap (λ ys. ys ++ cons_option (f x) []) old ∙ sym (filter_map-append f (take i xs) (x ∷ []))
    ∙ ap (λ y. filter_map f (take i xs ++ y ∷ [])) is ∙ ap (filter_map f) (sym (take_more xs i x lt))

-- from 0
pub numbered_from_zero : {A : Type 0} (f : ℕ × A → List ℕ) (xs : List A) (i : ℕ) (x : A) (first now : Option ℕ) → i < length xs → x ≡ get_or xs i x
    → first ≡ first_place (flat_map f (enumerate_from 0 (take i xs))) → now ≡ first_place (f (i, x)) → earlier first now ≡ first_place (flat_map f (enumerate_from 0 (take (i + 1) xs)))
numbered_from_zero f xs i x first now lt is old own = let e : i ≡ 0 + i = omega arith in numbered_push 0 f xs i x first now lt is old (own ∙ ap (λ k. first_place (f (k, x))) e)
