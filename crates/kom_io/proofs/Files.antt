-- Names and what stands at them.
use Rattle.std.proofs.Common.{◌≡◌, ◌+◌, ◌∷◌, ◌++◌, ℕ, suc, Bool, true, false, List, [], Option, Some, None, cond, map, take, refl, sym, ◌∙◌, ap, add-one}
use Rattle.std.proofs.lemmas.Option.{slice_get-map, slice_get_within, get_or_from_slice_get}
use Rattle.std.proofs.lemmas.List.{take_more}
use Rattle.std.specs.Prelude.{slice_get, unwrap_or, find, String}
use Rattle.std.specs.List.{position_from}
use Rattle.std.specs.Option.{option_map, option_map_or, option_and_then}
use Rattle.std.specs.Str.{bytes_eq}
use Rattle.std.specs.String.{string_bytes}
use Rattle.kom_io.specs.Faults.{last_count}
use Rattle.kom_io.specs.Names.{place_of, at_name, count_at, first_count_of}
use Rattle.kom_io.specs.Files.{file_of, first_count}
use Rattle.kom_io.proofs.Places.{at_place}

unfaulted_at : (names : List (List ℕ)) (n : List ℕ) (p : Option ℕ) → place_of names n ≡ p → unwrap_or (option_and_then (λ i. slice_get (map (λ _. 0) names) i) p) last_count ≡ option_map_or (λ _. 0) p last_count
unfaulted_at names n None e = refl
unfaulted_at names n (Some i) e =
    ap (λ o. unwrap_or o last_count) (slice_get-map (λ _. 0) names i ∙ ap (option_map (λ _. 0)) (at_place names n i e))

-- counts that are all 0
pub unfaulted : (names : List (List ℕ)) (n : List ℕ) → count_at names (map (λ _. 0) names) n ≡ first_count_of names n
unfaulted names n = unfaulted_at names n (place_of names n) refl

shift_by : {K : Type 0} (t : K → Bool) (o : ℕ) (b : Bool) (p q : Option ℕ) → q ≡ option_map suc p → cond b (Some (o + 1)) q ≡ option_map suc (cond b (Some o) p)
shift_by t o true p q e = ap Some (add-one o)
shift_by t o false p q e = e

-- a search from one place on finds one place on
pub shift : {K : Type 0} (t : K → Bool) (o : ℕ) (xs : List K) → position_from t (o + 1) xs ≡ option_map suc (position_from t o xs)
shift t o [] = refl
shift t o (x ∷ xs) = shift_by t o (t x) (position_from t (o + 1) xs) (position_from t (o + 1 + 1) xs) (shift t (o + 1) xs)

-- what stands at the place of the first that passes
at_first : {F K X : Type 0} (t : K → Bool) (h : F → K) (g : F → X) (f : F) (fs : List F) (b : Bool) (p : Option ℕ) → option_and_then (λ i. slice_get (map g fs) i) p ≡ option_map g (find (λ f. t (h f)) fs) → option_and_then (λ i. slice_get (g f ∷ map g fs) i) (cond b (Some 0) (option_map suc p)) ≡ option_map g (cond b (Some f) (find (λ f. t (h f)) fs))
at_first t h g f fs true p e = refl
at_first t h g f fs false None e = e
at_first t h g f fs false (Some i) e = e

pub at_found : {F K X : Type 0} (t : K → Bool) (h : F → K) (g : F → X) (fs : List F) → option_and_then (λ i. slice_get (map g fs) i) (position_from t 0 (map h fs)) ≡ option_map g (find (λ f. t (h f)) fs)
at_found t h g [] = refl
at_found t h g (f ∷ fs) =
    ap (λ q. option_and_then (λ i. slice_get (g f ∷ map g fs) i) (cond (t (h f)) (Some 0) q)) (shift t 0 (map h fs))
    ∙ at_first t h g f fs (t (h f)) (position_from t 0 (map h fs)) (at_found t h g fs)

identity : {F : Type 0} → (fs : List F) → map (λ f. f) fs ≡ fs
identity [] = refl
identity (f ∷ fs) = ap (λ x. f ∷ x) (identity fs)

option_identity : {F : Type 0} → (o : Option F) → option_map (λ f. f) o ≡ o
option_identity None = refl
option_identity (Some x) = refl

-- a file is found by its name
pub at_file : {Z B : Type 0} (files : List (String Z × B)) (n : List ℕ) → at_name (map (λ f. string_bytes f.0) files) files n ≡ file_of files n
at_file files n =
    ap (λ x. option_and_then (λ i. slice_get x i) (place_of (map (λ f. string_bytes f.0) files) n)) (sym (identity files))
    ∙ at_found (λ m. bytes_eq m n) (λ f. string_bytes f.0) (λ f. f) files
    ∙ option_identity (file_of files n)

first_by : {F : Type 0} (o : Option F) → unwrap_or (option_map (λ _. 0) o) last_count ≡ option_map_or (λ _. 0) o last_count
first_by None = refl
first_by (Some f) = refl

pub first_counts : {Z B : Type 0} (files : List (String Z × B)) (n : List ℕ) → count_at (map (λ f. string_bytes f.0) files) (map (λ _. 0) files) n ≡ first_count files n
first_counts files n =
    ap (λ o. unwrap_or o last_count) (at_found (λ m. bytes_eq m n) (λ f. string_bytes f.0) (λ _. 0) files)
    ∙ first_by (file_of files n)

-- one more word
pub take_next : {X : Type 0} (xs : List X) (i : ℕ) (x : X) → slice_get xs i ≡ Some x → take (i + 1) xs ≡ take i xs ++ x ∷ []
take_next xs i x h = take_more xs i x (slice_get_within xs i x h) ∙ ap (λ y. take i xs ++ y ∷ []) (get_or_from_slice_get xs i x x h)

zeros_more : {X : Type 0} (xs : List X) (x : X) → map {B = ℕ} (λ _. 0) (xs ++ x ∷ []) ≡ map {B = ℕ} (λ _. 0) xs ++ 0 ∷ []
zeros_more [] x = refl
zeros_more (y ∷ xs) x = ap (λ z. 0 ∷ z) (zeros_more xs x)

pub zeros_next : {X : Type 0} (xs : List X) (i : ℕ) (x : X) → slice_get xs i ≡ Some x → map {B = ℕ} (λ _. 0) (take (i + 1) xs) ≡ map {B = ℕ} (λ _. 0) (take i xs) ++ 0 ∷ []
zeros_next xs i x h = ap (map {B = ℕ} (λ _. 0)) (take_next xs i x h) ∙ zeros_more (take i xs) x
