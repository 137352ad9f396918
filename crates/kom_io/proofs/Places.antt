-- Where a name stands, and what a raised count leaves.
use Rattle.std.proofs.Common.{◌≡◌, ◌≢◌, ◌+◌, ◌-◌, ◌<◌, ◌≤◌, ◌⊎◌, ℕ, Bool, true, false, List, [], ◌∷◌, Option, Some, None, cond, min, length, drop, refl, sym, ◌∙◌, ap, subst, arith, inl, inr, eqb, get_or, drop-cons, add-one}
use Rattle.std.proofs.lemmas.Bool.Decides.{Decides-eqb}
use Rattle.std.proofs.lemmas.Option.{slice_get_within, get_or_from_slice_get, slice_get-get_or, slice_get_past}
use Rattle.std.proofs.lemmas.Slice.Eq.{bytes_eq-Decides}
use Rattle.std.specs.Prelude.{slice_get, unwrap_or, IfSome}
use Rattle.std.specs.List.{position_from}
use Rattle.std.specs.Option.{option_map_or, option_and_then}
use Rattle.std.specs.Str.{bytes_eq}
use Rattle.kom_io.specs.Faults.{Rose, RisesOnlyAt, last_count}
use Rattle.kom_io.specs.Names.{place_of, stands_at, count_at}

-- what is found: an element that passes, at its place
pub record IsFound {K : Type 0} (t : K → Bool) (o : ℕ) (xs : List K) (j : ℕ) : Type 0 where
  pub from : o ≤ j
  pub item : K
  pub there : slice_get xs (j - o) ≡ Some item
  pub passes : t item ≡ true

next_place : {K : Type 0} (x : K) (xs : List K) (o j : ℕ) (y : K) → o + 1 ≤ j → slice_get xs (j - (o + 1)) ≡ Some y → slice_get (x ∷ xs) (j - o) ≡ Some y
next_place x xs o j y h p = let e : j - o ≡ (j - (o + 1)) + 1 = omega arith in rw (e, add-one) p

found_step : {K : Type 0} (t : K → Bool) (o : ℕ) (x : K) (xs : List K) (j : ℕ) (b : Bool) → t x ≡ b → cond b (Some o) (position_from t (o + 1) xs) ≡ Some j → (position_from t (o + 1) xs ≡ Some j → IsFound t (o + 1) xs j) → IsFound t o (x ∷ xs) j
found_step t o x xs j true p h rest =
    let e : o ≡ j = cc in
    let z : j - o ≡ 0 = omega arith in
    record { from = omega arith; item = x; there = rw z refl; passes = p }
found_step t o x xs j false p h rest =
    let r = rest h in
    record { from = omega (arith, r.from); item = r.item; there = next_place x xs o j r.item r.from r.there; passes = r.passes }

pub found : {K : Type 0} (t : K → Bool) (o : ℕ) (xs : List K) (j : ℕ) → position_from t o xs ≡ Some j → IsFound t o xs j
found t o [] j h = absurd (cc)
found t o (x ∷ xs) j h = found_step t o x xs j (t x) refl h (found t (o + 1) xs j)

-- a list is searched from a place on
pub search_step : {K : Type 0} (t : K → Bool) (i : ℕ) (x : K) (xs : List K) → slice_get xs i ≡ Some x → position_from t i (drop i xs) ≡ cond (t x) (Some i) (position_from t (i + 1) (drop (i + 1) xs))
search_step t i x xs h =
    let within : i < length xs = slice_get_within xs i x h in
    let e : drop i xs ≡ x ∷ drop (i + 1) xs = rw (add-one, drop-cons xs i x, get_or_from_slice_get xs i x x h) refl in
    ap (position_from t i) e

-- the search for a name, one place on
pub place_step : (names : List (List ℕ)) (name : List ℕ) (i : ℕ) → i < length names → position_from (λ n. bytes_eq n name) i (drop i names) ≡ cond (stands_at names i name) (Some i) (position_from (λ n. bytes_eq n name) (i + 1) (drop (i + 1) names))
place_step names name i within =
    let e : slice_get names i ≡ Some (get_or names i []) = slice_get-get_or names i [] within in
    search_step (λ n. bytes_eq n name) i (get_or names i []) names e
    ∙ ap (λ b. cond b (Some i) (position_from (λ n. bytes_eq n name) (i + 1) (drop (i + 1) names))) (ap (λ o. option_map_or (λ n. bytes_eq n name) o false) (sym e))

-- the name at its first place
pub at_place : (names : List (List ℕ)) (name : List ℕ) (j : ℕ) → place_of names name ≡ Some j → slice_get names j ≡ Some name
at_place names name j h =
    let f = found (λ n. bytes_eq n name) 0 names j h in
    let z : j - 0 ≡ j = omega arith in
    let e : f.item ≡ name = (bytes_eq-Decides f.item name).0 f.passes in
    let there : slice_get names j ≡ Some f.item = ap (slice_get names) (sym z) ∙ f.there in
    there ∙ ap Some e

-- the count at one place was raised
pub record IsRaised (place : ℕ) (old new : List ℕ) : Type 0 where
  pub there : (n : ℕ) → slice_get old place ≡ Some n → slice_get new place ≡ Some (min (n + 1) last_count)
  pub absent : slice_get old place ≡ None → new ≡ old
  pub others : (k : ℕ) → k ≢ place → slice_get new k ≡ slice_get old k

rose_by : (place : ℕ) (old new : List ℕ) (c : Option ℕ) → slice_get old place ≡ c → IsRaised place old new → Rose (unwrap_or (slice_get old place) last_count) (unwrap_or (slice_get new place) last_count)
rose_by place old new None e r = rw (r.absent e, e) (omega arith)
rose_by place old new (Some n) e r = rw (r.there n e, e) (omega arith)

at_place_not_fallen : (place : ℕ) (old new : List ℕ) (c : Option ℕ) → slice_get old place ≡ c → ((n : ℕ) → slice_get old place ≡ Some n → n ≤ last_count) → IsRaised place old new → unwrap_or (slice_get old place) last_count ≤ unwrap_or (slice_get new place) last_count
at_place_not_fallen place old new None e fits r = rw (r.absent e) (omega arith)
at_place_not_fallen place old new (Some n) e fits r = let f : n ≤ last_count = fits n e in rw (r.there n e, e) (omega arith)

-- the count at no place fell
not_fallen : (place k : ℕ) (old new : List ℕ) → ((k ≡ place) ⊎ (k ≢ place)) → ((n : ℕ) → slice_get old place ≡ Some n → n ≤ last_count) → IsRaised place old new → unwrap_or (slice_get old k) last_count ≤ unwrap_or (slice_get new k) last_count
not_fallen place k old new (inl e) fits r = rw e (at_place_not_fallen place old new (slice_get old place) refl fits r)
not_fallen place k old new (inr d) fits r = rw (r.others k d) (omega arith)

same_by : (a b : ℕ) (t : Bool) → eqb a b ≡ t → (a ≡ b) ⊎ (a ≢ b)
same_by a b true h = inl ((Decides-eqb a b).0 h)
same_by a b false h = inr (λ e. let f : eqb a b ≡ true = (Decides-eqb a b).1 e in cc)

same_or_not : (a b : ℕ) → (a ≡ b) ⊎ (a ≢ b)
same_or_not a b = same_by a b (eqb a b) refl

name_not_fallen : (first : ℕ) (old new : List ℕ) (p : Option ℕ) → ((n : ℕ) → slice_get old first ≡ Some n → n ≤ last_count) → IsRaised first old new → unwrap_or (option_and_then (λ i. slice_get old i) p) last_count ≤ unwrap_or (option_and_then (λ i. slice_get new i) p) last_count
name_not_fallen first old new None fits r = omega arith
name_not_fallen first old new (Some k) fits r = not_fallen first k old new (same_or_not k first) fits r

name_kept : (first : ℕ) (old new : List ℕ) (p : Option ℕ) → (p ≡ Some first → ⊥) → IsRaised first old new → unwrap_or (option_and_then (λ i. slice_get new i) p) last_count ≡ unwrap_or (option_and_then (λ i. slice_get old i) p) last_count
name_kept first old new None d r = refl
name_kept first old new (Some k) d r = ap (λ c. unwrap_or c last_count) (r.others k (λ e. d (ap Some e)))

-- a raise at the first place of a name is a raise of that name's count alone
pub raised_only : (names : List (List ℕ)) (name : List ℕ) (first : ℕ) (old new : List ℕ) → place_of names name ≡ Some first → ((n : ℕ) → slice_get old first ≡ Some n → n ≤ last_count) → IsRaised first old new → RisesOnlyAt name (count_at names old) (count_at names new)
raised_only names name first old new p fits r = record {
  never_falls = λ n. name_not_fallen first old new (place_of names n) fits r;
  others = λ n d. name_kept first old new (place_of names n) (λ e. d (cc (at_place names n first e, at_place names name first p))) r;
}

pub raised_rose : (names : List (List ℕ)) (name : List ℕ) (first : ℕ) (old new : List ℕ) → place_of names name ≡ Some first → IsRaised first old new → Rose (count_at names old name) (count_at names new name)
raised_rose names name first old new p r = rw p (rose_by first old new (slice_get old first) refl r)

-- nothing stands past the end
pub past_end : {X : Type 0} (xs : List X) (i : ℕ) (P : X → Type 0) → length xs ≤ i → IfSome (slice_get xs i) P
past_end {X} xs i P h = subst (λ (o : Option X). IfSome o P) (sym (slice_get_past xs i h)) tt

-- a fact of what stands at a place
pub stands : {X : Type 0} (xs : List X) (i : ℕ) (x : X) (P : X → Type 0) → slice_get xs i ≡ Some x → P x → IfSome (slice_get xs i) P
stands {X} xs i x P e p = subst (λ (o : Option X). IfSome o P) (sym e) p
