-- The names that are passed by some steps and then by some more.
use Rattle.std.proofs.Common.{◌≡◌, ℕ, zero, suc, ◌+◌, ◌*◌, ◌<◌, ◌≤◌, Bool, true, false, ◌||◌, List, [], ◌∷◌, ◌++◌, length, map, reverse, take, drop, get_or, slice_get, slice_index_or, Option, Some, None, if◌then◌else◌, refl, sym, ap, ◌∙◌, subst, arith, append-nil, append_assoc, unwrap_or, nat_lt, inl, inr}
use Rattle.std.proofs.Math.Path.{fun_ext}
use Rattle.std.specs.List.{flat_map}
use Rattle.std.specs.Option.{option_and_then, option_map_or}
use Rattle.std.proofs.lemmas.Bool.{cases_lt}
use Rattle.std.proofs.lemmas.Bool.Decides.{nat_tests}
use Rattle.std.proofs.lemmas.Option.{unwrap_or-slice_get, slice_get_past}
use Rattle.std.proofs.lemmas.List.{get_or_past, length-map, length-append, length-take-le, take-append-le, take_more, take_all, drop_more, drop_all, reverse-append}
use Rattle.std.proofs.lemmas.List.Concat.{flat_map-append}
use Rattle.kom_events.specs.declared.event_types.EventRow.{EventRow}
use Rattle.kom_system.specs.declared.parts.EventPart.{EventPart}
use Rattle.kom_system.specs.declared.parts.Parts.{Parts}
use Rattle.kom_rules.specs.Names.{Name, names_of, is_among}
use Rattle.kom_rules.specs.Spaces.{event_row, event_rows, own_attributes, attribute_names}
use Rattle.kom_rules.specs.Declaring.{has_repeat, has_wrong_attributes}
use Rattle.kom_tables.specs.Ancestry.{parents_in, line_up, names_along}
use Rattle.kom_tables.proofs.Ancestors.{rest_past, same_line}
use Rattle.kom_tables.proofs.Entries.{index_map}
use Rattle.kom_ancestors.specs.Far.{to, up, joined_to}
use Rattle.kom_ancestors.specs.declared.passed.Steps.{Steps}
use Rattle.kom_ancestors.specs.Passed.{passed, Passes, names_by}
use Rattle.kom_ancestors.proofs.Leading.{up_add, one_leads}

-- ---- beginnings of lists

take_take : {A : Type 0} (n m : ℕ) (xs : List A) → n ≤ m → take n (take m xs) ≡ take n xs
take_take zero m xs h = refl
take_take (suc n) zero xs h = absurd (omega arith)
take_take (suc n) (suc m) [] h = refl
take_take (suc n) (suc m) (x ∷ xs) h = ap (λ ys. x ∷ ys) (take_take n m xs (omega arith))

take_few : {A : Type 0} (n : ℕ) (xs : List A) → length (take n xs) ≤ n
take_few zero xs = omega arith
take_few (suc n) [] = omega arith
take_few (suc n) (x ∷ xs) = let h = take_few n xs in omega arith

take_short : {A : Type 0} (n : ℕ) (xs : List A) → length (take n xs) ≤ length xs
take_short zero xs = omega arith
take_short (suc n) [] = omega arith
take_short (suc n) (x ∷ xs) = let h = take_short n xs in omega arith

take_front : {A : Type 0} (n : ℕ) (xs ys : List A) → take n (take n xs ++ ys) ≡ take n (xs ++ ys)
take_front zero xs ys = refl
take_front (suc n) [] ys = refl
take_front (suc n) (x ∷ xs) ys = ap (λ zs. x ∷ zs) (take_front n xs ys)

take_back : {A : Type 0} (n m : ℕ) (xs ys : List A) → n ≤ m → take n (xs ++ take m ys) ≡ take n (xs ++ ys)
take_back n m [] ys h = take_take n m ys h
take_back zero m (x ∷ xs) ys h = refl
take_back (suc n) m (x ∷ xs) ys h = ap (λ zs. x ∷ zs) (take_back n m xs ys (omega arith))

take_both : (xs ys : List Name) → take 9 (take 9 (take 9 xs) ++ take 9 ys) ≡ take 9 (xs ++ ys)
take_both xs ys =
    ap (λ zs. take 9 (zs ++ take 9 ys)) (take_take 9 9 xs (omega arith)) ∙ take_front 9 xs (take 9 ys) ∙ take_back 9 9 xs ys (omega arith)

-- one name more
take_push : (list all : List Name) (y : Name) → list ≡ take 9 all → length list < 9 → list ++ y ∷ [] ≡ take 9 (all ++ y ∷ [])
take_push list all y e h =
    let few : length all ≤ 9 = by_length (length all) refl in
    let whole : list ≡ all = e ∙ take_all 9 all few in
    let long : length (all ++ y ∷ []) ≤ 9 = simp length-append (omega (arith, ap length whole)) in
    ap (λ zs. zs ++ y ∷ []) whole ∙ sym (take_all 9 (all ++ y ∷ []) long) where
      by_length : (n : ℕ) → length all ≡ n → length all ≤ 9
      by_length n is = elim (cases_lt (length all) 9) [ inl lt ↦ omega arith | inr le ↦ absurd (omega (arith, length-take-le 9 all, ap length e)) ]

take_full : (list all : List Name) (y : Name) → list ≡ take 9 all → 9 ≤ length list → list ≡ take 9 (all ++ y ∷ [])
take_full list all y e h =
    let long : length (take 9 all) ≤ length all = take_short 9 all in
    let many : 9 ≤ length all = omega (arith, ap length e) in
    e ∙ sym (take-append-le 9 all (y ∷ []) many)

push_more : (old list now : List Name) (more : List Name) (i : ℕ) (y : Name) → i < length more → y ≡ get_or more i y → list ≡ take 9 (old ++ take i more) → length list < 9 → now ≡ list ++ y ∷ [] → now ≡ take 9 (old ++ take (i + 1) more)
push_more old list now more i y lt is e h pushed =
    let all : old ++ take (i + 1) more ≡ (old ++ take i more) ++ y ∷ [] =
    ap (λ zs. old ++ zs) (take_more more i y lt ∙ ap (λ z. take i more ++ z ∷ []) (sym is)) ∙ sym (append_assoc old (take i more) (y ∷ [])) in
    pushed ∙ take_push list (old ++ take i more) y e h ∙ ap (take 9) (sym all)

push_none : (old list : List Name) (more : List Name) (i : ℕ) (y : Name) → i < length more → y ≡ get_or more i y → list ≡ take 9 (old ++ take i more) → 9 ≤ length list → list ≡ take 9 (old ++ take (i + 1) more)
push_none old list more i y lt is e h =
    let all : old ++ take (i + 1) more ≡ (old ++ take i more) ++ y ∷ [] =
    ap (λ zs. old ++ zs) (take_more more i y lt ∙ ap (λ z. take i more ++ z ∷ []) (sym is)) ∙ sym (append_assoc old (take i more) (y ∷ [])) in
    take_full list (old ++ take i more) y e h ∙ ap (take 9) (sym all)

pub push_few : (old list now : List Name) (more : List Name) (i : ℕ) (y : Name) → i < length more → y ≡ get_or more i y → list ≡ take 9 (old ++ take i more) → now ≡ (if nat_lt (length list) 9 then list ++ y ∷ [] else list) → now ≡ take 9 (old ++ take (i + 1) more)
push_few old list now more i y lt is e made = elim (cases_lt (length list) 9) [
  | inl few ↦ let t : nat_lt (length list) 9 ≡ true = grind (arith, nat_tests) in push_more old list now more i y lt is e few (made ∙ ap (λ (b : Bool). if b then list ++ y ∷ [] else list) t)
  | inr full ↦ let t : nat_lt (length list) 9 ≡ false = grind (arith, nat_tests) in made ∙ ap (λ (b : Bool). if b then list ++ y ∷ [] else list) t ∙ push_none old list more i y lt is e full
]

pub push_begins : (old : List Name) → length old ≤ 9 → old ≡ take 9 (old ++ [])
push_begins old h = sym (ap (take 9) (append-nil old) ∙ take_all 9 old h)

pub no_more_than_nine : (xs : List Name) → length (take 9 xs) ≤ 9
no_more_than_nine xs = take_few 9 xs

-- ---- lines of some steps and then of some more

line_next : (m n : ℕ) (parents : List (Option ℕ)) (k : ℕ) (o : Option ℕ) → ((q : ℕ) → line_up (m + n) parents q ≡ line_up m parents q ++ option_map_or (line_up n parents) (up m parents q) [])
    → k ∷ option_map_or (line_up (m + n) parents) o [] ≡ (k ∷ option_map_or (line_up m parents) o []) ++ option_map_or (line_up n parents) (option_and_then (up m parents) o) []
line_next m n parents k None rest = refl
line_next m n parents k (Some q) rest = ap (λ xs. k ∷ xs) (rest q)

line_got : (m n : ℕ) (parents : List (Option ℕ)) (k : ℕ) (got : Option (Option ℕ)) → ((q : ℕ) → line_up (m + n) parents q ≡ line_up m parents q ++ option_map_or (line_up n parents) (up m parents q) [])
    → option_map_or (λ parent. k ∷ option_map_or (line_up (m + n) parents) parent []) got []
    ≡ option_map_or (λ parent. k ∷ option_map_or (line_up m parents) parent []) got [] ++ option_map_or (line_up n parents) (option_and_then (up m parents) (unwrap_or got None)) []
line_got m n parents k None rest = refl
line_got m n parents k (Some o) rest = line_next m n parents k o rest

line_add : (m n : ℕ) (parents : List (Option ℕ)) (k : ℕ) → line_up (m + n) parents k ≡ line_up m parents k ++ option_map_or (line_up n parents) (up m parents k) []
line_add zero n parents k = let e : 0 + n ≡ n = omega arith in ap (λ i. line_up i parents k) e
line_add (suc m) n parents k =
    let e : suc m + n ≡ suc (m + n) = omega arith in
    ap (λ i. line_up i parents k) e ∙ line_got m n parents k (slice_get parents k) (line_add m n parents)
    ∙ ap (λ o. line_up (suc m) parents k ++ option_map_or (line_up n parents) (option_and_then (up m parents) o) []) (unwrap_or-slice_get parents k None)

along_append : (own : List (List Name)) (xs ys : List ℕ) → names_along own (xs ++ ys) ≡ names_along own ys ++ names_along own xs
along_append own xs ys =
    ap (flat_map (λ a. slice_index_or own a [])) (reverse-append xs ys) ∙ flat_map-append (λ (a : ℕ). slice_index_or own a []) (reverse ys) (reverse xs)

passed_by : (n : ℕ) (parents : List (Option ℕ)) (own : List (List Name)) (o : Option ℕ) → option_map_or (passed n parents own) o [] ≡ take 9 (names_along own (option_map_or (line_up n parents) o []))
passed_by n parents own None = refl
passed_by n parents own (Some k) = refl

passed_add : (m n : ℕ) (parents : List (Option ℕ)) (own : List (List Name)) (k : ℕ)
    → take 9 (take 9 (option_map_or (passed n parents own) (up m parents k) []) ++ passed m parents own k) ≡ passed (m + n) parents own k
passed_add m n parents own k =
    let behind = option_map_or (line_up n parents) (up m parents k) [] in
    ap (λ xs. take 9 (take 9 xs ++ passed m parents own k)) (passed_by n parents own (up m parents k))
    ∙ take_both (names_along own behind) (names_along own (line_up m parents k))
    ∙ ap (take 9) (sym (along_append own (line_up m parents k) behind))
    ∙ ap (λ line. take 9 (names_along own line)) (sym (line_add m n parents k))

-- ---- tables of steps

past_to : (parents : List (Option ℕ)) (k : ℕ) → length parents ≤ k → to parents k ≡ None
past_to parents k h = get_or_past parents k None h

past_up : (n : ℕ) (parents : List (Option ℕ)) (k : ℕ) → length parents ≤ k → 1 ≤ n → up n parents k ≡ None
past_up zero parents k h some = absurd (omega arith)
past_up (suc n) parents k h some = ap (option_and_then (up n parents)) (past_to parents k h)

past_passed : (n : ℕ) (parents : List (Option ℕ)) (own : List (List Name)) (k : ℕ) → length parents ≤ k → passed n parents own k ≡ []
past_passed n parents own k h = ap (λ line. take 9 (names_along own line)) (rest_past n parents k (slice_get_past parents k h))

no_some : {A : Type 0} {x : A} → Some x ≡ None → ⊥
no_some e = cc

none_past : {A : Type 0} (xs : List A) (k : ℕ) → slice_get xs k ≡ None → length xs ≤ k
none_past [] k e = omega arith
none_past (x ∷ xs) zero e = absurd (no_some e)
none_past (x ∷ xs) (suc k) e = let h = none_past xs k e in omega arith

module _ (parents : List (Option ℕ)) (own : List (List Name)) where
  everywhere : (steps : Steps) (n : ℕ) → Passes steps n parents own → 1 ≤ n → (k : ℕ) → to steps.to k ≡ up n parents k
  everywhere steps n are some k = elim (cases_lt k (length parents)) [
    | inl lt ↦ are.to k lt
    | inr le ↦ get_or_past steps.to k None (omega (arith, are.count)) ∙ sym (past_up n parents k le some)
  ]

  joined_leads : (first after : Steps) (both : List (Option ℕ)) (m n : ℕ) → Passes first m parents own → Passes after n parents own → 1 ≤ n → both ≡ joined_to first.to after.to
      → (k : ℕ) → k < length parents → to both k ≡ up (m + n) parents k
  joined_leads first after both m n are more some e k lt =
      let same : to after.to ≡ up n parents = fun_ext (everywhere after n more some) in
      ap (λ t. to t k) e ∙ index_map (option_and_then (to after.to)) None first.to k ∙ ap (λ (f : ℕ → Option ℕ). option_and_then f (to first.to k)) same
      ∙ ap (option_and_then (up n parents)) (are.to k lt) ∙ sym (up_add m n parents k)

  joined_within : (first after : Steps) (m n : ℕ) → Passes first m parents own → Passes after n parents own → (k : ℕ) → k < length parents
      → take 9 (take 9 (names_by after.names (to first.to k)) ++ slice_index_or first.names k []) ≡ passed (m + n) parents own k
  joined_within first after m n are more k lt =
      let same : (λ b. slice_index_or after.names b []) ≡ passed n parents own = fun_ext more.names in
      ap (λ o. take 9 (take 9 (names_by after.names o) ++ slice_index_or first.names k [])) (are.to k lt)
      ∙ ap (λ (f : ℕ → List Name). take 9 (take 9 (option_map_or f (up m parents k) []) ++ slice_index_or first.names k [])) same
      ∙ ap (λ xs. take 9 (take 9 (option_map_or (passed n parents own) (up m parents k) []) ++ xs)) (are.names k)
      ∙ passed_add m n parents own k

  pub joined_passes : (first after now : Steps) (m n : ℕ) → Passes first m parents own → Passes after n parents own → 1 ≤ n → now.to ≡ joined_to first.to after.to → length now.names ≡ length first.names
      → ((k : ℕ) → k < length first.names → slice_index_or now.names k [] ≡ take 9 (take 9 (names_by after.names (to first.to k)) ++ slice_index_or first.names k [])) → Passes now (m + n) parents own
  joined_passes first after now m n are more some e count each = record {
    count = ap length e ∙ length-map first.to (option_and_then (to after.to)) ∙ are.count;
    to = joined_leads first after now.to m n are more some e;
    as_many = count ∙ are.as_many;
    names = λ k. elim (cases_lt k (length parents)) [
      | inl lt ↦ each k (omega (arith, are.as_many)) ∙ joined_within first after m n are more k lt
      | inr le ↦ get_or_past now.names k [] (omega (arith, count, are.as_many)) ∙ sym (past_passed (m + n) parents own k le)
    ];
  }

  pub none_pass : (steps : Steps) → length steps.to ≡ length parents → ((k : ℕ) → k < length parents → to steps.to k ≡ Some k) → length steps.names ≡ length parents → ((k : ℕ) → k < length parents → slice_index_or steps.names k [] ≡ []) → Passes steps 0 parents own
  none_pass steps count leads many none = record {
    count = count;
    to = leads;
    as_many = many;
    names = λ k. elim (cases_lt k (length parents)) [ inl lt ↦ none k lt | inr le ↦ get_or_past steps.names k [] (omega arith) ];
  }

  one_name : (k : ℕ) (got : Option (Option ℕ)) → slice_get parents k ≡ got → length own ≡ length parents → take 9 (slice_index_or own k []) ≡ take 9 (names_along own (option_map_or (λ parent. k ∷ option_map_or (line_up 0 parents) parent []) got []))
  one_name k None e same = let h : length parents ≤ k = none_past parents k e in ap (take 9) (get_or_past own k [] (omega (arith, same, h)))
  one_name k (Some None) e same = ap (take 9) (sym (append-nil (slice_index_or own k [])))
  one_name k (Some (Some p)) e same = ap (take 9) (sym (append-nil (slice_index_or own k [])))

  pub one_passes : (steps : Steps) → length own ≡ length parents → steps.to ≡ parents → steps.names ≡ map (λ list. take 9 (take 9 [] ++ list)) own → Passes steps 1 parents own
  one_passes steps same e names = record {
    count = ap length e;
    to = λ k lt. one_leads parents steps.to e k;
    as_many = ap length names ∙ length-map own (λ list. take 9 (take 9 [] ++ list)) ∙ same;
    names = λ k. ap (λ t. slice_index_or t k []) names ∙ index_map (λ (list : List Name). take 9 (take 9 [] ++ list)) [] own k ∙ one_name k (slice_get parents k) refl same;
  }

-- some steps are done, and what is left is a multiple of some others
pub record Doubling (done power : Steps) (left n : ℕ) (parents : List (Option ℕ)) (own : List (List Name)) : Type 0 where
  pub m : ℕ
  pub p : ℕ
  pub done_passes : Passes done m parents own
  pub power_passes : Passes power p parents own
  pub some : 1 ≤ p
  pub together : m + p * left ≡ n

halved : (m p left half rest n : ℕ) → left ≡ half * 2 + rest → m + p * left ≡ n → (m + p * rest) + (p + p) * half ≡ n
halved m p left half rest n e h =
    let a : p * left ≡ p * (half * 2 + rest) = ap (λ x. p * x) e in
    let b : p * (half * 2 + rest) ≡ (p + p) * half + p * rest = grind arith in
    omega arith

more_done : (done : Steps) (m p : ℕ) (odd : Bool) (rest : ℕ) (parents : List (Option ℕ)) (own : List (List Name)) → (odd ≡ true → rest ≡ 1) → (odd ≡ false → rest ≡ 0) → Passes done (if odd then m + p else m) parents own → Passes done (m + p * rest) parents own
more_done done m p true rest parents own odd_one even_none are =
    let is : rest ≡ 1 = odd_one refl in
    let e : m + p ≡ m + p * rest = rw is (omega arith) in
    subst (λ n. Passes done n parents own) e are
more_done done m p false rest parents own odd_one even_none are =
    let is : rest ≡ 0 = even_none refl in
    let e : m ≡ m + p * rest = rw is (omega arith) in
    subst (λ n. Passes done n parents own) e are

pub doubling_more : (done power now twice : Steps) (left half rest n : ℕ) (odd : Bool) (parents : List (Option ℕ)) (own : List (List Name)) → left ≡ half * 2 + rest → (odd ≡ true → rest ≡ 1) → (odd ≡ false → rest ≡ 0)
    → (was : Doubling done power left n parents own)
    → ((m p : ℕ) → Passes done m parents own → Passes power p parents own → 1 ≤ p → Passes now (if odd then m + p else m) parents own)
    → ((m p : ℕ) → Passes power m parents own → Passes power p parents own → 1 ≤ p → Passes twice (m + p) parents own)
    → Doubling now twice half n parents own
doubling_more done power now twice left half rest n odd parents own e odd_one even_none was more double = record {
  m = was.m + was.p * rest;
  p = was.p + was.p;
  done_passes = more_done now was.m was.p odd rest parents own odd_one even_none (more was.m was.p was.done_passes was.power_passes was.some);
  power_passes = double was.p was.p was.power_passes was.power_passes was.some;
  some = let h : 1 ≤ was.p = was.some in omega arith;
  together = halved was.m was.p left half rest n e was.together;
}

pub doubling_begins : (done power : Steps) (n : ℕ) (parents : List (Option ℕ)) (own : List (List Name)) → Passes done 0 parents own → Passes power 1 parents own → Doubling done power n n parents own
doubling_begins done power n parents own none one = record { m = 0; p = 1; done_passes = none; power_passes = one; some = omega arith; together = omega arith }

pub doubling_ends : (done power : Steps) (left n : ℕ) (parents : List (Option ℕ)) (own : List (List Name)) → left ≡ 0 → Doubling done power left n parents own → Passes done n parents own
doubling_ends done power left n parents own none was =
    let a : was.p * left ≡ was.p * 0 = ap (λ x. was.p * x) none in
    let e : was.m ≡ n = omega (arith, was.together) in
    subst (λ k. Passes done k parents own) e was.done_passes

-- ---- the rule

same_length : (P : Parts) → length (own_attributes P) ≡ length (event_rows P)
same_length P =
    let a : length (map (λ (e : EventPart). names_of e.attrs) P.events) ≡ length P.events = length-map P.events (λ e. names_of e.attrs) in
    let b : length (map (event_row P) P.events) ≡ length P.events = length-map P.events (event_row P) in
    omega arith

pub own_are_enough : (P : Parts) (parents : List (Option ℕ)) (own : List (List Name)) → parents ≡ parents_in (event_rows P) → own ≡ own_attributes P → length own ≡ length parents
own_are_enough P parents own e f =
    let a : length (map (λ (row : EventRow). row.parent) (event_rows P)) ≡ length (event_rows P) = length-map (event_rows P) (λ row. row.parent) in
    ap length f ∙ same_length P ∙ sym (ap length e ∙ a)

pub all_passed : (P : Parts) (parents : List (Option ℕ)) (own : List (List Name)) (steps : Steps) → parents ≡ parents_in (event_rows P) → own ≡ own_attributes P → Passes steps (length parents) parents own
    → (k : ℕ) → slice_index_or steps.names k [] ≡ take 9 (attribute_names P k)
all_passed P parents own steps e f are k =
    let rows = event_rows P in
    let many : length (parents_in rows) ≡ length rows = length-map rows (λ row. row.parent) in
    are.names k
    ∙ ap (λ (ps : List (Option ℕ)). take 9 (names_along own (line_up (length ps) ps k))) e
    ∙ ap (λ (o : List (List Name)). take 9 (names_along o (line_up (length (parents_in rows)) (parents_in rows) k))) f
    ∙ ap (λ n. take 9 (names_along (own_attributes P) (line_up n (parents_in rows) k))) many
    ∙ ap (λ line. take 9 (names_along (own_attributes P) line)) (same_line (length rows) rows k)

wrong_if_many : (xs : List Name) → 8 < length xs → has_wrong_attributes xs ≡ true
wrong_if_many xs h = let e : nat_lt 8 (length xs) ≡ true = grind (arith, nat_tests) in rw e refl

pub wrong_by_nine : (xs : List Name) → has_wrong_attributes (take 9 xs) ≡ has_wrong_attributes xs
wrong_by_nine xs = elim (cases_lt 8 (length xs)) [
  | inl many ↦ wrong_if_many (take 9 xs) (omega (arith, length-take-le 9 xs)) ∙ sym (wrong_if_many xs many)
  | inr few ↦ ap has_wrong_attributes (take_all 9 xs (omega arith))
]

-- ---- two equal names

pub repeat_here : (names : List Name) (i : ℕ) (x : Name) → i < length names → x ≡ get_or names i x → is_among (drop (i + 1) names) x ≡ true → has_repeat names ≡ has_repeat (drop i names) → true ≡ has_repeat names
repeat_here names i x lt is found e =
    let s : drop i names ≡ x ∷ drop (i + 1) names = drop_more names i x lt ∙ ap (λ y. y ∷ drop (i + 1) names) (sym is) in
    sym (e ∙ ap has_repeat s ∙ ap (λ b. b || has_repeat (drop (i + 1) names)) found)

pub repeat_later : (names : List Name) (i : ℕ) (x : Name) → i < length names → x ≡ get_or names i x → is_among (drop (i + 1) names) x ≡ false → has_repeat names ≡ has_repeat (drop i names) → has_repeat names ≡ has_repeat (drop (i + 1) names)
repeat_later names i x lt is found e =
    let s : drop i names ≡ x ∷ drop (i + 1) names = drop_more names i x lt ∙ ap (λ y. y ∷ drop (i + 1) names) (sym is) in
    e ∙ ap has_repeat s ∙ ap (λ b. b || has_repeat (drop (i + 1) names)) found

pub repeat_none : (names : List Name) (i : ℕ) → length names ≤ i → has_repeat names ≡ has_repeat (drop i names) → false ≡ has_repeat names
repeat_none names i h e = sym (e ∙ ap has_repeat (drop_all i names h))
