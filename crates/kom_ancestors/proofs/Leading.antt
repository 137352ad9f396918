-- Tables of steps: twice as many steps at once, and marks.
use Rattle.std.proofs.Common.{◌≡◌, ◌≢◌, ℕ, zero, suc, ◌+◌, ◌*◌, ◌<◌, ◌≤◌, Bool, true, false, ◌||◌, ◌==◌, List, [], ◌∷◌, ◌++◌, length, take, get_or, slice_index_or, slice_set, Option, Some, None, refl, sym, ap, ◌∙◌, arith, inl, inr}
use Rattle.std.proofs.Math.Path.{fun_ext}
use Rattle.std.specs.List.{list_any}
use Rattle.std.specs.Option.{option_and_then}
use Rattle.std.proofs.lemmas.Bool.{cases_eq, eq-eqb, ne_eqb}
use Rattle.std.proofs.lemmas.Grind.{get_or-set_at}
use Rattle.std.proofs.lemmas.List.{length-map, take_more, get_or-set_other}
use Rattle.kom_tables.proofs.Entries.{index_map}
use Rattle.kom_ancestors.specs.Far.{to, up, joined_to}

and_then_both : (f g : ℕ → Option ℕ) (o : Option ℕ) → option_and_then (λ a. option_and_then g (f a)) o ≡ option_and_then g (option_and_then f o)
and_then_both f g None = refl
and_then_both f g (Some a) = refl

-- steps add up
pub up_add : (m n : ℕ) (table : List (Option ℕ)) (a : ℕ) → up (m + n) table a ≡ option_and_then (up n table) (up m table a)
up_add zero n table a = let e : 0 + n ≡ n = omega arith in ap (λ k. up k table a) e
up_add (suc m) n table a =
    let e : suc m + n ≡ suc (m + n) = omega arith in
    let same : up (m + n) table ≡ (λ b. option_and_then (up n table) (up m table b)) = fun_ext (up_add m n table) in
    ap (λ k. up k table a) e ∙ ap (λ (f : ℕ → Option ℕ). option_and_then f (to table a)) same ∙ and_then_both (up m table) (up n table) (to table a)

one_step : (o : Option ℕ) → o ≡ option_and_then Some o
one_step None = refl
one_step (Some a) = refl

pub one_leads : (parents table : List (Option ℕ)) → table ≡ parents → (a : ℕ) → to table a ≡ up 1 parents a
one_leads parents table e a = ap (λ t. to t a) e ∙ one_step (to parents a)

pub twice_leads : (parents table now : List (Option ℕ)) (steps : ℕ) → ((a : ℕ) → to table a ≡ up steps parents a) → now ≡ joined_to table table → (a : ℕ) → to now a ≡ up (steps * 2) parents a
twice_leads parents table now steps leads e a =
    let same : to table ≡ up steps parents = fun_ext leads in
    let s : steps + steps ≡ steps * 2 = omega arith in
    ap (λ t. to t a) e ∙ index_map (option_and_then (to table)) None table a ∙ ap (λ (f : ℕ → Option ℕ). option_and_then f (f a)) same
    ∙ sym (up_add steps steps parents a) ∙ ap (λ k. up k parents a) s

pub twice_count : (table now : List (Option ℕ)) → now ≡ joined_to table table → length now ≡ length table
twice_count table now e = ap length e ∙ length-map table (option_and_then (to table))

-- ---- one entry more

or_grouped : (a b c : Bool) → (a || b) || c ≡ a || (b || c)
or_grouped true b c = refl
or_grouped false b c = refl

or_true : (a : Bool) → a || true ≡ true
or_true true = refl
or_true false = refl

or_last : (a : Bool) → a || false ≡ a
or_last true = refl
or_last false = refl

any_append : {A : Type 0} (p : A → Bool) (xs ys : List A) → list_any p (xs ++ ys) ≡ list_any p xs || list_any p ys
any_append p [] ys = refl
any_append p (x ∷ xs) ys = ap (λ b. p x || b) (any_append p xs ys) ∙ sym (or_grouped (p x) (list_any p xs) (list_any p ys))

pub any_more : {A : Type 0} (p : A → Bool) (xs : List A) (i : ℕ) (d : A) → i < length xs → list_any p (take (i + 1) xs) ≡ list_any p (take i xs) || p (get_or xs i d)
any_more p xs i d lt =
    ap (list_any p) (take_more xs i d lt) ∙ any_append p (take i xs) (get_or xs i d ∷ []) ∙ ap (λ b. list_any p (take i xs) || b) (or_last (p (get_or xs i d)))

-- ---- one mark more

marked_here : (marks : List Bool) (b number : ℕ) → number < length marks → b ≡ number → slice_index_or (slice_set marks number true) b false ≡ slice_index_or marks b false || (number == b)
marked_here marks b number h e =
    get_or-set_at marks number b true false e h ∙ sym (ap (λ x. slice_index_or marks b false || x) (eq-eqb number b (sym e)) ∙ or_true (slice_index_or marks b false))

marked_other : (marks : List Bool) (b number : ℕ) → b ≢ number → slice_index_or (slice_set marks number true) b false ≡ slice_index_or marks b false || (number == b)
marked_other marks b number differs =
    get_or-set_other marks number b true false differs ∙ sym (ap (λ x. slice_index_or marks b false || x) (ne_eqb number b (λ e. differs (sym e))) ∙ or_last (slice_index_or marks b false))

pub marked_more : (marks : List Bool) (b number : ℕ) → number < length marks → slice_index_or (slice_set marks number true) b false ≡ slice_index_or marks b false || (number == b)
marked_more marks b number h = elim (cases_eq b number) [ inl e ↦ marked_here marks b number h e | inr differs ↦ marked_other marks b number differs ]

-- a step past all numbers marks none of them
pub past_all : (marks : List Bool) (b number : ℕ) → b < length marks → length marks ≤ number → slice_index_or marks b false ≡ slice_index_or marks b false || (number == b)
past_all marks b number inside past =
    let differs : number ≢ b = λ e. absurd (omega arith) in
    sym (ap (λ x. slice_index_or marks b false || x) (ne_eqb number b differs) ∙ or_last (slice_index_or marks b false))
