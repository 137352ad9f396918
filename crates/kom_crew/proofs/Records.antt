-- Records that several workers have added to.
use Rattle.std.proofs.Common.{◌≡◌, ◌⊎◌, ⊎_elim, inl, inr, ℕ, zero, suc, ◌<◌, ◌≤◌, Bool, true, false, ◌&&◌, ◌==◌, nat_le, cond, refl, sym, ap, ◌∙◌, subst, List, [], ◌∷◌, ◌++◌, length, length-append, arith, eq-eqb}
use Rattle.std.specs.Prelude.{Some, None}
use Rattle.std.specs.List.{find, AllByRecursion}
use Rattle.std.proofs.lemmas.Bool.{le-leb}
use Rattle.kom_base.specs.Lists.{if_so}
use Rattle.kom_record.specs.declared.entry.Entry.{Entry}
use Rattle.kom_record.specs.Entries.{History, TakenJob, in_hand}
use Rattle.kom_record.specs.Views.{positions, worker_of}
use Rattle.kom_record.specs.Answers.{IsFree, job_of}

pub lt_or_le : (m n : ℕ) → (m < n) ⊎ (n ≤ m)
lt_or_le m zero = inr (omega arith)
lt_or_le zero (suc n) = inl (omega arith)
lt_or_le (suc m) (suc n) = ⊎_elim (λ (h : m < n). inl (omega (arith, h))) (λ (h : n ≤ m). inr (omega (arith, h))) (lt_or_le m n)

-- ---- positions

all_append : {X : Type 0} (P : X → Type 0) (xs ys : List X) → AllByRecursion P xs → AllByRecursion P ys → AllByRecursion P (xs ++ ys)
all_append P [] ys a b = b
all_append P (x ∷ xs) ys a b = (a.0, all_append P xs ys a.1 b)

all_last : {X : Type 0} (P : X → Type 0) (xs : List X) (x : X) → AllByRecursion P (xs ++ x ∷ []) → P x
all_last P [] x a = a.0
all_last P (y ∷ xs) x a = all_last P xs x a.1

all_weaker : (n m : ℕ) (xs : List ℕ) → n ≤ m → AllByRecursion (λ p. p < n) xs → AllByRecursion (λ p. p < m) xs
all_weaker n m [] le a = tt
all_weaker n m (x ∷ xs) le a = (let h : x < n = a.0 in omega arith, all_weaker n m xs le a.1)

at_most_one : (b : Bool) (n : ℕ) → AllByRecursion (λ p. p < suc n) (if_so b (n ∷ []))
at_most_one true n = (omega arith, tt)
at_most_one false n = tt

-- a position of a record is below its length
pub positions_below : (w start : ℕ) (P : History) → AllByRecursion (λ p. p < length P) (positions w start P)
unfolding positions
positions_below w start [] = tt
positions_below w start (e ∷ P) =
    all_append (λ p. p < length (e ∷ P)) (positions w start P) (if_so (worker_of e == w && nat_le start (length P)) (length P ∷ []))
    (all_weaker (length P) (suc (length P)) (positions w start P) (omega arith) (positions_below w start P))
    (at_most_one (worker_of e == w && nat_le start (length P)) (length P))

both : (a b : Bool) → a ≡ true → b ≡ true → (a && b) ≡ true
both true b e f = f
both false b e f = absurd cc

at_least : (m n : ℕ) → m ≤ n → nat_le m n ≡ true
at_least m n le = le-leb m n le

-- what the newest entry adds to the positions of its worker
pub newest_at : (e : Entry) (start : ℕ) (P : History) → start ≤ length P → positions (worker_of e) start (e ∷ P) ≡ positions (worker_of e) start P ++ length P ∷ []
unfolding positions
newest_at e start P le = ap (λ b. positions (worker_of e) start P ++ if_so b (length P ∷ [])) (both (worker_of e == worker_of e) (nat_le start (length P)) (eq-eqb (worker_of e) (worker_of e) refl) (at_least start (length P) le))

not_empty : {X : Type 0} (xs : List X) (x : X) → xs ++ x ∷ [] ≡ [] → ⊥
not_empty [] x e = absurd cc
not_empty (y ∷ xs) x e = absurd cc

front_empty : {X : Type 0} (xs ys : List X) → xs ++ ys ≡ [] → xs ≡ []
front_empty [] ys e = refl
front_empty (x ∷ xs) ys e = absurd cc

-- where no worker from n on has a position, each newer entry is by a worker below n
pub by_workers : (n : ℕ) (given newer : History) → ((w : ℕ) → n ≤ w → positions w (length given) (newer ++ given) ≡ []) → AllByRecursion (λ e. worker_of e < n) newer
unfolding positions
by_workers n given [] none = tt
by_workers n given (e ∷ newer) none = (
  below (worker_of e) n (λ le. not_empty (positions (worker_of e) (length given) (newer ++ given)) (length (newer ++ given)) (sym (newest_at e (length given) (newer ++ given) (omega (arith, length-append newer given))) ∙ none (worker_of e) le)),
  by_workers n given newer (λ w le. older w le),
)
  where
    below : (w n : ℕ) → (n ≤ w → ⊥) → w < n
    below w n never = ⊎_elim (λ (lt : w < n). lt) (λ (le : n ≤ w). absurd (never le)) (lt_or_le w n)

    older : (w : ℕ) → n ≤ w → positions w (length given) (newer ++ given) ≡ []
    older w le = front_empty (positions w (length given) (newer ++ given)) (if_so (worker_of e == w && nat_le (length given) (length (newer ++ given))) (length (newer ++ given) ∷ [])) (none w le)

-- ---- the whole record

empty_of : {X : Type 0} (xs : List X) → length xs ≤ 0 → xs ≡ []
empty_of [] le = refl
empty_of (x ∷ xs) le = absurd (omega (arith, le))

-- of two records, where the one begins with the other and is no longer, they are one
pub no_longer : (after before newer : History) → after ≡ newer ++ before → length after ≤ length before → before ≡ after
no_longer after before newer e le = sym (e ∙ ap (λ (l : History). l ++ before) (empty_of newer (omega (arith, ap length e, length-append newer before))))

-- who has a position of the newest entry has seen the whole record
pub saw_newest : (e : Entry) (P seen newer : History) (start : ℕ) → start ≤ length P → (e ∷ P) ≡ newer ++ seen
    → positions (worker_of e) start seen ≡ positions (worker_of e) start (e ∷ P) → seen ≡ (e ∷ P)
saw_newest e P seen newer start le later same =
    let last : length P < length seen = all_last (λ p. p < length seen) (positions (worker_of e) start P) (length P)
    (subst (AllByRecursion (λ p. p < length seen)) (same ∙ newest_at e start P le) (positions_below (worker_of e) start seen)) in
    no_longer (e ∷ P) seen newer later (omega (arith, last))

-- ---- jobs in hand

-- where no worker has a job in hand, none is in hand
pub none_in_hand : (P : History) → ((w : ℕ) → IsFree P w) → in_hand P ≡ []
unfolding job_of
none_in_hand P free = go (in_hand P) free
  where
    go : (hs : List TakenJob) → ((w : ℕ) → find (λ j. j.w == w) hs ≡ None) → hs ≡ []
    go [] f = refl
    go (j ∷ hs) f = absurd (let e : Some j ≡ None = sym (ap (λ b. cond b (Some j) (find (λ (h : TakenJob). h.w == j.w) hs)) (eq-eqb j.w j.w refl)) ∙ f j.w in cc)

-- and then no worker has one
pub free_at_first : (P : History) (w : ℕ) → in_hand P ≡ [] → IsFree P w
unfolding job_of
free_at_first P w e = ap (find (λ (j : TakenJob). j.w == w)) e
