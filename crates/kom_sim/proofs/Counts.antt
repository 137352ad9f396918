-- How often a component stands in a queue.
use Rattle.std.proofs.Common.{◌≡◌, ℕ, ◌+◌, Bool, true, false, cond, not, ◌||◌, ◌==◌, refl, sym, ap, ◌∙◌, List, [], ◌∷◌, ◌++◌, filter, None, Some, ◌<◌, length, get_or, take, slice_index_or, arith}
use Rattle.std.specs.List.{count_by}
use Rattle.std.specs.Prelude.{slice_get}
use Rattle.std.proofs.lemmas.Option.{slice_get_within, slice_get-get_or, get_or_from_slice_get}
use Rattle.std.proofs.lemmas.List.Sums.{sum_by-cons, sum_by_push, fold_more}
use Rattle.std.proofs.lemmas.Bool.{ne_eqb}
use Rattle.kom_base.specs.Lists.{holds_number}
use Rattle.kom_sim.specs.Line.{last_of_each, at_end, all_at_end}
use Rattle.kom_sim.proofs.Lines.{holds_append}

pub count_cons : {X : Type 0} (p : X → Bool) (x : X) (xs : List X) → count_by p (x ∷ xs) ≡ cond (p x) 1 0 + count_by p xs
count_cons p x xs = sum_by-cons (λ y. cond (p y) 1 0) x xs

-- whoever is counted is there
held_counted : (cs : List ℕ) (c : ℕ) → holds_number cs c ≡ not (count_by (λ d. d == c) cs == 0)
held_counted [] c = refl
held_counted (b ∷ cs) c = at (b == c) (held_counted cs c) ∙ sym (ap (λ n. not (n == 0)) (count_cons (λ d. d == c) b cs))
  where
    at : (e : Bool) → holds_number cs c ≡ not (count_by (λ d. d == c) cs == 0) → (e || holds_number cs c) ≡ not ((cond e 1 0 + count_by (λ d. d == c) cs) == 0)
    at true rest = let n = count_by (λ d. d == c) cs in sym (ap not (ne_eqb (1 + n) 0 (λ e. omega (arith, e))))
    at false rest = rest ∙ ap (λ n. not (n == 0)) (let n = count_by (λ d. d == c) cs in let e : n ≡ 0 + n = omega arith in e)

last_of_first : (c : ℕ) (cs : List ℕ) (gone : Bool) → gone ≡ (count_by (λ d. d == c) cs == 0) → last_of_each (c ∷ cs) ≡ cond gone (c ∷ last_of_each cs) (last_of_each cs)
last_of_first c cs gone e = ap (λ b. cond b (last_of_each cs) (c ∷ last_of_each cs)) (held_counted cs c ∙ ap not (sym e)) ∙ turned gone
  where
    turned : (b : Bool) → cond (not b) (last_of_each cs) (c ∷ last_of_each cs) ≡ cond b (c ∷ last_of_each cs) (last_of_each cs)
    turned true = refl
    turned false = refl

-- one more of those that go to the end
pub one_more_at_end : (cs ws : List ℕ) (i c : ℕ) → Some c ≡ slice_get ws i → all_at_end cs (take (i + 1) ws) ≡ at_end (all_at_end cs (take i ws)) c
one_more_at_end cs ws i c e = fold_more at_end cs ws i c (slice_get_within ws i c (sym e)) ∙ ap (at_end (all_at_end cs (take i ws))) (get_or_from_slice_get ws i c c (sym e))

pub none_within : (ws : List ℕ) (i : ℕ) → None ≡ slice_get ws i → i < length ws → ⊥
none_within ws i e l = let f : None ≡ Some (get_or ws i 0) = e ∙ slice_get-get_or ws i 0 l in cc

-- a queue to whose end c goes
pub last_at_end : (cs : List ℕ) (c : ℕ) → last_of_each (cs ++ c ∷ []) ≡ at_end (last_of_each cs) c
last_at_end [] c = refl
last_at_end (b ∷ cs) c =
    ap (λ h. cond h (last_of_each (cs ++ c ∷ [])) (b ∷ last_of_each (cs ++ c ∷ []))) (holds_append cs (c ∷ []) b)
    ∙ ap (λ l. cond (holds_number cs b || ((c == b) || false)) l (b ∷ l)) (last_at_end cs c)
    ∙ at (holds_number cs b) (c == b) refl
  where
    at : (h e : Bool) → (c == b) ≡ e → cond (h || (e || false)) (at_end (last_of_each cs) c) (b ∷ at_end (last_of_each cs) c) ≡ at_end (cond h (last_of_each cs) (b ∷ last_of_each cs)) c
    at true e q = refl
    at false true q = sym (ap (λ v. cond (not v) (b ∷ filter (λ d. not (c == d)) (last_of_each cs)) (filter (λ d. not (c == d)) (last_of_each cs)) ++ c ∷ []) q)
    at false false q = sym (ap (λ v. cond (not v) (b ∷ filter (λ d. not (c == d)) (last_of_each cs)) (filter (λ d. not (c == d)) (last_of_each cs)) ++ c ∷ []) q)

pub counted_at_end : (cs : List ℕ) (c d : ℕ) → count_by (λ b. b == d) (cs ++ c ∷ []) ≡ count_by (λ b. b == d) cs + cond (c == d) 1 0
counted_at_end cs c d = sum_by_push (λ b. cond (b == d) 1 0) cs c

module _ (old new : List ℕ) (c : ℕ) (queue rest : List ℕ)
    (popped : queue ≡ c ∷ rest)
    (counted : (d : ℕ) → slice_index_or old d 0 ≡ count_by (λ b. b == d) queue)
    (less : (d : ℕ) → slice_index_or old d 0 ≡ cond (c == d) 1 0 + slice_index_or new d 0) where
  -- the counts when the first has left the queue
  pub still_counted : (d : ℕ) → slice_index_or new d 0 ≡ count_by (λ b. b == d) rest
  still_counted d =
      let a : cond (c == d) 1 0 + slice_index_or new d 0 ≡ cond (c == d) 1 0 + count_by (λ b. b == d) rest = sym (less d) ∙ counted d ∙ ap (count_by (λ b. b == d)) popped ∙ count_cons (λ b. b == d) c rest in
      omega (arith, a)

  -- it was the last of its component in the queue, or another one counts
  pub last_of_popped : (gone : Bool) → gone ≡ (slice_index_or new c 0 == 0) → last_of_each queue ≡ cond gone (c ∷ last_of_each rest) (last_of_each rest)
  last_of_popped gone e = ap last_of_each popped ∙ last_of_first c rest gone (e ∙ ap (λ n. n == 0) (still_counted c))
