-- The positions of a worker's entries in a history that grows.
use Rattle.std.proofs.Common.{◌≡◌, ℕ, ◌<◌, ◌≤◌, ◌≢◌, ◌==◌, ◌&&◌, Bool, true, false, leb, List, [], ◌∷◌, ◌++◌, length, sym, refl, ap, ◌∙◌, arith, append_assoc, eq-eqb, ne_eqb, length-append}
use Rattle.std.proofs.lemmas.List.{append-nil}
use Rattle.std.proofs.lemmas.Bool.{le-leb}
use Rattle.std.proofs.lemmas.Bool.Decides.{nat_tests}
use Rattle.kom_base.specs.Lists.{if_so}
use Rattle.kom_record.specs.declared.entry.Entry.{Entry}
use Rattle.kom_record.specs.Entries.{History}
use Rattle.kom_record.specs.Views.{worker_of, positions}
use Rattle.kom_exchange.specs.Later.{IsLater}

abbrev place_if : ℕ → ℕ → ℕ → Entry → List ℕ
place_if w from i e = if_so (worker_of e == w && leb from i) (i ∷ [])

place_else : (w from i : ℕ) (e : Entry) → worker_of e ≢ w → place_if w from i e ≡ []
place_else w from i e n = rw (ne_eqb (worker_of e) w n) refl

place_here : (w from i : ℕ) (e : Entry) → worker_of e ≡ w → from ≤ i → place_if w from i e ≡ i ∷ []
place_here w from i e is le = rw (eq-eqb (worker_of e) w is, le-leb from i le) refl

-- an entry of another worker changes nothing
pub places_other : (w from : ℕ) (P : History) (e : Entry) → worker_of e ≢ w → positions w from (e ∷ P) ≡ positions w from P
unfolding positions
places_other w from P e n = ap (λ (l : List ℕ). positions w from P ++ l) (place_else w from (length P) e n) ∙ append-nil (positions w from P)

-- an own one adds its position
pub places_own : (w from : ℕ) (P : History) (e : Entry) → worker_of e ≡ w → from ≤ length P → positions w from (e ∷ P) ≡ positions w from P ++ length P ∷ []
unfolding positions
places_own w from P e is le = ap (λ (l : List ℕ). positions w from P ++ l) (place_here w from (length P) e is le)

no_part : {A : Type 0} (xs ys : List A) → xs ++ ys ≡ [] → xs ≡ []
no_part [] ys e = refl
no_part (x ∷ xs) ys e = absurd cc

none_in : (w from : ℕ) (newer before : History) → positions w from (newer ++ before) ≡ [] → positions w from before ≡ []
unfolding positions
none_in w from [] before e = e
none_in w from (n ∷ ns) before e = none_in w from ns before (no_part (positions w from (ns ++ before)) (place_if w from (length (ns ++ before)) n) e)

-- what the later has none of, the earlier has none of
pub places_none : (w from : ℕ) (after before : History) → IsLater after before → positions w from after ≡ [] → positions w from before ≡ []
places_none w from after before l e = none_in w from l.0 before (ap (positions w from) (sym l.1) ∙ e)

place_early : (w from i : ℕ) (e : Entry) (b : Bool) → i < from → (worker_of e == w) ≡ b → place_if w from i e ≡ []
place_early w from i e true h is = let late : leb from i ≡ false = grind (arith, nat_tests) in rw (is, late) refl
place_early w from i e false h is = rw is refl

-- nothing stands before `from`
pub places_early : (w from : ℕ) (P : History) → length P ≤ from → positions w from P ≡ []
unfolding positions
places_early w from [] le = refl
places_early w from (e ∷ P) le = ap (λ (l : List ℕ). l ++ place_if w from (length P) e) (places_early w from P (omega arith)) ∙ place_early w from (length P) e (worker_of e == w) (omega arith) refl

-- ---- later histories

pub later_self : (P : History) → IsLater P P
later_self P = ([], refl)

pub later_more : (after before : History) (e : Entry) → IsLater after before → IsLater (e ∷ after) before
later_more after before e l = (e ∷ l.0, ap (λ (P : History). e ∷ P) l.1)

pub later_trans : (a b c : History) → IsLater a b → IsLater b c → IsLater a c
later_trans a b c p q = (p.0 ++ q.0, p.1 ∙ (ap (λ (P : History). p.0 ++ P) q.1 ∙ sym (append_assoc p.0 q.0 c)))

pub later_length : (after before : History) → IsLater after before → length before ≤ length after
later_length after before l = omega (arith, ap length l.1, length-append l.0 before)
