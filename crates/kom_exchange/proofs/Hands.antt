-- What another worker does leaves a worker's hand as it is.
use Rattle.std.proofs.Common.{◌≡◌, ℕ, suc, ◌<◌, ◌≤◌, ◌≢◌, ◌==◌, not, cond, Bool, List, [], ◌∷◌, length, sym, refl, ap, ◌∙◌, arith, eq-eqb, ne_eqb, Some}
use Rattle.std.specs.Prelude.{filter, Option}
use Rattle.std.specs.List.{find}
use mathlib.Core.Logic.{dite}
use native.Mathlib.Decide.{ℕ_discrete}
use Rattle.kom_record.specs.declared.entry.Entry.TheVariants.{Took, Did, Moved}
use Rattle.kom_record.specs.Entries.{History, TakenJob, in_hand}

-- the takes fall, each below n
abbrev Falls : ℕ → List TakenJob → Type 0
Falls n [] = Unit {0}
Falls n (h ∷ hs) = (h.took < n) × Falls h.took hs

falls_wide : (n m : ℕ) (hs : List TakenJob) → n ≤ m → Falls n hs → Falls m hs
falls_wide n m [] le f = tt
falls_wide n m (h ∷ hs) le f = (let a = f.0 in omega arith, f.1)

abbrev pub others : ℕ → List TakenJob → List TakenJob
others took hs = filter (λ (h : TakenJob). not (h.took == took)) hs

abbrev pub of : ℕ → List TakenJob → Option TakenJob
of w hs = find (λ (h : TakenJob). h.w == w) hs

falls_filter : (n took : ℕ) (hs : List TakenJob) → Falls n hs → Falls n (others took hs)
falls_filter n took [] f = tt
falls_filter n took (h ∷ hs) f = dite (ℕ_discrete h.took took)
    (λ e. rw (eq-eqb h.took took e) (falls_wide h.took n (others took hs) (let a = f.0 in omega arith) (falls_filter h.took took hs f.1)))
    (λ d. rw (ne_eqb h.took took d) (f.0, falls_filter h.took took hs f.1))

pub falls : (P : History) → Falls (length P) (in_hand P)
unfolding in_hand
falls [] = tt
falls (Took w c item ∷ P) = (omega arith, falls P)
falls (Did w c took outcome to places ∷ P) = falls_wide (length P) (suc (length P)) (others took (in_hand P)) (omega arith) (falls_filter (length P) took (in_hand P) (falls P))
falls (Moved w t released ∷ P) = falls_wide (length P) (suc (length P)) (in_hand P) (omega arith) (falls P)

-- none of them is that take
none_such : (n took : ℕ) (hs : List TakenJob) → n ≤ took → Falls n hs → others took hs ≡ hs
none_such n took [] le f = refl
none_such n took (h ∷ hs) le f = let a = f.0 in let d : h.took ≢ took = λ e. absurd (omega arith) in rw (ne_eqb h.took took d) (ap (λ (l : List TakenJob). h ∷ l) (none_such h.took took hs (omega arith) f.1))

hand_else : (n took w : ℕ) (hs : List TakenJob) (j : TakenJob) → Falls n hs → find (λ (h : TakenJob). h.took == took) hs ≡ Some j → j.w ≢ w → of w (others took hs) ≡ of w hs
hand_else n took w [] j f is apart = absurd cc
hand_else n took w (h ∷ hs) j f is apart = dite (ℕ_discrete h.took took)
    (λ e. let at : Some h ≡ Some j = sym (ap (λ (b : Bool). cond b (Some h) (find (λ (x : TakenJob). x.took == took) hs)) (eq-eqb h.took took e)) ∙ is in let same : h ≡ j = cc in
    let d : h.w ≢ w = λ x. apart (ap (λ (y : TakenJob). y.w) (sym same) ∙ x) in
    rw (eq-eqb h.took took e, ne_eqb h.w w d) (ap (of w) (none_such h.took took hs (omega arith) f.1)))
    (λ d. let more : find (λ (x : TakenJob). x.took == took) hs ≡ Some j = sym (ap (λ (b : Bool). cond b (Some h) (find (λ (x : TakenJob). x.took == took) hs)) (ne_eqb h.took took d)) ∙ is in
    rw (ne_eqb h.took took d) (ap (λ (o : Option TakenJob). cond (h.w == w) (Some h) o) (hand_else h.took took w hs j f.1 more apart)))

-- the hand of w that is found is one of w's
pub hand_is : (w : ℕ) (hs : List TakenJob) (j : TakenJob) → of w hs ≡ Some j → j.w ≡ w
hand_is w [] j is = absurd cc
hand_is w (h ∷ hs) j is = dite (ℕ_discrete h.w w)
    (λ e. let at : Some h ≡ Some j = sym (ap (λ (b : Bool). cond b (Some h) (of w hs)) (eq-eqb h.w w e)) ∙ is in let same : h ≡ j = cc in ap (λ (y : TakenJob). y.w) (sym same) ∙ e)
    (λ d. hand_is w hs j (sym (ap (λ (b : Bool). cond b (Some h) (of w hs)) (ne_eqb h.w w d)) ∙ is))

-- what is found by its worker is found by its take, since no two have one take
below_of : (n w : ℕ) (hs : List TakenJob) (j : TakenJob) → Falls n hs → of w hs ≡ Some j → j.took < n
below_of n w [] j f is = absurd cc
below_of n w (h ∷ hs) j f is = dite (ℕ_discrete h.w w)
    (λ e. let at : Some h ≡ Some j = sym (ap (λ (b : Bool). cond b (Some h) (of w hs)) (eq-eqb h.w w e)) ∙ is in let same : h ≡ j = cc in let t : h.took ≡ j.took = ap (λ (y : TakenJob). y.took) same in let a = f.0 in omega arith)
    (λ d. let m = below_of h.took w hs j f.1 (sym (ap (λ (b : Bool). cond b (Some h) (of w hs)) (ne_eqb h.w w d)) ∙ is) in let a = f.0 in omega arith)

pub found_by : (n w : ℕ) (hs : List TakenJob) (j : TakenJob) → Falls n hs → of w hs ≡ Some j → find (λ (h : TakenJob). h.took == j.took) hs ≡ Some j
found_by n w [] j f is = absurd cc
found_by n w (h ∷ hs) j f is = dite (ℕ_discrete h.w w)
    (λ e. let at : Some h ≡ Some j = sym (ap (λ (b : Bool). cond b (Some h) (of w hs)) (eq-eqb h.w w e)) ∙ is in let same : h ≡ j = cc in
    rw (eq-eqb h.took j.took (ap (λ (y : TakenJob). y.took) same)) (ap Some same))
    (λ d. let more = sym (ap (λ (b : Bool). cond b (Some h) (of w hs)) (ne_eqb h.w w d)) ∙ is in let low = below_of h.took w hs j f.1 more in
    let n' : h.took ≢ j.took = λ e. absurd (omega arith) in rw (ne_eqb h.took j.took n') (found_by h.took w hs j f.1 more))

-- so the end of the job of w leaves the others
pub did_stays : (w x : ℕ) (P : History) (j : TakenJob) → x ≢ w → of w (in_hand P) ≡ Some j → of x (others j.took (in_hand P)) ≡ of x (in_hand P)
unfolding in_hand
did_stays w x P j apart is = hand_else (length P) j.took x (in_hand P) j (falls P) (found_by (length P) w (in_hand P) j (falls P) is) (λ e. apart (sym e ∙ hand_is w (in_hand P) j is))
