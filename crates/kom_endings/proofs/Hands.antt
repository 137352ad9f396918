-- The jobs in hand after a job has ended.
use Rattle.std.proofs.Common.{◌≡◌, ℕ, suc, ◌+◌, ◌<◌, ◌≤◌, Bool, true, false, if◌then◌else◌, not, ◌||◌, ◌==◌, refl, sym, ap, ◌∙◌, List, [], ◌∷◌, length, filter, Option, Some, None, arith}
use Rattle.std.specs.List.{find, list_any}
use Rattle.std.proofs.lemmas.Bool.{eqb-true, eq-eqb, ne_eqb}
use Rattle.kom_lang.specs.Declarations.{Declarations}
use Rattle.kom_record.specs.Model.{model}
use Rattle.kom_record.specs.declared.plan.Plan.{Plan}
use Rattle.kom_record.specs.declared.entry.Outcome.{Outcome}
use Rattle.kom_record.specs.declared.entry.Entry.TheVariants.{Took, Did, Moved}
use Rattle.kom_record.specs.Answers.{job_of}
use Rattle.kom_record.specs.Entries.{History, TakenJob, in_hand}
use Rattle.kom_record.specs.Legal.{IsLegal}
use Rattle.kom_laws.proofs.ActLaws.{in_filter, one_job}
use Rattle.kom_laws.proofs.Handlings.{found_in}
use Rattle.kom_laws.proofs.Members.{IsIn, here, there}

any_of : {X : Type 0} (p : X → Bool) (x : X) (xs : List X) → IsIn x xs → p x ≡ true → list_any p xs ≡ true
any_of p x [] h e = elim h [ ]
any_of p x' (x ∷ xs) here e = ap (λ b. b || list_any p xs) e
any_of p x (y ∷ xs) (there h) e = ap (λ b. p y || b) (any_of p x xs h e) ∙ on (p y)
  where
    on : (b : Bool) → (b || true) ≡ true
    on true = refl
    on false = refl

find_kept : {X : Type 0} (p r : X → Bool) (xs : List X) → ((x : X) → IsIn x xs → p x ≡ true → r x ≡ true) → find p (filter r xs) ≡ find p xs
find_kept p r [] h = refl
find_kept p r (x ∷ xs) h = go (p x) (r x) refl refl (find_kept p r xs (λ y m e. h y (there m) e))
  where
    go : (s t : Bool) → p x ≡ s → r x ≡ t → find p (filter r xs) ≡ find p xs → find p (filter r (x ∷ xs)) ≡ find p (x ∷ xs)
    go true true a b rest = ap (λ t. find p (if t then x ∷ filter r xs else filter r xs)) b ∙ ap (λ t. if t then Some x else find p (filter r xs)) a ∙ sym (ap (λ t. if t then Some x else find p xs) a)
    go true false a b rest = absurd (cc (h x here a, b))
    go false true a b rest = ap (λ t. find p (if t then x ∷ filter r xs else filter r xs)) b ∙ ap (λ t. if t then Some x else find p (filter r xs)) a ∙ rest ∙ sym (ap (λ t. if t then Some x else find p xs) a)
    go false false a b rest = ap (λ t. find p (if t then x ∷ filter r xs else filter r xs)) b ∙ rest ∙ sym (ap (λ t. if t then Some x else find p xs) a)

found_only : {X : Type 0} (p : X → Bool) (xs : List X) (h : X) → IsIn h xs → p h ≡ true → ((x : X) → IsIn x xs → p x ≡ true → x ≡ h) → find p xs ≡ Some h
found_only p [] h m e only = elim m [ ]
found_only p (h' ∷ xs) h here e only = ap (λ b. if b then Some h' else find p xs) e
found_only p (x ∷ xs) h (there m) e only = go (p x) refl (found_only p xs h m e (λ y n f. only y (there n) f))
  where
    go : (b : Bool) → p x ≡ b → find p xs ≡ Some h → find p (x ∷ xs) ≡ Some h
    go true t rest = ap (λ b. if b then Some x else find p xs) t ∙ ap Some (only x here t)
    go false t rest = ap (λ b. if b then Some x else find p xs) t ∙ rest

-- the job of a worker is found by its Took
pub by_took : (P : History) (w : ℕ) (hand : TakenJob) → job_of P w ≡ Some hand → find (λ j. j.took == hand.took) (in_hand P) ≡ Some hand
unfolding job_of
by_took P w hand found =
    let f = found_in (λ j. j.w == w) (in_hand P) hand found in
    found_only (λ j. j.took == hand.took) (in_hand P) hand f.0 (eq-eqb hand.took hand.took refl) (λ j m e. one_job P j hand m f.0 (eqb-true j.took hand.took e))

module _ (S : Declarations) (Z : Plan) where
  -- a worker has one job in hand at most
  pub one_job_by : (P : History) (g h : TakenJob) → IsLegal S Z P → IsIn g (in_hand P) → IsIn h (in_hand P) → g.w ≡ h.w → g ≡ h
  unfolding model
  one_job_by [] g h l m n e = elim m [ ]
  one_job_by (Took w c item ∷ P) g' h' l here here e = refl
  one_job_by (Took w c item ∷ P) g' h l here (there n) e = absurd (cc (l.1.free, any_of (λ j. j.w == w) h (in_hand P) n (eq-eqb h.w w (sym e))))
  one_job_by (Took w c item ∷ P) g h' l (there m) here e = absurd (cc (l.1.free, any_of (λ j. j.w == w) g (in_hand P) m (eq-eqb g.w w e)))
  one_job_by (Took w c item ∷ P) g h l (there m) (there n) e = one_job_by P g h l.0 m n e
  one_job_by (Did w c took o to places ∷ P) g h l m n e = one_job_by P g h l.0 (in_filter (λ j. not (j.took == took)) (in_hand P) g m).0 (in_filter (λ j. not (j.took == took)) (in_hand P) h n).0 e
  one_job_by (Moved w t released ∷ P) g h l m n e = one_job_by P g h l.0 m n e

  module _ (P : History) (w c : ℕ) (hand : TakenJob) (o : Outcome) (to : Option ℕ) (places : List ℕ) (legal : IsLegal S Z P) (found : job_of P w ≡ Some hand) where
    held : IsIn hand (in_hand P) × (hand.w == w) ≡ true
    unfolding job_of
    held = found_in (λ j. j.w == w) (in_hand P) hand found

    -- the worker has none then
    pub own_gone : job_of (Did w c hand.took o to places ∷ P) w ≡ None
    unfolding job_of in_hand
    own_gone = go (find (λ j. j.w == w) (filter (λ j. not (j.took == hand.took)) (in_hand P))) refl
      where
        go : (found : Option TakenJob) → find (λ j. j.w == w) (filter (λ j. not (j.took == hand.took)) (in_hand P)) ≡ found → find (λ j. j.w == w) (filter (λ j. not (j.took == hand.took)) (in_hand P)) ≡ None
        go None e = e
        go (Some j) e =
            let f = found_in (λ j. j.w == w) (filter (λ j. not (j.took == hand.took)) (in_hand P)) j e in
            let m = in_filter (λ j. not (j.took == hand.took)) (in_hand P) j f.0 in
            let same : j ≡ hand = one_job_by P j hand legal m.0 held.0 (eqb-true j.w w f.1 ∙ sym (eqb-true hand.w w held.1)) in
            absurd (cc (m.1, eq-eqb j.took hand.took (ap (λ j. j.took) same)))

    -- and each other has what it had
    pub other_stays : (q : ℕ) → (w == q) ≡ false → job_of (Did w c hand.took o to places ∷ P) q ≡ job_of P q
    unfolding job_of in_hand
    other_stays q apart = find_kept (λ j. j.w == q) (λ j. not (j.took == hand.took)) (in_hand P) (λ j m e. stays j m e (j.took == hand.took) refl)
      where
        stays : (j : TakenJob) → IsIn j (in_hand P) → (j.w == q) ≡ true → (t : Bool) → (j.took == hand.took) ≡ t → not (j.took == hand.took) ≡ true
        stays j m e false t = ap not t
        stays j m e true t =
            let same : j ≡ hand = one_job P j hand m held.0 (eqb-true j.took hand.took t) in
            let w_is : w ≡ q = sym (eqb-true hand.w w held.1) ∙ sym (ap (λ j. j.w) same) ∙ eqb-true j.w q e in
            absurd (cc (apart, eq-eqb w q w_is))

-- ---- how many there are

-- the positions of their Tooks fall
abbrev Falls : ℕ → List TakenJob → Type 0
Falls n [] = Unit {0}
Falls n (j ∷ js) = (j.took < n) × Falls j.took js

weaker : (n m : ℕ) (js : List TakenJob) → n ≤ m → Falls n js → Falls m js
weaker n m [] h f = tt
weaker n m (j ∷ js) h f = ((let a : j.took < n = f.0 in omega arith), f.1)

falls_filter : (p : TakenJob → Bool) (n : ℕ) (js : List TakenJob) → Falls n js → Falls n (filter p js)
falls_filter p n [] f = tt
falls_filter p n (j ∷ js) f =
    elim (p j) as (λ b. Falls n (if b then j ∷ filter p js else filter p js)) [
      | true ↦ (f.0, falls_filter p j.took js f.1)
      | false ↦ weaker j.took n (filter p js) (let a : j.took < n = f.0 in omega arith) (falls_filter p j.took js f.1)
    ]

falls : (P : History) → Falls (length P) (in_hand P)
unfolding model
falls [] = tt
falls (Took w c item ∷ P) = (omega arith, falls P)
falls (Did w c took o to places ∷ P) = weaker (length P) (suc (length P)) (filter (λ j. not (j.took == took)) (in_hand P)) (omega arith) (falls_filter (λ j. not (j.took == took)) (length P) (in_hand P) (falls P))
falls (Moved w t released ∷ P) = weaker (length P) (suc (length P)) (in_hand P) (omega arith) (falls P)

below_all : (n : ℕ) (js : List TakenJob) (h : TakenJob) → Falls n js → IsIn h js → h.took < n
below_all n [] h f m = elim m [ ]
below_all n (j ∷ js) h' f here = f.0
below_all n (j ∷ js) h f (there m) = let a = below_all j.took js h f.1 m in let b : j.took < n = f.0 in omega (arith, a)

none_out : (n t : ℕ) (js : List TakenJob) → n ≤ t → Falls n js → filter (λ j. not (j.took == t)) js ≡ js
none_out n t [] h f = refl
none_out n t (j ∷ js) h f =
    let a : j.took < n = f.0 in
    ap (λ b. if not b then j ∷ filter (λ j. not (j.took == t)) js else filter (λ j. not (j.took == t)) js) (ne_eqb j.took t (λ e. absurd (omega (arith, a, h, e))))
    ∙ ap (λ l. j ∷ l) (none_out j.took t js (omega arith) f.1)

one_out : (n t : ℕ) (js : List TakenJob) (h : TakenJob) → Falls n js → IsIn h js → h.took ≡ t → length (filter (λ j. not (j.took == t)) js) + 1 ≡ length js
one_out n t [] h f m e = elim m [ ]
one_out n t (j ∷ js) h' f here e =
    ap (λ b. length (if not b then j ∷ filter (λ j. not (j.took == t)) js else filter (λ j. not (j.took == t)) js) + 1) (eq-eqb j.took t e)
    ∙ ap (λ l. length l + 1) (none_out j.took t js (omega (arith, e)) f.1) ∙ (let a : length js + 1 ≡ suc (length js) = omega arith in a)
one_out n t (j ∷ js) h f (there m) e =
    let a = below_all j.took js h f.1 m in
    let r = one_out j.took t js h f.1 m e in
    ap (λ b. length (if not b then j ∷ filter (λ j. not (j.took == t)) js else filter (λ j. not (j.took == t)) js) + 1) (ne_eqb j.took t (λ s. absurd (omega (arith, a, e, s))))
    ∙ (let b : suc (length (filter (λ j. not (j.took == t)) js)) + 1 ≡ suc (length js) = omega (arith, r) in b)

-- one job less is in hand
pub one_less_job : (P : History) (w c : ℕ) (hand : TakenJob) (o : Outcome) (to : Option ℕ) (places : List ℕ) → job_of P w ≡ Some hand → length (in_hand (Did w c hand.took o to places ∷ P)) + 1 ≡ length (in_hand P)
unfolding job_of in_hand
one_less_job P w c hand o to places found = one_out (length P) hand.took (in_hand P) hand (falls P) (found_in (λ j. j.w == w) (in_hand P) hand found).0 refl
