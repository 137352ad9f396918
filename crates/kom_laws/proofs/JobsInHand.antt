-- A job in hand stays in hand while other workers add entries.
use Rattle.std.proofs.Common.{◌≡◌, ℕ, Bool, true, false, cond, not, refl, sym, ap, ◌∙◌, List, [], ◌∷◌, filter, Option, Some, None, inl, inr, ◌==◌, nat_eq, if◌then◌else◌}
use Rattle.std.specs.List.{find}
use Rattle.std.proofs.lemmas.Bool.{eqb-true}
use Rattle.std.proofs.lemmas.Bool.Decides.{eqb_tells}
use Rattle.kom_system.specs.declared.system.System.{System}
use Rattle.kom_record.specs.declared.plan.Plan.{Plan}
use Rattle.kom_record.specs.declared.item.Item.{Item}
use Rattle.kom_record.specs.declared.entry.Outcome.{Outcome}
use Rattle.kom_record.specs.declared.entry.Entry.{Entry}
use Rattle.kom_record.specs.declared.entry.Entry.TheVariants.{Took, Did, Moved}
use Rattle.kom_record.specs.declared.job.Job.{Job}
use Rattle.kom_record.specs.Entries.{History, TakenJob, in_hand}
use Rattle.kom_record.specs.Bodies.{body_at, outcome_of}
use Rattle.kom_record.specs.Views.{worker_of}
use Rattle.kom_record.specs.Answers.{IsInHand, job_of}
use Rattle.kom_record.specs.Legal.{IsLegal, MayDo}
use Rattle.kom_laws.proofs.ActLaws.{one_job}
use Rattle.kom_laws.proofs.ControlLaws.{body_born, body_other, body_took}
use Rattle.kom_laws.proofs.Handlings.{found_in, last_allowed, legal_before, one_job_of}

unequal : (a b : ℕ) → (a ≡ b → ⊥) → nat_eq a b ≡ false
unequal a b h = elim (eqb_tells a b) [ inl t ↦ absurd (h t.1) | inr t ↦ t.0 ]

find_at : {X : Type 0} (p q : X → Bool) (x h : X) (xs : List X) (s t : Bool) → p x ≡ s → q x ≡ t → cond (p x) (Some x) (find p xs) ≡ Some h → q h ≡ true
    → (find p xs ≡ Some h → find p (filter q xs) ≡ Some h) → find p (cond t (x ∷ filter q xs) (filter q xs)) ≡ Some h
find_at p q x h xs true true a b e k rest = ap (λ t. cond t (Some x) (find p (filter q xs))) a ∙ (ap (λ t. cond t (Some x) (find p xs)) (sym a) ∙ e)
find_at p q x h xs true false a b e k rest =
    let s : Some x ≡ Some h = ap (λ t. cond t (Some x) (find p xs)) (sym a) ∙ e in
    let f : x ≡ h = cc in
    absurd (let g : true ≡ false = sym k ∙ ap q (sym f) ∙ b in cc)
find_at p q x h xs false true a b e k rest =
    ap (λ t. cond t (Some x) (find p (filter q xs))) a ∙ rest (ap (λ t. cond t (Some x) (find p xs)) (sym a) ∙ e)
find_at p q x h xs false false a b e k rest = rest (ap (λ t. cond t (Some x) (find p xs)) (sym a) ∙ e)

-- what is found is still found where a filter keeps it
find_filter : {X : Type 0} (p q : X → Bool) (xs : List X) (h : X) → find p xs ≡ Some h → q h ≡ true → find p (filter q xs) ≡ Some h
find_filter p q [] h e k = absurd cc
find_filter p q (x ∷ xs) h e k = find_at p q x h xs (p x) (q x) refl refl e k (λ f. find_filter p q xs h f k)

module _ (S : System) (Z : Plan) (P : History) (job : Job) (k : IsInHand S P job) where
  found : find (λ j. j.w == job.w) (in_hand P) ≡ Some k.hand
  unfolding job_of
  found = k.found

  own : (k.hand.w == job.w) ≡ true
  own = (found_in (λ j. j.w == job.w) (in_hand P) k.hand found).1

  stays : (e : Entry) → job_of (e ∷ P) job.w ≡ Some k.hand → body_at S.declarations (e ∷ P) job.c ≡ body_at S.declarations P job.c → IsInHand S (e ∷ P) job
  stays e f b = record { hand = k.hand; found = f; component = k.component; item = k.item; body = b ∙ k.body; system = k.system }

  after_took : (w c : ℕ) (item : Item) → (w ≡ job.w → ⊥) → job_of (Took w c item ∷ P) job.w ≡ Some k.hand
  unfolding job_of in_hand
  after_took w c item h = ap (λ t. cond t (Some (record { took = Rattle.std.specs.Prelude.length P; w = w; c = c; item = item })) (find (λ j. j.w == job.w) (in_hand P))) (unequal w job.w h) ∙ found

  after_did : (w c took : ℕ) (o : Outcome) (to : Option ℕ) (places : List ℕ) → (k.hand.took ≡ took → ⊥) → job_of (Did w c took o to places ∷ P) job.w ≡ Some k.hand
  unfolding job_of in_hand
  after_did w c took o to places h = find_filter (λ j. j.w == job.w) (λ j. not (j.took == took)) (in_hand P) k.hand found (ap not (unequal k.hand.took took h))

  -- the job that a Did of another worker ends is another
  others : (w c took : ℕ) (o : Outcome) (to : Option ℕ) (places : List ℕ) → MayDo S.declarations Z P w c took o to places → (w ≡ job.w → ⊥) → (m : TakenJob) → find (λ j. j.took == took) (in_hand P) ≡ Some m → m.w ≡ w → k.hand ≡ m → ⊥
  others w c took o to places a h m f g e = h (sym g ∙ sym (ap (λ j. j.w) e) ∙ eqb-true k.hand.w job.w own)

pub stays_in_hand : (S : System) (Z : Plan) (P : History) (e : Entry) (job : Job) → IsLegal S.declarations Z (e ∷ P) → IsInHand S P job → (worker_of e ≡ job.w → ⊥) → IsInHand S (e ∷ P) job
stays_in_hand S Z P (Took w c item) job l k h = stays S Z P job k (Took w c item) (after_took S Z P job k w c item h) (body_took S.declarations P w c item job.c)
stays_in_hand S Z P (Moved w t released) job l k h =
    let m = last_allowed S.declarations Z (Moved w t released) P l in
    absurd (let f : None ≡ Some k.hand = sym (ap (find (λ j. j.w == job.w)) m.no_job) ∙ found S Z P job k in cc)
stays_in_hand S Z P (Did w c took o to places) job l k h =
    let m = last_allowed S.declarations Z (Did w c took o to places) P l in
    let at = found_in (λ j. j.took == took) (in_hand P) m.job m.in_hand in
    let mine = found_in (λ j. j.w == job.w) (in_hand P) k.hand (found S Z P job k) in
    let differ = others S Z P job k w c took o to places m h m.job m.in_hand m.worker in
    let other_took : k.hand.took ≡ took → ⊥ = λ e. differ (one_job P k.hand m.job mine.0 at.0 (e ∙ sym (eqb-true m.job.took took at.1))) in
    let other_comp : c ≡ job.c → ⊥ = λ e. differ (one_job_of S.declarations Z job.c P (legal_before S.declarations Z (Did w c took o to places ∷ []) P l) k.hand m.job mine.0 at.0 (sym k.component) (m.component ∙ e)) in
    let out : outcome_of job.c (Did w c took o to places) ≡ None = ap (λ t. if t then Some o else None) (unequal c job.c other_comp) in
    stays S Z P job k (Did w c took o to places) (after_did S Z P job k w c took o to places other_took)
    (body_other S.declarations P (Did w c took o to places) job.c out (body_born S.declarations P job.c job.body k.body))
