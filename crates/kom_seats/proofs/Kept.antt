-- While a job is in hand, its component's body stays, whatever the record grows by.
use Rattle.std.proofs.Common.{◌≡◌, ◌≢◌, ℕ, ◌<◌, ◌==◌, not, cond, Bool, true, false, List, [], ◌∷◌, ◌++◌, length, sym, refl, ap, subst, ◌∙◌, arith, eq-eqb, length-append}
use Rattle.std.specs.Prelude.{Option, Some, None}
use Rattle.std.proofs.Math.Logic.{∥∥₁_elim}
use Rattle.std.proofs.lemmas.Bool.{eqb-true}
use base.Stored.{Coded-set}
use Rattle.std.specs.Coded.{coded_option}
use Rattle.kom_lang.specs.contracts.body.Body.{the_row}
use Rattle.kom_lang.specs.Declarations.{Declarations}
use Rattle.kom_system.specs.declared.system.System.{System}
use Rattle.kom_record.specs.Model.{model}
use Rattle.kom_record.specs.declared.plan.Plan.{Plan}
use Rattle.kom_record.specs.declared.job.Job.{Job}
use Rattle.kom_record.specs.declared.entry.Outcome.{Outcome}
use Rattle.kom_record.specs.declared.entry.Entry.TheVariants.{Took, Did, Moved}
use Rattle.kom_record.specs.Entries.{History, TakenJob, in_hand}
use Rattle.kom_record.specs.Bodies.{body_at}
use Rattle.kom_record.specs.Legal.{IsLegal}
use Rattle.kom_record.specs.Answers.{job_of}
use Rattle.kom_laws.proofs.ActLaws.{in_filter, job_entry}
use Rattle.kom_laws.proofs.Handlings.{found_in}
use Rattle.kom_laws.proofs.Members.{IsIn, here, there}
use Rattle.kom_endings.proofs.Hands.{one_job_by}
use Rattle.kom_exchange.specs.Later.{IsLater}
use Rattle.kom_exchange.proofs.Hands.{of}
use Rattle.kom_exchange.proofs.Stays.{stays}
use Rattle.kom_drives.specs.Hands.{HoldsJob}

-- where one is of the worker, one of the worker is found
not_none : (w : ℕ) (h : TakenJob) (hs : List TakenJob) → IsIn h hs → (h.w == w) ≡ true → of w hs ≢ None
not_none w h [] m e none = elim m [ ]
not_none w h' (h ∷ hs) here e none = let f : Some h ≡ None = sym (ap (λ b. cond b (Some h) (of w hs)) e) ∙ none in absurd cc
not_none w h (g ∷ hs) (there m) e none = by_test (g.w == w) refl (not_none w h hs m e)
  where
    by_test : (b : Bool) → (g.w == w) ≡ b → of w hs ≢ None → ⊥
    by_test true t some = let f : Some g ≡ None = sym (ap (λ b. cond b (Some g) (of w hs)) t) ∙ none in absurd cc
    by_test false t some = some (sym (ap (λ b. cond b (Some g) (of w hs)) t) ∙ none)

module _ (S : Declarations) (Z : Plan) where
  -- each job in hand is the one of its worker
  found_as : (P : History) (h : TakenJob) → IsLegal S Z P → IsIn h (in_hand P) → (o : Option TakenJob) → of h.w (in_hand P) ≡ o → o ≡ Some h
  found_as P h l m None e = absurd (not_none h.w h (in_hand P) m (eq-eqb h.w h.w refl) e)
  found_as P h l m (Some j) e = let f = found_in (λ x. x.w == h.w) (in_hand P) j e in ap Some (one_job_by S Z P j h l f.0 m (eqb-true j.w h.w f.1))

  -- the end of one job leaves the body of another's component
  did_keeps : (P : History) (w c took : ℕ) (o : Outcome) (to : Option ℕ) (places : List ℕ) (h : TakenJob) → IsLegal S Z (Did w c took o to places ∷ P) → IsIn h (in_hand P) → not (h.took == took) ≡ true
      → body_at S (Did w c took o to places ∷ P) h.c ≡ body_at S P h.c
  unfolding IsLegal
  did_keeps P w c took o to places h l m other =
      let may = l.1 in
      let f = found_in (λ j. j.took == took) (in_hand P) may.job may.in_hand in
      let t : may.job.took ≡ took = eqb-true may.job.took took f.1 in
      let apart : h.w ≢ w = λ e.
      let same : may.job ≡ h = one_job_by S Z P may.job h l.0 f.0 m (may.worker ∙ sym e) in
      absurd (cc (other, eq-eqb h.took took (ap (λ j. j.took) (sym same) ∙ t))) in
      let his : of w (in_hand P) ≡ Some may.job = subst (λ n. of n (in_hand P) ≡ Some may.job) may.worker (found_as P may.job l.0 f.0 (of may.job.w (in_hand P)) refl) in
      subst (λ n. body_at S (Did w c n o to places ∷ P) h.c ≡ body_at S P h.c) t
      (stays S Z P w c h.w may.job h o to places apart his (found_as P h l.0 m (of h.w (in_hand P)) refl)
      (subst (λ n. IsLegal S Z (Did w c n o to places ∷ P)) (sym t) l))

  body_kept : (N P : History) (h : TakenJob) → IsLegal S Z (N ++ P) → h.took < length P → IsIn h (in_hand (N ++ P)) → body_at S (N ++ P) h.c ≡ body_at S P h.c
  unfolding model
  body_kept [] P h l lt m = refl
  body_kept (Took w c item ∷ N) P h' l lt here = absurd (omega (arith, lt, length-append N P))
  body_kept (Took w c item ∷ N) P h l lt (there m) = body_kept N P h l.0 lt m
  body_kept (Did w c took o to places ∷ N) P h l lt m =
      let f = in_filter (λ j. not (j.took == took)) (in_hand (N ++ P)) h m in
      did_keeps (N ++ P) w c took o to places h l f.0 f.1 ∙ body_kept N P h l.0 lt f.0
  body_kept (Moved w t released ∷ N) P h l lt m = body_kept N P h l.0 lt m

  same_body : (P Q : History) (w : ℕ) (h : TakenJob) → ∥ IsLegal S Z Q ∥₁ → IsLater Q P → job_of P w ≡ Some h → job_of Q w ≡ Some h → body_at S Q h.c ≡ body_at S P h.c
  unfolding job_of
  same_body P Q w h legal later was is =
      let now = (found_in (λ j. j.w == w) (in_hand Q) h is).0 in
      let low = (job_entry P h (found_in (λ j. j.w == w) (in_hand P) h was).0).0 in
      subst (λ R. body_at S R h.c ≡ body_at S P h.c) (sym later.1)
      (∥∥₁_elim legal (Coded-set (coded_option the_row.coded) _ _)
      (λ l. body_kept later.0 P h (subst (IsLegal S Z) later.1 l) low (subst (λ R. IsIn h (in_hand R)) later.1 now)))

-- what a worker has in hand it still has, where its job is the same
pub holds_on : (S : System) (Z : Plan) (P Q : History) (w : ℕ) (held : Option Job) → ∥ IsLegal S.declarations Z Q ∥₁ → IsLater Q P → job_of Q w ≡ job_of P w → HoldsJob S P w held → HoldsJob S Q w held
holds_on S Z P Q w None legal later e h = e ∙ h
holds_on S Z P Q w (Some job) legal later e h =
    let k = h.1 in
    let was : job_of P w ≡ Some k.hand = subst (λ n. job_of P n ≡ Some k.hand) h.0 k.found in
    let stays : body_at S.declarations Q k.hand.c ≡ body_at S.declarations P k.hand.c = same_body S.declarations Z P Q w k.hand legal later was (e ∙ was) in (
      h.0,
      record {
        hand = k.hand;
        found = subst (λ n. job_of Q n ≡ Some k.hand) (sym h.0) (e ∙ was);
        component = k.component;
        item = k.item;
        body = ap (body_at S.declarations Q) k.component ∙ stays ∙ ap (body_at S.declarations P) (sym k.component) ∙ k.body;
        system = k.system;
      },
    )
