-- What the calls of a worker leave in the hands of all.
use Rattle.std.proofs.Common.{◌≡◌, ℕ, Bool, true, false, sym, refl, subst, ap, ◌∙◌, Option, List, [], ◌∷◌, Some, None, inl, inr}
use Rattle.std.proofs.Math.Logic.{∥∥₁_elim}
use Rattle.std.proofs.Math.Bool.{Bool-set}
use Rattle.kom_system.specs.declared.system.System.{System}
use Rattle.kom_record.specs.declared.plan.Plan.{Plan}
use Rattle.kom_record.specs.declared.job.Job.{Job}
use Rattle.kom_record.specs.declared.job.Ran.{Ran}
use Rattle.kom_record.specs.declared.entry.Entry.TheVariants.{Did}
use Rattle.kom_record.specs.declared.answers.Rest.{Rest}
use Rattle.kom_record.specs.declared.answers.Rest.TheVariants as resting
use Rattle.kom_record.specs.declared.answers.Taken.{Taken}
use Rattle.kom_record.specs.declared.answers.Committed.{Committed}
use Rattle.kom_record.specs.Entries.{History, TakenJob, in_hand, acts, acts_of}
use Rattle.kom_record.specs.Bodies.{body_at}
use Rattle.kom_record.specs.Instances.{alive}
use Rattle.kom_record.specs.Queues.{unreached}
use Rattle.kom_record.specs.Controls.{told}
use Rattle.kom_record.specs.Legal.{IsLegal}
use Rattle.kom_record.specs.Answers.{job_of, did, recorded, IsFree, IsJobFor, IsCommit, AnswersTake, AnswersCommit, AnswersRest}
use Rattle.kom_record.proofs.Hands.{taken_in_hand}
use Rattle.kom_endings.proofs.Hands.{own_gone}
use Rattle.kom_exchange.specs.Later.{hand_of}
use Rattle.kom_exchange.specs.Calls.{Grows, count_taken, count_committed}
use Rattle.kom_exchange.proofs.Hands.{hand_is}
use Rattle.kom_exchange.proofs.Answering.{here, free_at, held_on, take_grows, commit_grows}
use Rattle.kom_drives.specs.Hands.{HoldsJob, KeepsAll, KeepsOthers}

pub free_first : (w : ℕ) → IsFree [] w
unfolding job_of in_hand
free_first w = refl

hand_at : (P : History) (n : ℕ) (h : TakenJob) → job_of P n ≡ Some h → h.w ≡ n
unfolding job_of
hand_at P n h f = hand_is n (in_hand P) h f

module _ (S : System) (Z : Plan) (R Q : History) where
  carry : (x : ℕ) (held : Option Job) → hand_of (here S Z) x Q ≡ hand_of (here S Z) x R → HoldsJob S R x held → HoldsJob S Q x held
  carry x None e h = free_at S Z x R Q (sym e) h
  carry x (Some job) e h = (h.0, held_on S Z R Q job (subst (λ y. hand_of (here S Z) y R ≡ hand_of (here S Z) y Q) (sym h.0) (sym e)) h.1)

  pub same : Q ≡ R → KeepsAll S R Q
  same e = λ x held h. subst (λ P. HoldsJob S P x held) (sym e) h

  -- one worker's entry leaves the hands of the others
  others : (w n : ℕ) → Grows (here S Z) w n R Q → KeepsOthers w S R Q
  others w n (inl g) = λ x held apart h. same g.1 x held h
  others w n (inr g) = λ x held apart h. carry x held (g.1.3 x apart) h

  -- ---- take

  pub take_others : (w c : ℕ) (answer : Taken) → AnswersTake S Z R w c answer Q → KeepsOthers w S R Q
  take_others w c answer t = others w (count_taken answer) (take_grows S Z w w c answer R Q refl t)

  pub take_own : (w c : ℕ) (job : Job) → IsJobFor S Z R w c job Q → HoldsJob S Q w (Some job)
  take_own w c job h = (h.worker, taken_in_hand S Z R w c job Q h)

  -- ---- commit

  pub commit_others : (w : ℕ) (ran : Ran) (answer : Committed) → ran.job.w ≡ w → ∥ IsLegal S.declarations Z Q ∥₁ → AnswersCommit S Z R ran answer Q → KeepsOthers w S R Q
  commit_others w ran answer e legal t = others w (count_committed answer) (commit_grows S Z w ran answer R Q e legal t)

  abbrev is_some : Option TakenJob → Bool
  is_some None = false
  is_some (Some j) = true

  none_by : (o : Option TakenJob) → is_some o ≡ false → o ≡ None
  none_by None e = refl
  none_by (Some j) e = let f : true ≡ false = e in absurd cc

  -- who ended a job has none
  pub commit_own : (w : ℕ) (ran : Ran) (woken : List ℕ) → ran.job.w ≡ w → ∥ IsLegal S.declarations Z R ∥₁ → IsCommit S Z R ran woken Q → IsFree Q w
  unfolding did
  commit_own w ran woken e legal t =
      let o = recorded (alive S.declarations (acts R) ran.job.c) ran.outcome in
      let blank = Did t.hand.w t.hand.c t.hand.took o None [] in
      let own : t.hand.w ≡ ran.job.w = hand_at R ran.job.w t.hand t.found in
      let found : job_of R t.hand.w ≡ Some t.hand = subst (λ n. job_of R n ≡ Some t.hand) (sym own) t.found in
      let gone : job_of (did S.declarations R t.hand o ∷ R) t.hand.w ≡ None =
      none_by _ (∥∥₁_elim legal (Bool-set _ _) (λ l. ap is_some (own_gone S.declarations Z R t.hand.w t.hand.c t.hand o (told S.declarations R blank t.hand.c) (unreached S.declarations R blank) l found))) in
      subst (λ P. IsFree P w) (sym t.added) (subst (λ n. IsFree (did S.declarations R t.hand o ∷ R) n) (own ∙ e) gone)

  -- ---- rest

  pub rest_all : (w : ℕ) (answer : Rest) → AnswersRest S.declarations Z R w answer Q → KeepsAll S R Q
  unfolding in_hand body_at acts acts_of
  rest_all w (resting.Moved woken) t = λ x held h. carry x held (ap (hand_of (here S Z) x) t.added) h
  rest_all w (resting.Ready c) t = same t.2
  rest_all w resting.Waiting t = same t.3
  rest_all w resting.End t = same t.4
  rest_all w resting.Closed t = same t.1
  rest_all w resting.Memory t = same t
