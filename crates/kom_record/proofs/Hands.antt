-- A job that was taken is in hand, and a whole handling is a Took with its Did.
use Rattle.std.proofs.Common.{◌≡◌, ℕ, cond, refl, sym, subst, ap, ◌∙◌, eq-eqb, List, ◌∷◌, length, Some, ◌==◌}
use Rattle.std.specs.Prelude.{unwrap_or}
use Rattle.std.specs.List.{find}
use Rattle.kom_system.specs.declared.system.System.{System}
use Rattle.kom_record.specs.declared.plan.Plan.{Plan}
use Rattle.kom_record.specs.declared.item.Item.{Item}
use Rattle.kom_record.specs.declared.entry.Entry.TheVariants.{Took}
use Rattle.kom_record.specs.declared.job.Job.{Job}
use Rattle.kom_record.specs.declared.job.Ran.{Ran}
use Rattle.kom_record.specs.Entries.{History, TakenJob, in_hand, acts, acts_of}
use Rattle.kom_record.specs.Bodies.{body_at}
use Rattle.kom_record.specs.Instances.{alive}
use Rattle.kom_record.specs.Answers.{IsJobFor, IsInHand, IsCommit, IsHandling, job_of, did, recorded}

abbrev job_at : ℕ → ℕ → ℕ → Item → TakenJob
job_at took w c item = record { took = took; w = w; c = c; item = item }

-- the job that a worker took last is the one that it has in hand
job_of-took : (R : History) (w v c : ℕ) (item : Item) → w ≡ v → job_of (Took w c item ∷ R) v ≡ Some (job_at (length R) w c item)
unfolding job_of in_hand
job_of-took R w v c item e = ap (λ b. cond b (Some (job_at (length R) w c item)) (find (λ job. job.w == v) (in_hand R))) (eq-eqb w v e)

-- a Took changes no body
body_at-took : (S : _) (R : History) (w c d : ℕ) (item : Item) → body_at S (Took w c item ∷ R) d ≡ body_at S R d
unfolding body_at acts acts_of
body_at-took S R w c d item = refl

pub taken_in_hand : (S : System) (Z : Plan) (R : History) (w c : ℕ) (job : Job) (Q : History) → IsJobFor S Z R w c job Q → IsInHand S Q job
taken_in_hand S Z R w c job Q h =
    rw h.added (record {
      hand = job_at (length R) w c job.item;
      found = job_of-took R w job.w c job.item (sym h.worker);
      component = h.component;
      item = refl;
      body = body_at-took S.declarations R w c job.c job.item ∙ subst (λ x. body_at S.declarations R x ≡ Some job.body) (sym h.component) h.body;
      system = h.system;
    })

pub handled : (S : System) (Z : Plan) (R : History) (w c : ℕ) (job : Job) (M : History) (ran : Ran) (woken : List ℕ) (Q : History)
    → IsJobFor S Z R w c job M → ran.job ≡ job → IsCommit S Z M ran woken Q → IsHandling S.declarations R w c Q
handled S Z R w c job M ran woken Q h e k =
    let mine : job_of (Took w c job.item ∷ R) ran.job.w ≡ Some k.hand = subst (λ m. job_of m ran.job.w ≡ Some k.hand) h.added k.found in
    let worker : w ≡ ran.job.w = sym h.worker ∙ sym (ap (λ j. j.w) e) in
    let hand : k.hand ≡ job_at (length R) w c job.item = ap (λ o. unwrap_or o k.hand) (sym mine ∙ job_of-took R w ran.job.w c job.item worker) in
    let o = recorded (alive S.declarations (acts M) ran.job.c) ran.outcome in
    let item : job.item ≡ k.hand.item = sym (ap (λ j. j.item) hand) in
    let moment : M ≡ Took w c k.hand.item ∷ R = h.added ∙ ap (λ i. Took w c i ∷ R) item in
    record {
      job = k.hand;
      outcome = o;
      worker = ap (λ j. j.w) hand;
      component = ap (λ j. j.c) hand;
      next = h.next ∙ ap Some item;
      added = k.added ∙ ap (λ m. did S.declarations m k.hand o ∷ m) moment;
    }
