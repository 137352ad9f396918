-- What a station answers, as the exchange tells it.
use Rattle.std.proofs.Common.{◌≡◌, ◌≢◌, inl, inr, ℕ, List, [], ◌∷◌, sym, refl, ap, subst, ◌∙◌, ne_eqb, ap₂}
use Rattle.std.specs.Prelude.{Option, Some, None}
use Rattle.std.proofs.Math.Logic.{∥∥₁_elim}
use base.Stored.{Coded-set}
use Rattle.std.specs.Coded.{coded_option}
use Rattle.kom_lang.specs.contracts.body.Body.{the_row}
use Rattle.kom_exchange.proofs.Stays.{stays}
use Rattle.std.specs.Option.{option_map}
use Rattle.kom_system.specs.declared.system.System.{System}
use Rattle.kom_lang.specs.declared.body.Body.{Body}
use Rattle.kom_record.specs.declared.plan.Plan.{Plan}
use Rattle.kom_record.specs.declared.item.Item.{Item}
use Rattle.kom_record.specs.declared.entry.Outcome.{Outcome}
use Rattle.kom_record.specs.declared.entry.Entry.TheVariants.{Took as took_entry, Did, Moved}
use Rattle.kom_record.specs.Entries.{History, TakenJob, in_hand, acts, acts_of}
use Rattle.kom_record.specs.Bodies.{body_at}
use Rattle.kom_record.specs.Legal.{IsLegal}
use Rattle.kom_record.specs.declared.job.Job.{Job}
use Rattle.kom_record.specs.declared.job.Ran.{Ran}
use Rattle.kom_record.specs.declared.answers.Taken.{Taken}
use Rattle.kom_record.specs.declared.answers.Taken.TheVariants as taken
use Rattle.kom_record.specs.declared.answers.Committed.{Committed}
use Rattle.kom_record.specs.declared.answers.Committed.TheVariants as committed
use Rattle.kom_record.specs.declared.answers.Rest.{Rest}
use Rattle.kom_record.specs.declared.answers.Rest.TheVariants as resting
use Rattle.kom_record.specs.Answers.{AnswersTake, AnswersCommit, AnswersRest, IsFree, IsInHand, job_of, did, recorded}
use Rattle.kom_record.specs.Instances.{alive}
use Rattle.kom_record.specs.Controls.{told as told_of}
use Rattle.kom_record.specs.Queues.{unreached}
use Rattle.kom_record.proofs.Hands.{taken_in_hand}
use Rattle.kom_exchange.specs.declared.view.About.{About}
use Rattle.kom_exchange.specs.declared.view.View.{View}
use Rattle.kom_exchange.specs.Later.{Abouts, hand_of, about_of}
use Rattle.kom_exchange.specs.declared.exchange.Seat.{Seat}
use Rattle.kom_exchange.specs.Seats.{view, HasJob, HasEnded}
use Rattle.kom_exchange.specs.Rule.{left, told}
use Rattle.kom_exchange.specs.Calls.{Enters, Called, Grows, count_taken, count_committed, count_rest}
use Rattle.kom_exchange.proofs.Hands.{of, did_stays, hand_is}
use Rattle.kom_exchange.proofs.Entering.{whole, leaves}
use Rattle.kom_exchange.proofs.Gone.{free_again}

abbrev pub here : System → Plan → Abouts
here S Z = let a : About = record { system = S; plan = Z } in Some a

-- while x has a job in hand, what another worker does leaves its component's body
pub body_stays : (S : System) (Z : Plan) (P : History) (w c x : ℕ) (j h : TakenJob) (o : Outcome) (to : Option ℕ) (unreached : List ℕ) → x ≢ w → of w (in_hand P) ≡ Some j → of x (in_hand P) ≡ Some h
    → ∥ IsLegal S.declarations Z (Did w c j.took o to unreached ∷ P) ∥₁ → body_at S.declarations (Did w c j.took o to unreached ∷ P) h.c ≡ body_at S.declarations P h.c
body_stays S Z P w c x j h o to unreached apart found has legal = ∥∥₁_elim legal (Coded-set (coded_option the_row.coded) _ _) (λ l. stays S.declarations Z P w c x j h o to unreached apart found has l)

abbrev held_at : System → History → TakenJob → TakenJob × Option Body
held_at S P h = (h, body_at S.declarations P h.c)

took_held : (S : System) (Z : Plan) (m c x : ℕ) (item : Item) (P : History) → x ≢ m → hand_of (here S Z) x (took_entry m c item ∷ P) ≡ hand_of (here S Z) x P
unfolding in_hand body_at acts acts_of
took_held S Z m c x item P apart = let d : m ≢ x = λ e. apart (sym e) in rw (ne_eqb m x d) refl

bodies : (S : System) (Z : Plan) (P : History) (w c x : ℕ) (j : TakenJob) (o : Outcome) (to : Option ℕ) (unreached : List ℕ) → x ≢ w → of w (in_hand P) ≡ Some j → ∥ IsLegal S.declarations Z (Did w c j.took o to unreached ∷ P) ∥₁
    → (found : Option TakenJob) → of x (in_hand P) ≡ found
    → option_map (held_at S (Did w c j.took o to unreached ∷ P)) found ≡ option_map (held_at S P) found
bodies S Z P w c x j o to unreached apart found legal None is = refl
bodies S Z P w c x j o to unreached apart found legal (Some h) is = ap (λ (b : Option Body). let p : TakenJob × Option Body = (h, b) in Some p) (body_stays S Z P w c x j h o to unreached apart found is legal)

did_held : (S : System) (Z : Plan) (P : History) (w c x : ℕ) (j : TakenJob) (o : Outcome) (to : Option ℕ) (unreached : List ℕ) → x ≢ w → of w (in_hand P) ≡ Some j → ∥ IsLegal S.declarations Z (Did w c j.took o to unreached ∷ P) ∥₁
    → hand_of (here S Z) x (Did w c j.took o to unreached ∷ P) ≡ hand_of (here S Z) x P
unfolding in_hand
did_held S Z P w c x j o to unreached apart found legal =
    ap (option_map (held_at S (Did w c j.took o to unreached ∷ P))) (did_stays w x P j apart found)
    ∙ bodies S Z P w c x j o to unreached apart found legal (of x (in_hand P)) refl

pub take_grows : (S : System) (Z : Plan) (w m c : ℕ) (answer : Taken) (old new : History) → m ≡ w → AnswersTake S Z old m c answer new → Grows (here S Z) w (count_taken answer) old new
take_grows S Z w m c (taken.Job j) old new is t = inr (refl, (took_entry m c j.item, is, t.added, λ x apart. ap (hand_of (here S Z) x) t.added ∙ took_held S Z m c x j.item old (λ e. apart (e ∙ is))))
take_grows S Z w m c taken.Nothing old new is t = inl (refl, t.2)
take_grows S Z w m c taken.Closed old new is t = inl (refl, t.1)
take_grows S Z w m c taken.Memory old new is t = inl (refl, t)

pub commit_grows : (S : System) (Z : Plan) (w : ℕ) (r : Ran) (answer : Committed) (old new : History) → r.job.w ≡ w → ∥ IsLegal S.declarations Z new ∥₁ → AnswersCommit S Z old r answer new → Grows (here S Z) w (count_committed answer) old new
unfolding job_of did
commit_grows S Z w r (committed.Wakes woken) old new is legal t =
    let at : of r.job.w (in_hand old) ≡ Some t.hand = t.found in
    let own : t.hand.w ≡ r.job.w = hand_is r.job.w (in_hand old) t.hand at in
    let found : of t.hand.w (in_hand old) ≡ Some t.hand = subst (λ (n : ℕ). of n (in_hand old) ≡ Some t.hand) (sym own) at in
    let o = recorded (alive S.declarations (acts old) r.job.c) r.outcome in
    let blank = Did t.hand.w t.hand.c t.hand.took o None [] in
    inr (
      refl,
      (
        did S.declarations old t.hand o,
        own ∙ is,
        t.added,
        λ x apart. ap (hand_of (here S Z) x) t.added
            ∙ did_held S Z old t.hand.w t.hand.c x t.hand o (told_of S.declarations old blank t.hand.c) (unreached S.declarations old blank) (λ e. apart (e ∙ own ∙ is)) found (subst (λ (Q : History). ∥ IsLegal S.declarations Z Q ∥₁) t.added legal),
      ),
    )
commit_grows S Z w r (committed.Memory back) old new is legal t = inl (refl, t.1)

pub rest_grows : (S : System) (Z : Plan) (w m : ℕ) (answer : Rest) (old new : History) → m ≡ w → AnswersRest S.declarations Z old m answer new → Grows (here S Z) w (count_rest answer) old new
unfolding in_hand body_at acts acts_of
rest_grows S Z w m (resting.Moved woken) old new is t = inr (refl, (Moved m t.t t.released, is, t.added, λ x apart. ap (hand_of (here S Z) x) t.added))
rest_grows S Z w m (resting.Ready c) old new is t = inl (refl, t.2)
rest_grows S Z w m resting.Waiting old new is t = inl (refl, t.3)
rest_grows S Z w m resting.End old new is t = inl (refl, t.4)
rest_grows S Z w m resting.Closed old new is t = inl (refl, t.1)
rest_grows S Z w m resting.Memory old new is t = inl (refl, t)

-- the seat has nothing in hand in what it has seen
free_seat : (s : Seat) (m : ℕ) (old new : History) → new ≡ old → IsFree old m → s.number ≡ m → (view s).own.seen ≡ new → IsFree (view s).own.seen s.number
free_seat s m old new same free number seen = ap₂ job_of (seen ∙ same) number ∙ free

pub has_job : (S : System) (Z : Plan) (m c : ℕ) (answer : Taken) (old new : History) (s : Seat) → AnswersTake S Z old m c answer new → IsFree old m → s.number ≡ m → (view s).own.seen ≡ new → HasJob S answer s
has_job S Z m c (taken.Job j) old new s t free number seen = (t.worker ∙ sym number, subst (λ (R : History). IsInHand S R j) (sym seen) (taken_in_hand S Z old m c j new t))
has_job S Z m c taken.Nothing old new s t free number seen = free_seat s m old new t.2 free number seen
has_job S Z m c taken.Closed old new s t free number seen = free_seat s m old new t.1 free number seen
has_job S Z m c taken.Memory old new s t free number seen = free_seat s m old new t free number seen

pub has_ended : (S : System) (Z : Plan) (r : Ran) (answer : Committed) (old new : History) (s : Seat) → AnswersCommit S Z old r answer new → ∥ IsLegal S.declarations Z new ∥₁ → IsInHand S old r.job → r.job.w ≡ s.number → (view s).own.seen ≡ new → HasEnded S answer s
has_ended S Z r (committed.Wakes woken) old new s t legal held number seen =
    let o = recorded (alive S.declarations (acts old) r.job.c) r.outcome in
    ap₂ job_of (seen ∙ t.added) (sym number)
    ∙ free_again S.declarations Z old r.job.w t.hand o (subst (λ (Q : History). ∥ IsLegal S.declarations Z Q ∥₁) t.added legal) t.found
has_ended S Z r (committed.Memory back) old new s t legal held number seen =
    (ap (λ (x : Ran). x.job.w) t.0 ∙ number, subst (λ (R : History). IsInHand S R back.job) (sym (seen ∙ t.1)) (subst (λ (x : Ran). IsInHand S old x.job) (sym t.0) held))

-- a rest leaves what is in hand
pub rest_hand : (S : System) (Z : Plan) (w m : ℕ) (answer : Rest) (old new : History) → AnswersRest S.declarations Z old m answer new → job_of new w ≡ job_of old w
unfolding job_of in_hand
rest_hand S Z w m (resting.Moved woken) old new t = ap (λ (R : History). job_of R w) t.added
rest_hand S Z w m (resting.Ready c) old new t = ap (λ (R : History). job_of R w) t.2
rest_hand S Z w m resting.Waiting old new t = ap (λ (R : History). job_of R w) t.3
rest_hand S Z w m resting.End old new t = ap (λ (R : History). job_of R w) t.4
rest_hand S Z w m resting.Closed old new t = ap (λ (R : History). job_of R w) t.1
rest_hand S Z w m resting.Memory old new t = ap (λ (R : History). job_of R w) t

-- ---- what a worker has in hand, in the record that it has seen and in the whole one

no_job : (o : Option TakenJob) (f : TakenJob → TakenJob × Option Body) → None ≡ option_map f o → o ≡ None
no_job None f e = refl
no_job (Some h) f e = absurd cc

pub free_at : (S : System) (Z : Plan) (w : ℕ) (P Q : History) → hand_of (here S Z) w P ≡ hand_of (here S Z) w Q → IsFree P w → IsFree Q w
unfolding job_of
free_at S Z w P Q e f = no_job (of w (in_hand Q)) (held_at S Q) (ap (option_map (held_at S P)) (sym f) ∙ e)

-- of what is in a hand, the job alone
job_alone : (f : TakenJob → Option Body) (o : Option TakenJob) → option_map {T = TakenJob × Option Body} (λ q. q.0) (option_map {U = TakenJob × Option Body} (λ h. (h, f h)) o) ≡ o
job_alone f None = refl
job_alone f (Some h) = refl

pub same_job : (S : System) (Z : Plan) (w : ℕ) (P Q : History) → hand_of (here S Z) w P ≡ hand_of (here S Z) w Q → job_of Q w ≡ job_of P w
unfolding job_of
same_job S Z w P Q e =
    sym (job_alone (λ h. body_at S.declarations Q h.c) (of w (in_hand Q))) ∙ ap (option_map (λ (q : TakenJob × Option Body). q.0)) (sym e) ∙ job_alone (λ h. body_at S.declarations P h.c) (of w (in_hand P))

pub no_hand : (S : System) (Z : Plan) (w : ℕ) (P : History) → hand_of (here S Z) w P ≡ None → IsFree P w
unfolding job_of
no_hand S Z w P e = sym (job_alone (λ h. body_at S.declarations P h.c) (of w (in_hand P))) ∙ ap (option_map (λ (q : TakenJob × Option Body). q.0)) e

one_job : (h : TakenJob) (b : Option Body) (o : Option TakenJob) (f : TakenJob → Option Body) → Some (h, b) ≡ option_map {U = TakenJob × Option Body} (λ k. (k, f k)) o → (o ≡ Some h) × (f h ≡ b)
one_job h b None f e = absurd cc
one_job h b (Some k) f e = let p : ◌≡◌ {A = TakenJob × Option Body} (h, b) (k, f k) = cc in let q : h ≡ k = ap (λ z. z.0) p in (ap Some (sym q), ap f q ∙ sym (ap (λ z. z.1) p))

pub held_on : (S : System) (Z : Plan) (P Q : History) (job : Job) → hand_of (here S Z) job.w P ≡ hand_of (here S Z) job.w Q → IsInHand S P job → IsInHand S Q job
unfolding job_of
held_on S Z P Q job e k =
    let r = one_job k.hand (body_at S.declarations P k.hand.c) (of job.w (in_hand Q)) (λ h. body_at S.declarations Q h.c) (ap (option_map (held_at S P)) (sym k.found) ∙ e) in
    record { hand = k.hand; found = r.0; component = k.component; item = k.item; body = ap (body_at S.declarations Q) k.component ∙ r.1 ∙ ap (body_at S.declarations P) (sym k.component) ∙ k.body; system = k.system }

module _ {T : Type 0} (system : T → System) (plan : T → Plan) (history : T → History) where
  pub same_about : (x y : T) → about_of system plan x ≡ about_of system plan y → (system x ≡ system y) × (plan x ≡ plan y)
  same_about x y e = let a : About = record { system = system x; plan = plan x } in let b : About = record { system = system y; plan = plan y } in let f : Some a ≡ Some b = e in let g : a ≡ b = cc in
      (ap (λ (z : About). z.system) g, ap (λ (z : About). z.plan) g)

  abbrev pub At : T → View → Type 0
  At given v = v.own.about ≡ about_of system plan given

  -- the station that the seat took has the exchange's system and plan
  pub its : (given x : T) (v v' w : View) → v' ≡ v → At given v → Enters history (about_of system plan) v' x w → (system x ≡ system given) × (plan x ≡ plan given)
  its given x v v' w sat at e = same_about x given (e.about_is ∙ (ap (λ (z : View). z.own.about) sat ∙ at))

  -- the seat's job is the same in the whole record
  pub is_free : (given x : T) (v v' w : View) (m : ℕ) → v' ≡ v → At given v → v.own.number ≡ m → Enters history (about_of system plan) v' x w → IsFree v.own.seen m → IsFree (history x) m
  is_free given x v v' w m sat at number e f =
      let f' = subst (λ (z : View). Enters history (about_of system plan) z x w) sat e in
      free_at (system given) (plan given) m v.own.seen (history x)
      (subst (λ (n : ℕ). hand_of (here (system given) (plan given)) n v.own.seen ≡ hand_of (here (system given) (plan given)) n (history x)) number
      (subst (λ (a : Abouts). hand_of a v.own.number v.own.seen ≡ hand_of a v.own.number (history x)) at f'.hand)) f

  pub same_hand : (given x : T) (v v' w : View) (m : ℕ) → v' ≡ v → At given v → v.own.number ≡ m → Enters history (about_of system plan) v' x w → job_of (history x) m ≡ job_of v.own.seen m
  same_hand given x v v' w m sat at number e =
      let f' = subst (λ (z : View). Enters history (about_of system plan) z x w) sat e in
      same_job (system given) (plan given) m v.own.seen (history x)
      (subst (λ (n : ℕ). hand_of (here (system given) (plan given)) n v.own.seen ≡ hand_of (here (system given) (plan given)) n (history x)) number
      (subst (λ (a : Abouts). hand_of a v.own.number v.own.seen ≡ hand_of a v.own.number (history x)) at f'.hand))

  pub is_held : (given x : T) (v v' w : View) (job : Job) → v' ≡ v → At given v → v.own.number ≡ job.w → Enters history (about_of system plan) v' x w → IsInHand (system given) v.own.seen job → IsInHand (system x) (history x) job
  is_held given x v v' w job sat at number e k =
      let f' = subst (λ (z : View). Enters history (about_of system plan) z x w) sat e in
      let i = its given x v v' w sat at e in
      subst (λ (S : System). IsInHand S (history x) job) (sym i.0)
      (held_on (system given) (plan given) v.own.seen (history x) job
      (subst (λ (n : ℕ). hand_of (here (system given) (plan given)) n v.own.seen ≡ hand_of (here (system given) (plan given)) n (history x)) number
      (subst (λ (a : Abouts). hand_of a v.own.number v.own.seen ≡ hand_of a v.own.number (history x)) at f'.hand)) k)

  pub take_whole : (given x y : T) (v v' w u : View) (m c : ℕ) (answer : Taken) → v' ≡ v → At given v → v.own.number ≡ m → Enters history (about_of system plan) v' x w
      → AnswersTake (system x) (plan x) (history x) m c answer (history y) → u ≡ left (told w (history y)) → Called (count_taken answer) (λ R Q. AnswersTake (system given) (plan given) R m c answer Q) v u
  take_whole given x y v v' w u m c answer sat at number e did is = let i = its given x v v' w sat at e in
      let did' = subst (λ (p : System × Plan). AnswersTake p.0 p.1 (history x) m c answer (history y)) (λ k. (i.0 k, i.1 k)) did in
      whole history (about_of system plan) (count_taken answer) (λ R Q. AnswersTake (system given) (plan given) R m c answer Q) v v' w u x y sat e
      (subst (λ (a : Abouts). Grows a v.own.number (count_taken answer) (history x) (history y)) (sym at) (take_grows (system given) (plan given) v.own.number m c answer (history x) (history y) (sym number) did')) did' is

  pub commit_whole : (given x y : T) (v v' w u : View) (r : Ran) (answer : Committed) → v' ≡ v → At given v → r.job.w ≡ v.own.number → Enters history (about_of system plan) v' x w → ∥ IsLegal (system given).declarations (plan given) (history y) ∥₁
      → AnswersCommit (system x) (plan x) (history x) r answer (history y) → u ≡ left (told w (history y)) → Called (count_committed answer) (λ R Q. AnswersCommit (system given) (plan given) R r answer Q) v u
  commit_whole given x y v v' w u r answer sat at number e legal did is = let i = its given x v v' w sat at e in
      let did' = subst (λ (p : System × Plan). AnswersCommit p.0 p.1 (history x) r answer (history y)) (λ k. (i.0 k, i.1 k)) did in
      whole history (about_of system plan) (count_committed answer) (λ R Q. AnswersCommit (system given) (plan given) R r answer Q) v v' w u x y sat e
      (subst (λ (a : Abouts). Grows a v.own.number (count_committed answer) (history x) (history y)) (sym at) (commit_grows (system given) (plan given) v.own.number r answer (history x) (history y) number legal did')) did' is

  pub rest_whole : (given x y : T) (v v' w u : View) (m : ℕ) (answer : Rest) → v' ≡ v → At given v → v.own.number ≡ m → Enters history (about_of system plan) v' x w
      → AnswersRest (system x).declarations (plan x) (history x) m answer (history y) → u ≡ left (told w (history y)) → Called (count_rest answer) (λ R Q. AnswersRest (system given).declarations (plan given) R m answer Q) v u
  rest_whole given x y v v' w u m answer sat at number e did is = let i = its given x v v' w sat at e in
      let did' = subst (λ (p : System × Plan). AnswersRest p.0.declarations p.1 (history x) m answer (history y)) (λ k. (i.0 k, i.1 k)) did in
      whole history (about_of system plan) (count_rest answer) (λ R Q. AnswersRest (system given).declarations (plan given) R m answer Q) v v' w u x y sat e
      (subst (λ (a : Abouts). Grows a v.own.number (count_rest answer) (history x) (history y)) (sym at) (rest_grows (system given) (plan given) v.own.number m answer (history x) (history y) (sym number) did')) did' is

  pub from_parts : (x y : T) → system y ≡ system x → plan y ≡ plan x → about_of system plan y ≡ about_of system plan x
  from_parts x y e d = λ k. let a : About = record { system = e k; plan = d k } in Some a

  pub take_leaves : (given x y : T) (v v' w : View) (m c : ℕ) (answer : Taken) (n : ℕ) → n ≡ count_taken answer → v' ≡ v → At given v → v.own.number ≡ m → Enters history (about_of system plan) v' x w
      → system y ≡ system x → plan y ≡ plan x → AnswersTake (system x) (plan x) (history x) m c answer (history y)
      → (about_of system plan y ≡ w.own.about) × Grows w.own.about w.own.number n w.own.seen (history y)
  take_leaves given x y v v' w m c answer n count sat at number e sy pl did = let i = its given x v v' w sat at e in
      let did' = subst (λ (p : System × Plan). AnswersTake p.0 p.1 (history x) m c answer (history y)) (λ k. (i.0 k, i.1 k)) did in
      let grows = subst (λ (a : Abouts). Grows a v.own.number (count_taken answer) (history x) (history y)) (sym at) (take_grows (system given) (plan given) v.own.number m c answer (history x) (history y) (sym number) did') in
      leaves history (about_of system plan) v w x y n (subst (λ (z : View). Enters history (about_of system plan) z x w) sat e) (from_parts x y sy pl)
      (subst (λ (k : ℕ). Grows v.own.about v.own.number k (history x) (history y)) (sym count) grows)

  pub rest_leaves : (given x y : T) (v v' w : View) (m : ℕ) (answer : Rest) (n : ℕ) → n ≡ count_rest answer → v' ≡ v → At given v → v.own.number ≡ m → Enters history (about_of system plan) v' x w
      → system y ≡ system x → plan y ≡ plan x → AnswersRest (system x).declarations (plan x) (history x) m answer (history y)
      → (about_of system plan y ≡ w.own.about) × Grows w.own.about w.own.number n w.own.seen (history y)
  rest_leaves given x y v v' w m answer n count sat at number e sy pl did = let i = its given x v v' w sat at e in
      let did' = subst (λ (p : System × Plan). AnswersRest p.0.declarations p.1 (history x) m answer (history y)) (λ k. (i.0 k, i.1 k)) did in
      let grows = subst (λ (a : Abouts). Grows a v.own.number (count_rest answer) (history x) (history y)) (sym at) (rest_grows (system given) (plan given) v.own.number m answer (history x) (history y) (sym number) did') in
      leaves history (about_of system plan) v w x y n (subst (λ (z : View). Enters history (about_of system plan) z x w) sat e) (from_parts x y sy pl)
      (subst (λ (k : ℕ). Grows v.own.about v.own.number k (history x) (history y)) (sym count) grows)

  pub commit_leaves : (given x y : T) (v v' w : View) (r : Ran) (answer : Committed) (n : ℕ) → n ≡ count_committed answer → v' ≡ v → At given v → r.job.w ≡ v.own.number → Enters history (about_of system plan) v' x w
      → system y ≡ system x → plan y ≡ plan x → ∥ IsLegal (system y).declarations (plan y) (history y) ∥₁ → AnswersCommit (system x) (plan x) (history x) r answer (history y)
      → (about_of system plan y ≡ w.own.about) × Grows w.own.about w.own.number n w.own.seen (history y)
  commit_leaves given x y v v' w r answer n count sat at number e sy pl legal did = let i = its given x v v' w sat at e in
      let did' = subst (λ (p : System × Plan). AnswersCommit p.0 p.1 (history x) r answer (history y)) (λ k. (i.0 k, i.1 k)) did in
      let legal' = subst (λ (p : System × Plan). ∥ IsLegal p.0.declarations p.1 (history y) ∥₁) (λ k. ((sy ∙ i.0) k, (pl ∙ i.1) k)) legal in
      let grows = subst (λ (a : Abouts). Grows a v.own.number (count_committed answer) (history x) (history y)) (sym at) (commit_grows (system given) (plan given) v.own.number r answer (history x) (history y) number legal' did') in
      leaves history (about_of system plan) v w x y n (subst (λ (z : View). Enters history (about_of system plan) z x w) sat e) (from_parts x y sy pl)
      (subst (λ (m : ℕ). Grows v.own.about v.own.number m (history x) (history y)) (sym count) grows)
