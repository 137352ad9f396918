-- What a turn of a simulation makes of the record and of the line.
use Rattle.std.proofs.Common.{◌≡◌, ℕ, suc, ◌<◌, ◌≤◌, Bool, true, false, cond, not, ◌==◌, IsTrue, refl, sym, ap, ◌∙◌, subst, List, [], ◌∷◌, length, filter, Some, None, ◌⊎◌, inl, inr, arith}
use Rattle.std.specs.List.{find, list_any}
use Rattle.std.proofs.Math.Logic.{∥∥₁_map}
use Rattle.std.proofs.lemmas.Bool.{eq-eqb, not-true}
use Rattle.kom_base.specs.declared.numbers.Comp.{Comp}
use Rattle.kom_base.specs.Lists.{first}
use Rattle.kom_lang.specs.Declarations.{Declarations}
use Rattle.kom_system.specs.declared.system.System.{System}
use Rattle.kom_record.specs.Model.{model}
use Rattle.kom_record.specs.declared.plan.Plan.{Plan}
use Rattle.kom_record.specs.declared.job.Job.{Job}
use Rattle.kom_record.specs.declared.job.Ran.{Ran}
use Rattle.kom_record.specs.declared.entry.Outcome.{Outcome}
use Rattle.kom_record.specs.declared.entry.Release.{Release}
use Rattle.kom_record.specs.declared.entry.Entry.TheVariants.{Took, Did, Moved}
use Rattle.kom_record.specs.declared.answers.Rest.{Rest}
use Rattle.kom_record.specs.declared.answers.Rest.TheVariants as rest
use Rattle.kom_record.specs.Entries.{History, TakenJob, acts, in_hand}
use Rattle.kom_record.specs.Instances.{alive}
use Rattle.kom_record.specs.Bodies.{body_at}
use Rattle.kom_record.specs.Queues.{unreached}
use Rattle.kom_record.specs.Controls.{told}
use Rattle.kom_record.specs.Ready.{ready_list, is_closed}
use Rattle.kom_record.specs.Legal.{IsLegal, MayTake}
use Rattle.kom_record.specs.Answers.{job_of, did, wakes, IsFree, IsInHand, IsJobFor, IsCommit, IsMove, AnswersRest, recorded}
use Rattle.kom_record.specs.Simulated.{IsInOrder, IsSimulated, longest_ready}
use Rattle.kom_laws.proofs.Members.{Some-injective}
use Rattle.kom_sim.specs.Line.{all_at_end}
use Rattle.kom_sim.specs.Simulations.{IsBetween, IsTaken, IsSameRun, AnswersTurn, left}
use Rattle.kom_sim.specs.declared.turns.Turn.{Turn}
use Rattle.kom_sim.specs.declared.turns.Turn.TheVariants as turn
use Rattle.kom_sim.proofs.Records.{at_begin, after_move, after_handling, first_is_longest, none_is_ready, ready_not_closed, steps_are_left, instants_are_left, closed_is_finished, ended_is_finished, left_took, left_did, left_moved}

module _ (S : Declarations) (Z : Plan) where
  at_first : IsBetween S Z [] (all_at_end [] (ready_list S Z []))
  unfolding model
  at_first = record { idle = refl; in_order = tt; line_of = at_begin S Z }

  pub begins : (P : History) (woken line : List ℕ) → P ≡ [] → woken ≡ ready_list S Z [] → line ≡ all_at_end [] woken → IsBetween S Z P line
  begins P woken line e f g = subst (λ Q. IsBetween S Z Q line) (sym e) (subst (λ l. IsBetween S Z [] l) (sym (g ∙ ap (all_at_end []) f)) at_first)

pub free_when_idle : (P : History) (w : ℕ) → in_hand P ≡ [] → IsFree P w
unfolding job_of
free_when_idle P w e = ap (find (λ job. job.w == w)) e

-- ---- a Took

hand_of : History → ℕ → Job → TakenJob
hand_of P c job = record { took = length P; w = 0; c = c; item = job.item }

module _ (S : System) (Z : Plan) where
  taken_in_hand : (P : History) (c : ℕ) (job : Job) (Q : History) → IsJobFor S Z P 0 c job Q → IsInHand S (Took 0 c job.item ∷ P) job
  unfolding model job_of
  taken_in_hand P c job Q h = record {
    hand = record { took = length P; w = 0; c = c; item = job.item };
    found = ap (λ w. find (λ j. j.w == w) (in_hand (Took 0 c job.item ∷ P))) h.worker;
    component = h.component;
    item = refl;
    body = ap (λ d. body_at S.declarations (Took 0 c job.item ∷ P) d) h.component ∙ h.body;
    system = h.system;
  }

  pub taken_first : (P : History) (c : ℕ) (cs : List ℕ) (job : Job) (Q : History) → IsBetween S.declarations Z P (c ∷ cs) → IsJobFor S Z P 0 c job Q → (t : IsTaken S Z Q job cs) × (t.before ≡ P)
  taken_first P c cs job Q b h = (
    record {
      before = P;
      took = h.added ∙ ap (λ d. Took 0 d job.item ∷ P) (sym h.component);
      between = subst (λ d. IsBetween S.declarations Z P (d ∷ cs)) (sym h.component) b;
      may = subst (λ d. MayTake S.declarations Z P 0 d job.item) (sym h.component) (record { free = subst (λ js. IsTrue (not (list_any (λ j. j.w == 0) js))) (sym b.idle) refl; ready = h.ready; next = h.next });
      longest = first_is_longest S.declarations Z P c cs b.line_of h.ready ∙ ap Some (sym h.component);
      hand = subst (λ R. IsInHand S R job) (sym h.added) (taken_in_hand P c job Q h);
    },
    refl,
  )

  -- ---- a Did

  only_one : (f : TakenJob → Bool) (j k : TakenJob) → find f (j ∷ []) ≡ Some k → k ≡ j
  only_one f j k e = at (f j) refl
    where
      at : (b : Bool) → f j ≡ b → k ≡ j
      at true q = sym (Some-injective (sym (ap (λ b. cond b (Some j) None) q) ∙ e))
      at false q = absurd (let a : None ≡ Some k = sym (ap (λ b. cond b (Some j) None) q) ∙ e in cc)

  the_hand : (B : History) (job : Job) (w : ℕ) (hand : TakenJob) → in_hand B ≡ [] → job_of (Took 0 job.c job.item ∷ B) w ≡ Some hand → hand ≡ record { took = length B; w = 0; c = job.c; item = job.item }
  unfolding model job_of
  the_hand B job w hand e f =
      only_one (λ j. j.w == w) (record { took = length B; w = 0; c = job.c; item = job.item }) hand
      (sym (ap (λ js. find (λ j. j.w == w) (record { took = length B; w = 0; c = job.c; item = job.item } ∷ js)) e) ∙ f)

  idle_after : (B : History) (job : Job) (o : Outcome) → in_hand B ≡ [] → in_hand (did S.declarations (Took 0 job.c job.item ∷ B) (record { took = length B; w = 0; c = job.c; item = job.item }) o ∷ Took 0 job.c job.item ∷ B) ≡ []
  unfolding model did
  idle_after B job o e =
      ap (λ b. cond (not b) (record { took = length B; w = 0; c = job.c; item = job.item } ∷ filter (λ j. not (j.took == length B)) (in_hand B)) (filter (λ j. not (j.took == length B)) (in_hand B))) (eq-eqb (length B) (length B) refl)
      ∙ ap (filter (λ j. not (j.took == length B))) e

  ordered_after : (B : History) (job : Job) (cs : List ℕ) (o : Outcome) → IsBetween S.declarations Z B (job.c ∷ cs) → longest_ready S.declarations Z B ≡ Some job.c
      → IsInOrder S.declarations Z (did S.declarations (Took 0 job.c job.item ∷ B) (record { took = length B; w = 0; c = job.c; item = job.item }) o ∷ Took 0 job.c job.item ∷ B)
  unfolding model did
  ordered_after B job cs o b l = ((b.in_order, (refl, b.idle, l)), (refl, refl))

  left_after : (B : History) (job : Job) (o : Outcome) → left Z (did S.declarations (Took 0 job.c job.item ∷ B) (record { took = length B; w = 0; c = job.c; item = job.item }) o ∷ Took 0 job.c job.item ∷ B) ≡ left Z (Took 0 job.c job.item ∷ B)
  unfolding did
  left_after B job o =
      let R = Took 0 job.c job.item ∷ B in
      left_did Z R 0 job.c (length B) o (told S.declarations R (Did 0 job.c (length B) o None []) job.c) (unreached S.declarations R (Did 0 job.c (length B) o None []))

  handled_after : (B : History) (job : Job) (cs : List ℕ) (o : Outcome) (woken : List ℕ) (Q : History) (line : List ℕ)
      → IsBetween S.declarations Z B (job.c ∷ cs) → MayTake S.declarations Z B 0 job.c job.item → longest_ready S.declarations Z B ≡ Some job.c
      → Q ≡ did S.declarations (Took 0 job.c job.item ∷ B) (record { took = length B; w = 0; c = job.c; item = job.item }) o ∷ Took 0 job.c job.item ∷ B
      → line ≡ all_at_end cs (wakes S.declarations Z (Took 0 job.c job.item ∷ B) Q)
      → IsBetween S.declarations Z Q line × (left Z Q ≡ left Z (Took 0 job.c job.item ∷ B))
  handled_after B job cs o woken Q line b may l e f =
      let R = Took 0 job.c job.item ∷ B in
      let d = did S.declarations R (record { took = length B; w = 0; c = job.c; item = job.item }) o in
      let line_is : line ≡ all_at_end cs (wakes S.declarations Z R (d ∷ R)) = f ∙ ap (λ q. all_at_end cs (wakes S.declarations Z R q)) e in (
        subst (λ q. IsBetween S.declarations Z q line) (sym e) (subst (λ c. IsBetween S.declarations Z (d ∷ R) c) (sym line_is) (record {
          idle = idle_after B job o b.idle;
          in_order = ordered_after B job cs o b l;
          line_of = after_handling S.declarations Z B job.c job.item d cs may b.line_of;
        })),
        ap (left Z) e ∙ left_after B job o,
      )

  pub handled : (P : History) (job : Job) (cs : List ℕ) (ran : Ran) (woken : List ℕ) (Q : History) (line : List ℕ) → IsTaken S Z P job cs → IsCommit S Z P ran woken Q → line ≡ all_at_end cs woken
      → IsBetween S.declarations Z Q line × (left Z Q < suc (left Z P))
  handled P job cs ran woken Q line t commit e =
      let R = Took 0 job.c job.item ∷ t.before in
      let hand = the_hand t.before job ran.job.w commit.hand t.between.idle (subst (λ p. job_of p ran.job.w ≡ Some commit.hand) t.took commit.found) in
      let o = recorded (alive S.declarations (acts P) ran.job.c) ran.outcome in
      let added : Q ≡ did S.declarations R (record { took = length t.before; w = 0; c = job.c; item = job.item }) o ∷ R = commit.added ∙ ap (λ p. did S.declarations p commit.hand o ∷ p) t.took ∙ ap (λ h. did S.declarations R h o ∷ R) hand in
      let r = handled_after t.before job cs o woken Q line t.between t.may t.longest added (e ∙ ap (all_at_end cs) (commit.woken_are ∙ ap (λ p. wakes S.declarations Z p Q) t.took)) in
      (r.0, omega (arith, r.1, ap (left Z) t.took))

  -- what one more turn leaves to do
  pub less_left : (P : History) (Q : History) (job : Job) (cs : List ℕ) (t : IsTaken S Z Q job cs) → t.before ≡ P → left Z Q < left Z P
  less_left P Q job cs t e = omega (arith, ap (left Z) t.took, left_took Z t.before 0 job.c job.item (steps_are_left S.declarations Z t.before (ready_not_closed S.declarations Z t.before job.c t.may.ready)), ap (left Z) e)

module _ (S : Declarations) (Z : Plan) where
  -- ---- a Moved

  after_moved : (P : History) (t : ℕ) (released : List Release) → IsBetween S Z P [] → ready_list S Z P ≡ [] → IsBetween S Z (Moved 0 t released ∷ P) (all_at_end [] (wakes S Z P (Moved 0 t released ∷ P)))
  unfolding model
  after_moved P t released b none = record { idle = b.idle; in_order = (b.in_order, refl); line_of = after_move S Z P (Moved 0 t released) none }

  pub moved : (P : History) (woken : List ℕ) (Q : History) (line : List ℕ) → IsBetween S Z P [] → IsMove S Z P 0 woken Q → line ≡ all_at_end [] woken → IsBetween S Z Q line × (left Z Q < left Z P)
  moved P woken Q line b m e =
      let line_is : line ≡ all_at_end [] (wakes S Z P (Moved 0 m.t m.released ∷ P)) = e ∙ ap (all_at_end []) (m.woken_are ∙ ap (wakes S Z P) m.added) in (
        subst (λ q. IsBetween S Z q line) (sym m.added) (subst (λ l. IsBetween S Z (Moved 0 m.t m.released ∷ P) l) (sym line_is) (after_moved P m.t m.released b m.may.none_ready)),
        omega (arith, ap (left Z) m.added, left_moved Z P 0 m.t m.released (instants_are_left S Z P (not-true _ m.may.not_closed))),
      )

  -- ---- the end

  pub closed_ends : (P Q : History) (cs : List ℕ) → Q ≡ P → is_closed S Z P ≡ true → IsBetween S Z P cs → ∥ IsLegal S Z Q ∥₁ → ∥ IsSimulated S Z Q ∥₁
  closed_ends P Q cs e closed b legal = ∥∥₁_map legal (λ l. subst (IsSimulated S Z) (sym e) (record { legal = subst (IsLegal S Z) e l; finished = closed_is_finished S Z P b.idle closed; in_order = b.in_order }))

  pub rest_ends : (P Q : History) (answer : Rest) → (answer ≡ rest.End) ⊎ (answer ≡ rest.Closed) → AnswersRest S Z P 0 answer Q → IsBetween S Z P [] → ∥ IsLegal S Z Q ∥₁ → ∥ IsSimulated S Z Q ∥₁
  rest_ends P Q answer (inl e) h b legal =
      let a = subst (λ r. AnswersRest S Z P 0 r Q) e h in
      ∥∥₁_map legal (λ l. subst (IsSimulated S Z) (sym a.4) (record { legal = subst (IsLegal S Z) a.4 l; finished = ended_is_finished S Z P b.idle a.0 a.1 a.3; in_order = b.in_order }))
  rest_ends P Q answer (inr e) h b legal =
      let a = subst (λ r. AnswersRest S Z P 0 r Q) e h in
      closed_ends P Q [] a.1 a.0 b legal

  pub no_other_rest : (P Q : History) (answer : Rest) → ((c : Comp) × answer ≡ rest.Ready c) ⊎ (answer ≡ rest.Waiting) → AnswersRest S Z P 0 answer Q → IsBetween S Z P [] → ⊥
  no_other_rest P Q answer (inl e) h b =
      let a = subst (λ r. AnswersRest S Z P 0 r Q) e.1 h in
      let z : None ≡ Some e.0 = sym (ap first (none_is_ready S Z P b.line_of)) ∙ a.1 in cc
  no_other_rest P Q answer (inr e) h b =
      let a = subst (λ r. AnswersRest S Z P 0 r Q) e h in a.2 b.idle

  -- a turn with a lesser bound
  pub less_bound : (m n : ℕ) (t : Turn) (Q : History) (line : List ℕ) → m ≤ n → AnswersTurn S Z m t Q line → AnswersTurn S Z n t Q line
  less_bound m n turn.Again Q line l h = (h.0, omega (arith, h.1, l))
  less_bound m n turn.Ended Q line l h = h
  less_bound m n turn.Memory Q line l h = h

-- ---- stations

module _ {T : Type 0} (system : T → System) (plan : T → Plan) (history : T → History) (legal : (t : T) → ∥ IsLegal (system t).declarations (plan t) (history t) ∥₁) where
  -- a station of the same system and plan as another is legal for that one's
  pub its_legal : (a t : T) → IsSameRun system plan a t → ∥ IsLegal (system a).declarations (plan a) (history t) ∥₁
  its_legal a t e = subst (λ (p : System × Plan). ∥ IsLegal p.0.declarations p.1 (history t) ∥₁) (λ k. (e.0 k, e.1 k)) (legal t)

module _ {T : Type 0} (system : T → System) (plan : T → Plan) (history : T → History) where
  pub found_job : (a t : T) (c : ℕ) (cs line : List ℕ) (job : Job) (Q : History) → IsSameRun system plan a t → history t ≡ history a
      → IsBetween (system a).declarations (plan a) (history a) line → line ≡ c ∷ cs → IsJobFor (system t) (plan t) (history t) 0 c job Q
      → (taken : IsTaken (system a) (plan a) Q job cs) × (taken.before ≡ history a)
  found_job a t c cs line job Q e h b l j =
      taken_first (system a) (plan a) (history a) c cs job Q (subst (IsBetween (system a).declarations (plan a) (history a)) l b)
      (subst (λ (p : System × Plan × History). IsJobFor p.0 p.1 p.2 0 c job Q) (λ k. (e.0 k, e.1 k, h k)) j)

  pub went_on : (a t : T) (job : Job) (cs : List ℕ) (r : Turn) (Q : History) (line : List ℕ) → IsSameRun system plan a t
      → (taken : IsTaken (system a) (plan a) (history t) job cs) × (taken.before ≡ history a)
      → AnswersTurn (system t).declarations (plan t) (suc (left (plan t) (history t))) r Q line
      → AnswersTurn (system a).declarations (plan a) (left (plan a) (history a)) r Q line
  went_on a t job cs r Q line e taken h =
      less_bound (system a).declarations (plan a) (suc (left (plan a) (history t))) (left (plan a) (history a)) r Q line
      (omega (arith, less_left (system a) (plan a) (history a) (history t) job cs taken.0 taken.1))
      (subst (λ (p : System × Plan). AnswersTurn p.0.declarations p.1 (suc (left p.1 (history t))) r Q line) (λ k. (e.0 k, e.1 k)) h)
