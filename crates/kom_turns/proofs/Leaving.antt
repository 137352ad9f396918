-- What a run has left to do.
use Rattle.std.proofs.Common.{◌≡◌, ℕ, ◌+◌, ◌<◌, ◌≤◌, Bool, true, false, if◌then◌else◌, not, ◌&&◌, ◌==◌, refl, sym, ap, ◌∙◌, List, [], ◌∷◌, length, map, filter, Option, Some, None, inl, inr, arith, ◌≢◌}
use Rattle.std.specs.Prelude.{is_none, is_some, nat_lt}
use Rattle.std.specs.List.{enumerate_from, find}
use Rattle.std.specs.Option.{option_map}
use Rattle.std.specs.Ordering.{nat_cmp}
use Rattle.std.proofs.lemmas.Bool.{cases_eq, eq-eqb}
use Rattle.kom_base.specs.Lists.{first, least}
use Rattle.kom_comps.specs.Members.{has, IsLeast}
use Rattle.kom_comps.proofs.Counting.{not_below}
use Rattle.kom_env.specs.Outside.{due_of, pending_of}
use Rattle.kom_index.specs.Entries.{IsFirstFrom}
use Rattle.kom_index.specs.Stock.{entries}
use Rattle.kom_lang.specs.Declarations.{Declarations}
use Rattle.kom_record.specs.declared.plan.Plan.{Plan}
use Rattle.kom_record.specs.Answers.{job_of}
use Rattle.kom_record.specs.Entries.{History, TakenJob, acts, in_hand}
use Rattle.kom_record.specs.Instances.{born}
use Rattle.kom_record.specs.Ready.{has_more, is_idle, instance_numbers, is_closed, ready, ready_list, runnable}
use Rattle.kom_record.specs.Time.{due, pending}
use Rattle.kom_laws.proofs.InstanceLaws.{alive_born}
use Rattle.kom_state.specs.Parts.{state_of}
use Rattle.kom_times.specs.Laws.{TellsWhatIsPending}
use Rattle.kom_turns.specs.declared.run.Run.{Run}
use Rattle.kom_turns.specs.Runs.{Stands, held_of, history_of, system_of}
use Rattle.kom_turns.proofs.Standing.{runs_alive}

pub empty_by : {X : Type 0} (xs : List X) → is_some (first xs) ≡ false → xs ≡ []
empty_by [] h = refl
empty_by (x ∷ xs) h = absurd cc

-- ---- the least number that passes a test

first_filter : {X : Type 0} (f : ℕ → Bool) (n : ℕ) (xs : List X) (c : ℕ) → f c ≡ true → n ≤ c → c < n + length xs → ((d : ℕ) → d < c → f d ≡ false)
    → first (filter f (map (λ (i : ℕ × X). i.0) (enumerate_from n xs))) ≡ Some c
first_filter f n [] c holds low high rest = absurd (omega arith)
first_filter f n (x ∷ xs) c holds low high rest =
    elim (cases_eq n c) [
      | inl e ↦ ap (λ b. first (if b then n ∷ filter f (map (λ (i : ℕ × _). i.0) (enumerate_from (n + 1) xs)) else filter f (map (λ (i : ℕ × _). i.0) (enumerate_from (n + 1) xs)))) (ap f e ∙ holds) ∙ ap Some e
      | inr e ↦
          ap (λ b. first (if b then n ∷ filter f (map (λ (i : ℕ × _). i.0) (enumerate_from (n + 1) xs)) else filter f (map (λ (i : ℕ × _). i.0) (enumerate_from (n + 1) xs)))) (rest n (let h : n ≢ c = e in omega arith))
          ∙ first_filter f (n + 1) xs c holds (let h : n ≢ c = e in omega arith) (omega arith) rest
    ]

none_filter : (f : ℕ → Bool) (ns : List ℕ) → ((d : ℕ) → f d ≡ false) → filter f ns ≡ []
none_filter f [] h = refl
none_filter f (n ∷ ns) h = ap (λ b. if b then n ∷ filter f ns else filter f ns) (h n) ∙ none_filter f ns h

-- ---- the jobs in hand

no_job : (js : List TakenJob) → ((q : ℕ) → find (λ job. job.w == q) js ≡ None) → js ≡ []
no_job [] h = refl
no_job (j ∷ js) h = absurd (cc (h j.w, ap (λ b. if b then Some j else find (λ job. job.w == j.w) js) (eq-eqb j.w j.w refl)))

some_least : {X : Type 0} (x : X) (xs : List X) (before : X → X → Bool) → least before (x ∷ xs) ≡ None → ⊥
some_least x xs before e = cc

none_pending : {X : Type 0} (xs : List (ℕ × X)) → least nat_lt (map (λ p. p.0) xs) ≡ None → is_some (first xs) ≡ false
none_pending [] e = refl
none_pending (x ∷ xs) e = absurd (some_least x.0 (map (λ p. p.0) xs) nat_lt e)

due_some : {X : Type 0} (xs : List (ℕ × X)) → is_some (least nat_lt (map (λ p. p.0) xs)) ≡ not (is_none (first xs))
due_some [] = refl
due_some (x ∷ xs) = refl

module _ (v : Run) (s : Stands v) where
  abbrev S : Declarations
  S = system_of v

  abbrev Z : Plan
  Z = v.env.plan

  abbrev R : History
  R = history_of v

  module _ (still : is_closed S Z R ≡ false) where
    ready_is : (c : ℕ) → ready S Z R c ≡ has v.runnable c
    unfolding ready
    ready_is c = ap (λ b. runnable S R c && not b) still ∙ on (runnable S R c) ∙ sym (s.runnable_are c)
      where
        on : (b : Bool) → (b && true) ≡ b
        on true = refl
        on false = refl

    pub least_ready : (c : ℕ) → IsLeast v.runnable (Some c) → first (ready_list S Z R) ≡ Some c
    unfolding ready_list instance_numbers
    least_ready c l =
        let runs : runnable S R c ≡ true = sym (s.runnable_are c) ∙ l.0 in
        first_filter (ready S Z R) 0 (born S (acts R)) c (ready_is c ∙ l.0) (omega arith)
        (let h : c < length (born S (acts R)) = alive_born S (acts R) c (runs_alive S R (state_of v.state) s.state c runs) in omega arith)
        (λ d h. ready_is d ∙ fails d h (has v.runnable d) refl)
      where
        fails : (d : ℕ) → d < c → (b : Bool) → has v.runnable d ≡ b → has v.runnable d ≡ false
        fails d h true e = absurd (let k : c ≤ d = l.1 d e in omega arith)
        fails d h false e = e

    pub none_ready : IsLeast v.runnable None → is_some (first (ready_list S Z R)) ≡ false
    unfolding ready_list
    none_ready l = ap (λ ns. is_some (first ns)) (none_filter (ready S Z R) (instance_numbers S R) (λ d. ready_is d ∙ l d))

  runs_first : (c : ℕ) → IsLeast v.runnable (Some c) → first (filter (runnable S R) (instance_numbers S R)) ≡ Some c
  unfolding instance_numbers
  runs_first c l =
      let runs : runnable S R c ≡ true = sym (s.runnable_are c) ∙ l.0 in
      first_filter (runnable S R) 0 (born S (acts R)) c runs (omega arith)
      (let h : c < length (born S (acts R)) = alive_born S (acts R) c (runs_alive S R (state_of v.state) s.state c runs) in omega arith)
      (λ d h. sym (s.runnable_are d) ∙ fails d h (has v.runnable d) refl)
    where
      fails : (d : ℕ) → d < c → (b : Bool) → has v.runnable d ≡ b → has v.runnable d ≡ false
      fails d h true e = absurd (let k : c ≤ d = l.1 d e in omega arith)
      fails d h false e = e

  pub more_by_runnable : (c : ℕ) → IsLeast v.runnable (Some c) → has_more S Z R ≡ true
  unfolding has_more is_idle
  more_by_runnable c l = ap (λ o. not (is_none o && is_none (first (pending S Z R)))) (runs_first c l)

  pub more_by_due : IsLeast v.runnable None → TellsWhatIsPending → is_some (due_of v.env) ≡ has_more S Z R
  unfolding has_more is_idle
  more_by_due l law =
      due_some (pending_of v.env) ∙ ap (λ ps. not (is_none (first ps))) (law S Z R v.env s.legal s.outside).pending
      ∙ ap (λ ns. not (is_none (first ns) && is_none (first (pending S Z R)))) (sym (none_filter (runnable S R) (instance_numbers S R) (λ d. sym (s.runnable_are d) ∙ l d)))

  pub none_in_hand : IsFirstFrom nat_cmp 0 (entries v.jobs) None → is_some (first (in_hand R)) ≡ false
  unfolding job_of
  none_in_hand l = ap (λ js. is_some (first js)) (no_job (in_hand R) (λ q. nothing q (find (λ job. job.w == q) (in_hand R)) refl))
    where
      nothing : (q : ℕ) (o : Option TakenJob) → find (λ job. job.w == q) (in_hand R) ≡ o → find (λ job. job.w == q) (in_hand R) ≡ None
      nothing q None e = e
      nothing q (Some j) e = absurd (cc (l q (ap is_some (s.jobs q ∙ ap (option_map held_of) e)), not_below q))

  pub some_in_hand : (w : ℕ) → IsFirstFrom nat_cmp 0 (entries v.jobs) (Some w) → in_hand R ≡ [] → ⊥
  unfolding job_of
  some_in_hand w l e = cc (l.0, ap is_some (s.jobs w ∙ ap (λ js. option_map held_of (find (λ job. job.w == w) js)) e))

  pub nothing_pending : TellsWhatIsPending → due_of v.env ≡ None → is_some (first (pending S Z R)) ≡ false
  nothing_pending law e = ap (λ ps. is_some (first ps)) (sym (law S Z R v.env s.legal s.outside).pending) ∙ none_pending (pending_of v.env) e

  pub something_due : TellsWhatIsPending → (t : ℕ) → due_of v.env ≡ Some t → is_some (due S Z R) ≡ true
  something_due law t e = ap is_some (sym (law S Z R v.env s.legal s.outside).due ∙ e)
