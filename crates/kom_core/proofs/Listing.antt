-- The list of those that are ready.
use Rattle.std.proofs.Common.{◌≡◌, ℕ, ◌+◌, ◌<◌, ◌≤◌, Bool, true, false, if◌then◌else◌, not, ◌&&◌, ◌||◌, ◌==◌, refl, sym, ap, ◌∙◌, subst, List, [], ◌∷◌, ◌++◌, length, filter, arith}
use Rattle.std.specs.Prelude.{nat_lt}
use Rattle.std.proofs.lemmas.Bool.{and_parts, eq-eqb, eqb-true, le-ltb, lt-ltb, ltb-false, ltb-true, ne_eqb}
use Rattle.std.proofs.lemmas.List.{append-nil}
use Rattle.kom_base.specs.Lists.{holds_number}
use Rattle.kom_comps.specs.Members.{Members, has}
use Rattle.kom_lang.specs.Declarations.{Declarations}
use Rattle.kom_laws.proofs.InstanceLaws.{alive_born}
use Rattle.kom_marks.proofs.Rising.{held_in_both, rises_on, those}
use Rattle.kom_record.specs.declared.plan.Plan.{Plan}
use Rattle.kom_record.specs.Entries.{History, acts}
use Rattle.kom_record.specs.Instances.{born}
use Rattle.kom_record.specs.Ready.{instance_numbers, is_closed, ready, ready_list, runnable}
use Rattle.kom_state.specs.Parts.{state_of}
use Rattle.kom_turns.specs.declared.run.Run.{Run}
use Rattle.kom_turns.specs.Runs.{Stands, history_of, system_of}
use Rattle.kom_turns.proofs.Standing.{is_made, runs_alive}
use Rattle.kom_core.specs.Listed.{AreListed}

-- ---- one number after another

off : (b : Bool) → (b || false) ≡ b
off true = refl
off false = refl

beside : (b : Bool) → (b || true) ≡ true
beside true = refl
beside false = refl

none : (b : Bool) → (b && false) ≡ false
none true = refl
none false = refl

all : (b : Bool) → (b && true) ≡ b
all true = refl
all false = refl

module _ (set : Members) where
  pub none_listed : AreListed set 0 []
  none_listed = record {
    rise = tt;
    are = λ c. sym (ap (λ b. b && has set c) (le-ltb c 0 (omega arith)));
  }

  -- the test for one number more
  later : (bound c : ℕ) → (c == bound) ≡ false → nat_lt c (bound + 1) ≡ nat_lt c bound
  later bound c e = go (nat_lt c bound) refl
    where
      go : (b : Bool) → nat_lt c bound ≡ b → nat_lt c (bound + 1) ≡ b
      go true t = lt-ltb c (bound + 1) (let h = ltb-true c bound t in omega arith)
      go false t = le-ltb c (bound + 1) (
          let n : (c ≡ bound → ⊥) = λ s. cc (e, eq-eqb c bound s) in
          let m : bound ≤ c = ltb-false c bound t in
          omega (arith, n, m)
          )

  pub one_listed : (bound : ℕ) (list : List ℕ) → AreListed set bound list → has set bound ≡ true → AreListed set (bound + 1) (list ++ bound ∷ [])
  one_listed bound list a there = record {
    rise = rises_on 0 bound list a.rise (omega arith) (λ d h. ltb-true d bound (and_parts _ _ (sym (a.are d) ∙ h)).0);
    are = λ c. held_in_both list (bound ∷ []) c ∙ go c (c == bound) refl;
  }
    where
      go : (c : ℕ) (b : Bool) → (c == bound) ≡ b → (holds_number list c || ((bound == c) || false)) ≡ (nat_lt c (bound + 1) && has set c)
      go c true t =
          let e : c ≡ bound = eqb-true c bound t in
          let a : nat_lt c (bound + 1) ≡ true = lt-ltb c (bound + 1) (omega (arith, e)) in
          let h : has set c ≡ true = ap (has set) e ∙ there in
          ap (λ b. holds_number list c || (b || false)) (eq-eqb bound c (sym e)) ∙ beside (holds_number list c)
          ∙ sym (ap (λ b. b && has set c) a ∙ h)
      go c false t =
          ap (λ b. holds_number list c || (b || false)) (ne_eqb bound c (λ s. cc (t, eq-eqb c bound (sym s)))) ∙ off (holds_number list c)
          ∙ a.are c ∙ ap (λ b. b && has set c) (sym (later bound c t))

  pub one_left_out : (bound : ℕ) (list : List ℕ) → AreListed set bound list → has set bound ≡ false → AreListed set (bound + 1) list
  one_left_out bound list a gone = record {
    rise = a.rise;
    are = λ c. go c (c == bound) refl;
  }
    where
      go : (c : ℕ) (b : Bool) → (c == bound) ≡ b → holds_number list c ≡ (nat_lt c (bound + 1) && has set c)
      go c true t =
          let e : has set c ≡ false = ap (has set) (eqb-true c bound t) ∙ gone in
          a.are c ∙ ap (λ b. nat_lt c bound && b) e ∙ none (nat_lt c bound) ∙ sym (ap (λ b. nat_lt c (bound + 1) && b) e ∙ none (nat_lt c (bound + 1)))
      go c false t = a.are c ∙ ap (λ b. b && has set c) (sym (later bound c t))

  -- one number more is tested, and listed where it is in the set
  pub one_tested : (bound : ℕ) (list more : List ℕ) → AreListed set bound list → more ≡ list ++ (if has set bound then bound ∷ [] else []) → AreListed set (bound + 1) more
  one_tested bound list more a e = subst (λ ns. AreListed set (bound + 1) ns) (sym e) (go (has set bound) refl)
    where
      go : (b : Bool) → has set bound ≡ b → AreListed set (bound + 1) (list ++ (if has set bound then bound ∷ [] else []))
      go true t = subst (λ b. AreListed set (bound + 1) (list ++ (if b then bound ∷ [] else []))) (sym t) (one_listed bound list a t)
      go false t =
          subst (λ b. AreListed set (bound + 1) (list ++ (if b then bound ∷ [] else []))) (sym t)
          (subst (λ ns. AreListed set (bound + 1) ns) (sym (append-nil list)) (one_left_out bound list a t))

-- ---- who is ready

none_of : (f : ℕ → Bool) (ns : List ℕ) → ((d : ℕ) → f d ≡ false) → filter f ns ≡ []
none_of f [] h = refl
none_of f (n ∷ ns) h = ap (λ b. if b then n ∷ filter f ns else filter f ns) (h n) ∙ none_of f ns h

pub none_ready : (S : Declarations) (Z : Plan) (R : History) → is_closed S Z R ≡ true → ready_list S Z R ≡ []
unfolding ready_list ready
none_ready S Z R closed = none_of _ (instance_numbers S R) (λ d. ap (λ b. runnable S R d && not b) closed ∙ none (runnable S R d))

module _ (v : Run) (s : Stands v) (open_still : is_closed (system_of v) v.env.plan (history_of v) ≡ false) where
  abbrev S : Declarations
  S = system_of v

  abbrev Z : Plan
  Z = v.env.plan

  abbrev R : History
  R = history_of v

  ready_is : (c : ℕ) → has v.runnable c ≡ ready S Z R c
  unfolding ready
  ready_is c = s.runnable_are c ∙ sym (ap (λ b. runnable S R c && not b) open_still ∙ all (runnable S R c))

  runs : (c : ℕ) → ready S Z R c ≡ true → runnable S R c ≡ true
  runs c h = sym (s.runnable_are c) ∙ ready_is c ∙ h

  made : (c : ℕ) → ready S Z R c ≡ true → c < length (state_of v.state).nodes
  made c h = is_made S R (state_of v.state) s.state c (runs_alive S R (state_of v.state) s.state c (runs c h))

  pub listed_are_ready : (list : List ℕ) → AreListed v.runnable (length (state_of v.state).nodes) list → list ≡ ready_list S Z R
  unfolding ready_list instance_numbers
  listed_are_ready list a = those (ready S Z R) 0 (born S (acts R)) list a.rise (λ c le. a.are c ∙ each c (ready S Z R c) refl) (λ c h. below c h)
    where
      each : (c : ℕ) (b : Bool) → ready S Z R c ≡ b → (nat_lt c (length (state_of v.state).nodes) && has v.runnable c) ≡ ready S Z R c
      each c true t = ap (λ b. b && has v.runnable c) (lt-ltb c (length (state_of v.state).nodes) (made c t)) ∙ ready_is c
      each c false t = ap (λ b. nat_lt c (length (state_of v.state).nodes) && b) (ready_is c ∙ t) ∙ none (nat_lt c (length (state_of v.state).nodes)) ∙ sym t

      below : (c : ℕ) → ready S Z R c ≡ true → c < 0 + length (born S (acts R))
      below c h =
          let a : c < length (born S (acts R)) = alive_born S (acts R) c (runs_alive S R (state_of v.state) s.state c (runs c h)) in
          omega (arith, a)
