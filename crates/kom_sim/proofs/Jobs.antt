-- The job that was just taken is well formed.
use Rattle.std.proofs.Common.{◌≡◌, ℕ, suc, ◌<◌, ◌≤◌, Bool, true, false, cond, ◌==◌, refl, sym, ap, ◌∙◌, subst, List, [], ◌∷◌, Some, arith}
use Rattle.std.specs.Prelude.{nat_lt, nat_le, Contains}
use Rattle.std.specs.List.{find}
use Rattle.std.proofs.Math.Logic.{∥∥₁_elim}
use Rattle.std.proofs.Math.Bool.{Bool-set}
use Rattle.std.proofs.lemmas.Bool.{ltb-true, lt-ltb, leb-true, le-leb, eqb-true, eq-eqb}
use Rattle.kom_system.specs.declared.system.System.{System}
use Rattle.kom_system.specs.WellFormed.{IsDeclared}
use Rattle.kom_record.specs.declared.plan.Plan.{Plan}
use Rattle.kom_record.specs.declared.job.Job.{Job}
use Rattle.kom_record.specs.Entries.{History, TakenJob, in_hand}
use Rattle.kom_record.specs.Bodies.{body_at}
use Rattle.kom_record.specs.Plans.{PlanFits, IsWellFormedJob}
use Rattle.kom_record.specs.Legal.{IsLegal}
use Rattle.kom_record.specs.Answers.{job_of, IsInHand}
use Rattle.kom_typed.specs.Laws.{JobsAreWellFormed}
use Rattle.kom_laws.proofs.Members.{Some-injective}

found_there : (f : TakenJob → Bool) (js : List TakenJob) (j : TakenJob) → find f js ≡ Some j → Contains js j
found_there f [] j e = absurd cc
found_there f (k ∷ js) j e = at (f k) refl (λ g. found_there f js j g)
  where
    at : (b : Bool) → f k ≡ b → (find f js ≡ Some j → Contains js j) → Contains (k ∷ js) j
    at true q rest = (0, omega arith, Some-injective (sym (ap (λ b. cond b (Some k) (find f js)) q) ∙ e))
    at false q rest = let r = rest (sym (ap (λ b. cond b (Some k) (find f js)) q) ∙ e) in (suc r.0, omega (arith, r.1), r.2)

-- what a test says, where both facts are known
said : {A B : Type 0} (b : Bool) → ∥ A ∥₁ → ∥ B ∥₁ → (A → B → b ≡ true) → b ≡ true
said b s t f = ∥∥₁_elim s (Bool-set b true) (λ x. ∥∥₁_elim t (Bool-set b true) (λ y. f x y))

below : {A B : Type 0} (m n : ℕ) → ∥ A ∥₁ → ∥ B ∥₁ → (A → B → m < n) → m < n
below m n s t f = ltb-true m n (said (nat_lt m n) s t (λ x y. lt-ltb m n (f x y)))

at_most : {A B : Type 0} (m n : ℕ) → ∥ A ∥₁ → ∥ B ∥₁ → (A → B → m ≤ n) → m ≤ n
at_most m n s t f = leb-true m n (said (nat_le m n) s t (λ x y. le-leb m n (f x y)))

equal : {A B : Type 0} (m n : ℕ) → ∥ A ∥₁ → ∥ B ∥₁ → (A → B → m ≡ n) → m ≡ n
equal m n s t f = eqb-true m n (said (m == n) s t (λ x y. eq-eqb m n (f x y)))

pub taken_is_well_formed : JobsAreWellFormed → (S : System) (Z : Plan) (P : History) (job : Job) → IsDeclared S.declarations → ∥ PlanFits S.declarations Z ∥₁ → ∥ IsLegal S.declarations Z P ∥₁ → IsInHand S P job → IsWellFormedJob S.declarations job.body job.item
unfolding job_of
taken_is_well_formed law S Z P job declared fits legal h = record {
  kind = below _ _ fits legal (λ f l. (it f l).kind);
  vars = equal _ _ fits legal (λ f l. (it f l).vars);
  slots = equal _ _ fits legal (λ f l. (it f l).slots);
  wires = equal _ _ fits legal (λ f l. (it f l).wires);
  subs = said _ fits legal (λ f l. (it f l).subs);
  children = said _ fits legal (λ f l. (it f l).children);
  places = said _ fits legal (λ f l. (it f l).places);
  some_depth = at_most _ _ fits legal (λ f l. (it f l).some_depth);
  depth = at_most _ _ fits legal (λ f l. (it f l).depth);
  fitting = said _ fits legal (λ f l. (it f l).fitting);
}
  where
    it : PlanFits S.declarations Z → IsLegal S.declarations Z P → IsWellFormedJob S.declarations job.body job.item
    it f l = subst (IsWellFormedJob S.declarations job.body) (sym h.item) (law S.declarations Z P h.hand job.body declared f l (found_there (λ j. j.w == job.w) (in_hand P) h.hand h.found) (ap (λ c. body_at S.declarations P c) (sym h.component) ∙ h.body))
