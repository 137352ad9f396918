-- A job in hand is well formed.
use Rattle.std.proofs.Common.{◌≡◌, ℕ, suc, ◌<◌, ◌≤◌, Bool, true, false, cond, ◌==◌, refl, sym, ap, ◌∙◌, subst, List, [], ◌∷◌, Some, arith}
use Rattle.std.specs.Prelude.{nat_lt, nat_le, Contains}
use Rattle.std.specs.List.{find}
use Rattle.std.proofs.Math.Logic.{∥∥₁_elim}
use Rattle.std.proofs.Math.Bool.{Bool-set}
use Rattle.std.proofs.lemmas.Bool.{ltb-true, lt-ltb, leb-true, le-leb, eqb-true, eq-eqb}
use Rattle.kom_system.specs.declared.system.System.{System}
use Rattle.kom_system.specs.WellFormed.{IsDeclared}
use Rattle.kom_record.specs.declared.plan.Plan.{Plan}
use Rattle.kom_record.specs.declared.job.Job.{Job}
use Rattle.kom_record.specs.Entries.{History, TakenJob, in_hand}
use Rattle.kom_record.specs.Bodies.{body_at}
use Rattle.kom_record.specs.Plans.{PlanFits, IsWellFormedJob}
use Rattle.kom_record.specs.Legal.{IsLegal}
use Rattle.kom_record.specs.Answers.{job_of, IsInHand}
use Rattle.kom_typed.specs.Laws.{JobsAreWellFormed}
use Rattle.kom_laws.proofs.Members.{Some-injective}

stands_in : (f : TakenJob → Bool) (js : List TakenJob) (j : TakenJob) → find f js ≡ Some j → Contains js j
stands_in f [] j e = absurd cc
stands_in f (k ∷ js) j e = at (f k) refl (λ g. stands_in f js j g)
  where
    at : (b : Bool) → f k ≡ b → (find f js ≡ Some j → Contains js j) → Contains (k ∷ js) j
    at true q rest = (0, omega arith, Some-injective (sym (ap (λ b. cond b (Some k) (find f js)) q) ∙ e))
    at false q rest = let r = rest (sym (ap (λ b. cond b (Some k) (find f js)) q) ∙ e) in (suc r.0, omega (arith, r.1), r.2)

module _ {A B : Type 0} (s : ∥ A ∥₁) (t : ∥ B ∥₁) where
  -- what a test says, where both facts are known
  tells : (b : Bool) → (A → B → b ≡ true) → b ≡ true
  tells b f = ∥∥₁_elim s (Bool-set b true) (λ x. ∥∥₁_elim t (Bool-set b true) (λ y. f x y))

  below : (m n : ℕ) → (A → B → m < n) → m < n
  below m n f = ltb-true m n (tells (nat_lt m n) (λ x y. lt-ltb m n (f x y)))

  at_most : (m n : ℕ) → (A → B → m ≤ n) → m ≤ n
  at_most m n f = leb-true m n (tells (nat_le m n) (λ x y. le-leb m n (f x y)))

  equal : (m n : ℕ) → (A → B → m ≡ n) → m ≡ n
  equal m n f = eqb-true m n (tells (m == n) (λ x y. eq-eqb m n (f x y)))

pub well_formed_in_hand : JobsAreWellFormed → (S : System) (Z : Plan) (P : History) (job : Job) → IsDeclared S.declarations → ∥ PlanFits S.declarations Z ∥₁ → ∥ IsLegal S.declarations Z P ∥₁ → IsInHand S P job → IsWellFormedJob S.declarations job.body job.item
unfolding job_of
well_formed_in_hand law S Z P job declared fits legal h = record {
  kind = below fits legal _ _ (λ f l. (it f l).kind);
  vars = equal fits legal _ _ (λ f l. (it f l).vars);
  slots = equal fits legal _ _ (λ f l. (it f l).slots);
  wires = equal fits legal _ _ (λ f l. (it f l).wires);
  subs = tells fits legal _ (λ f l. (it f l).subs);
  children = tells fits legal _ (λ f l. (it f l).children);
  places = tells fits legal _ (λ f l. (it f l).places);
  some_depth = at_most fits legal _ _ (λ f l. (it f l).some_depth);
  depth = at_most fits legal _ _ (λ f l. (it f l).depth);
  fitting = tells fits legal _ (λ f l. (it f l).fitting);
}
  where
    it : PlanFits S.declarations Z → IsLegal S.declarations Z P → IsWellFormedJob S.declarations job.body job.item
    it f l = subst (IsWellFormedJob S.declarations job.body) (sym h.item) (law S.declarations Z P h.hand job.body declared f l (stands_in (λ j. j.w == job.w) (in_hand P) h.hand h.found) (ap (λ c. body_at S.declarations P c) (sym h.component) ∙ h.body))
