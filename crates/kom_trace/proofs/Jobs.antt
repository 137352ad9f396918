-- How many jobs are in hand, and what a Did in a legal record ends.
use Rattle.std.proofs.Common.{◌≡◌, ℕ, suc, ◌+◌, ◌<◌, ◌≤◌, ◌≢◌, ◌==◌, not, cond, Bool, true, refl, sym, ap, ◌∙◌, List, [], ◌∷◌, length, filter, Option, Some, arith, eq-eqb, ne_eqb, inl, inr}
use Rattle.std.specs.Prelude.{is_some, is_none}
use Rattle.std.specs.List.{find, count_by}
use Rattle.std.proofs.Math.Logic.{∥∥₁_elim}
use Rattle.std.proofs.Math.Bool.{Bool-set}
use Rattle.std.proofs.lemmas.List.Sums.{sum_by-cons}
use Rattle.std.proofs.lemmas.Bool.{eqb-true}
use Rattle.std.proofs.lemmas.Bool.Decides.{eqb_tells}
use Rattle.kom_base.specs.Lists.{first}
use Rattle.kom_lang.specs.Declarations.{Declarations}
use Rattle.kom_record.specs.declared.plan.Plan.{Plan}
use Rattle.kom_record.specs.declared.entry.Outcome.{Outcome}
use Rattle.kom_record.specs.declared.entry.Entry.{Entry}
use Rattle.kom_record.specs.declared.entry.Entry.TheVariants.{Took, Did, Moved}
use Rattle.kom_record.specs.Entries.{History, TakenJob, in_hand, item_at}
use Rattle.kom_record.specs.Ready.{is_took}
use Rattle.kom_record.specs.Trace.{is_did}
use Rattle.kom_record.specs.Legal.{IsLegal}
use Rattle.kom_laws.proofs.ActLaws.{job_item}
use Rattle.kom_laws.proofs.Handlings.{found_in, last_allowed}

pub count_cons : (p : Entry → Bool) (e : Entry) (P : History) → count_by p (e ∷ P) ≡ cond (p e) 1 0 + count_by p P
count_cons p e P = sum_by-cons (λ y. cond (p y) 1 0) e P

-- the positions of the Took entries fall, each below n
abbrev Falls : ℕ → List TakenJob → Type 0
Falls n [] = Unit {0}
Falls n (h ∷ hs) = (h.took < n) × Falls h.took hs

abbrev others : ℕ → List TakenJob → List TakenJob
others took hs = filter (λ (h : TakenJob). not (h.took == took)) hs

falls_wide : (n m : ℕ) (hs : List TakenJob) → n ≤ m → Falls n hs → Falls m hs
falls_wide n m [] le f = tt
falls_wide n m (h ∷ hs) le f = (let a = f.0 in omega arith, f.1)

falls_filter : (n took : ℕ) (hs : List TakenJob) → Falls n hs → Falls n (others took hs)
falls_filter n took [] f = tt
falls_filter n took (h ∷ hs) f = elim (eqb_tells h.took took) [
  | inl t ↦ rw t.0 (falls_wide h.took n (others took hs) (let a = f.0 in omega arith) (falls_filter h.took took hs f.1))
  | inr t ↦ rw t.0 (f.0, falls_filter h.took took hs f.1)
]

falls : (P : History) → Falls (length P) (in_hand P)
unfolding in_hand
falls [] = tt
falls (Took w c item ∷ P) = (omega arith, falls P)
falls (Did w c took outcome to places ∷ P) = falls_wide (length P) (suc (length P)) (others took (in_hand P)) (omega arith) (falls_filter (length P) took (in_hand P) (falls P))
falls (Moved w t released ∷ P) = falls_wide (length P) (suc (length P)) (in_hand P) (omega arith) (falls P)

-- none of them is of that Took
none_such : (n took : ℕ) (hs : List TakenJob) → n ≤ took → Falls n hs → others took hs ≡ hs
none_such n took [] le f = refl
none_such n took (h ∷ hs) le f = let a = f.0 in let d : h.took ≢ took = λ e. absurd (omega arith) in rw (ne_eqb h.took took d) (ap (λ (l : List TakenJob). h ∷ l) (none_such h.took took hs (omega arith) f.1))

-- the end of one job leaves one job less
one_less : (n took : ℕ) (hs : List TakenJob) (j : TakenJob) → Falls n hs → find (λ (h : TakenJob). h.took == took) hs ≡ Some j → suc (length (others took hs)) ≡ length hs
one_less n took [] j f is = absurd cc
one_less n took (h ∷ hs) j f is = elim (eqb_tells h.took took) [
  | inl t ↦ rw t.0 (ap (λ (l : List TakenJob). suc (length l)) (none_such h.took took hs (let e = t.1 in omega arith) f.1))
  | inr t ↦
      let more : find (λ (x : TakenJob). x.took == took) hs ≡ Some j = sym (ap (λ (b : Bool). cond b (Some h) (find (λ (x : TakenJob). x.took == took) hs)) t.0) ∙ is in
      rw t.0 (let e = one_less h.took took hs j f.1 more in omega (arith, e))
]

module _ (S : Declarations) (Z : Plan) where
  -- each Took is ended by one Did or is in hand
  hands : (P : History) → IsLegal S Z P → length (in_hand P) + count_by is_did P ≡ count_by is_took P
  unfolding in_hand IsLegal
  hands [] l = refl
  hands (Took w c item ∷ P) l =
      let e = hands P l.0 in
      let d = count_cons is_did (Took w c item) P in
      let t = count_cons is_took (Took w c item) P in
      omega (arith, e, d, t)
  hands (Moved w time released ∷ P) l =
      let e = hands P l.0 in
      let d = count_cons is_did (Moved w time released) P in
      let t = count_cons is_took (Moved w time released) P in
      omega (arith, e, d, t)
  hands (Did w c took o to places ∷ P) l =
      let e = hands P l.0 in
      let f = one_less (length P) took (in_hand P) l.1.job (falls P) l.1.in_hand in
      let d = count_cons is_did (Did w c took o to places) P in
      let t = count_cons is_took (Did w c took o to places) P in
      omega (arith, e, f, d, t)

  empty_by_length : (hs : List TakenJob) (took did : ℕ) → length hs + did ≡ took → is_none (first hs) ≡ (took == did)
  empty_by_length [] took did e = sym (eq-eqb took did (omega (arith, e)))
  empty_by_length (h ∷ hs) took did e = sym (ne_eqb took did (λ q. absurd (omega (arith, e, q))))

  -- no job is in hand exactly where as many were ended as begun
  pub none_in_hand : (P : History) → ∥ IsLegal S Z P ∥₁ → is_none (first (in_hand P)) ≡ (count_by is_took P == count_by is_did P)
  none_in_hand P legal = ∥∥₁_elim legal (Bool-set (is_none (first (in_hand P))) (count_by is_took P == count_by is_did P)) (λ l. empty_by_length (in_hand P) (count_by is_took P) (count_by is_did P) (hands P l))

  -- a Did ends the job of an item that was taken
  pub ends_taken : (P : History) (w c took : ℕ) (o : Outcome) (to : Option ℕ) (places : List ℕ) → ∥ IsLegal S Z (Did w c took o to places ∷ P) ∥₁ → is_some (item_at P took) ≡ true
  ends_taken P w c took o to places legal = ∥∥₁_elim legal (Bool-set (is_some (item_at P took)) true) (λ l.
      let m = last_allowed S Z (Did w c took o to places) P l in
      let f = found_in (λ j. j.took == took) (in_hand P) m.job m.in_hand in
      ap is_some (sym (ap (item_at P) (eqb-true m.job.took took f.1)) ∙ job_item P m.job f.0))
