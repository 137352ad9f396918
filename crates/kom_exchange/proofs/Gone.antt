-- A worker has one job in hand at most, so it has none once that has ended.
use Rattle.std.proofs.Common.{◌≡◌, ℕ, Bool, true, false, not, ◌||◌, ◌==◌, refl, sym, ap, ◌∙◌, List, [], ◌∷◌, filter, Option, Some, None}
use Rattle.std.specs.Prelude.{is_none}
use Rattle.std.specs.List.{find, list_any}
use Rattle.std.proofs.Math.Logic.{∥∥₁_elim}
use Rattle.std.proofs.Math.Bool.{Bool-set}
use Rattle.std.proofs.lemmas.Bool.{eqb-true, eq-eqb}
use Rattle.kom_lang.specs.Declarations.{Declarations}
use Rattle.kom_record.specs.Model.{model}
use Rattle.kom_record.specs.declared.plan.Plan.{Plan}
use Rattle.kom_record.specs.declared.entry.Outcome.{Outcome}
use Rattle.kom_record.specs.declared.entry.Entry.TheVariants.{Took, Did, Moved}
use Rattle.kom_record.specs.Answers.{IsFree, did, job_of}
use Rattle.kom_record.specs.Entries.{History, TakenJob, in_hand}
use Rattle.kom_record.specs.Legal.{IsLegal}
use Rattle.kom_laws.proofs.ActLaws.{in_filter}
use Rattle.kom_laws.proofs.Handlings.{found_in}
use Rattle.kom_laws.proofs.Members.{IsIn, here, there}

some_one : (w : ℕ) (h : TakenJob) (hs : List TakenJob) → IsIn h hs → (h.w == w) ≡ true → list_any (λ j. j.w == w) hs ≡ true
some_one w h [] m e = elim m [ ]
some_one w h' (h ∷ hs) here e = ap (λ b. b || list_any (λ j. j.w == w) hs) e
some_one w h (g ∷ hs) (there m) e = ap (λ b. (g.w == w) || b) (some_one w h hs m e) ∙ either_way (g.w == w)
  where
    either_way : (b : Bool) → (b || true) ≡ true
    either_way true = refl
    either_way false = refl

none_from : (o : Option TakenJob) → is_none o ≡ true → o ≡ None
none_from None e = refl
none_from (Some j) e = absurd cc

module _ (S : Declarations) (Z : Plan) where
  one_each : (P : History) (g h : TakenJob) → IsLegal S Z P → IsIn g (in_hand P) → IsIn h (in_hand P) → g.w ≡ h.w → g ≡ h
  unfolding model
  one_each [] g h l m n e = elim m [ ]
  one_each (Took w c item ∷ P) g' h' l here here e = refl
  one_each (Took w c item ∷ P) g' h l here (there n) e = absurd (cc (l.1.free, some_one w h (in_hand P) n (eq-eqb h.w w (sym e))))
  one_each (Took w c item ∷ P) g h' l (there m) here e = absurd (cc (l.1.free, some_one w g (in_hand P) m (eq-eqb g.w w e)))
  one_each (Took w c item ∷ P) g h l (there m) (there n) e = one_each P g h l.0 m n e
  one_each (Did w c took o to places ∷ P) g h l m n e = one_each P g h l.0 (in_filter (λ j. not (j.took == took)) (in_hand P) g m).0 (in_filter (λ j. not (j.took == took)) (in_hand P) h n).0 e
  one_each (Moved w t released ∷ P) g h l m n e = one_each P g h l.0 m n e

  gone_of : (P : History) (w : ℕ) (hand : TakenJob) → IsLegal S Z P → find (λ j. j.w == w) (in_hand P) ≡ Some hand
      → (found : Option TakenJob) → find (λ j. j.w == w) (filter (λ j. not (j.took == hand.took)) (in_hand P)) ≡ found → found ≡ None
  gone_of P w hand legal held None e = refl
  gone_of P w hand legal held (Some j) e =
      let was = found_in (λ j. j.w == w) (in_hand P) hand held in
      let now = found_in (λ j. j.w == w) (filter (λ j. not (j.took == hand.took)) (in_hand P)) j e in
      let left = in_filter (λ j. not (j.took == hand.took)) (in_hand P) j now.0 in
      let same : j ≡ hand = one_each P j hand legal left.0 was.0 (eqb-true j.w w now.1 ∙ sym (eqb-true hand.w w was.1)) in
      absurd (cc (left.1, eq-eqb j.took hand.took (ap (λ j. j.took) same)))

  -- who ended the job that it had in hand has none
  pub free_again : (P : History) (w : ℕ) (hand : TakenJob) (o : Outcome) → ∥ IsLegal S Z (did S P hand o ∷ P) ∥₁ → job_of P w ≡ Some hand → IsFree (did S P hand o ∷ P) w
  unfolding model job_of did
  free_again P w hand o legal held =
      none_from (find (λ j. j.w == w) (filter (λ j. not (j.took == hand.took)) (in_hand P)))
      (∥∥₁_elim legal (Bool-set (is_none (find (λ j. j.w == w) (filter (λ j. not (j.took == hand.took)) (in_hand P)))) true)
      (λ l. ap is_none (gone_of P w hand l.0 held (find (λ j. j.w == w) (filter (λ j. not (j.took == hand.took)) (in_hand P))) refl)))
