-- What is kept of a run.
use Rattle.std.proofs.Common.{◌≡◌, ◌<◌, ◌∙◌, ap, ℕ, List, [], ◌∷◌, ◌++◌, Option, Some, None, ◌&&◌, ◌||◌, if◌then◌else◌, Bool, true, false, refl, sym, subst}
use Rattle.std.specs.Prelude.{not, is_none, is_some}
use Rattle.std.specs.List.{AllByRecursion}
use Rattle.std.proofs.lemmas.List.{append-nil}
use Rattle.std.proofs.Math.Logic.{∥∥₁_elim, ∥∥₁_map}
use Rattle.std.proofs.Math.Bool.{Bool-set}
use Rattle.kom_base.specs.Lists.{first}
use Rattle.kom_lang.specs.Declarations.{Declarations}
use Rattle.kom_system.specs.declared.system.System.{System}
use Rattle.kom_system.specs.WellFormed.{IsDeclared}
use Rattle.kom_record.specs.declared.plan.Plan.{Plan}
use Rattle.kom_record.specs.declared.entry.Outcome.{Outcome}
use Rattle.kom_record.specs.declared.entry.Entry.TheVariants.{Did}
use Rattle.kom_record.specs.Entries.{History, in_hand}
use Rattle.kom_record.specs.Bodies.{nearest}
use Rattle.kom_record.specs.Controls.{raised}
use Rattle.kom_record.specs.Handed.{IsBefore}
use Rattle.kom_record.specs.Legal.{IsLegal}
use Rattle.kom_record.specs.Views.{worker_of}
use Rattle.kom_record.specs.Ready.{is_unhandled, has_unhandled, is_closed, is_idle, is_finished, has_more}
use Rattle.kom_laws.specs.Laws.{EachInOrder, NumbersRise, DeadChannelsRest, ReceiptsAreHandedOver, StatesAreHandedOver, HandlingsAlternate, OutcomesAreReactions, FaultsReachTheNearest, EscalationsReachTheNearest}
use Rattle.kom_laws.proofs.Handlings.{legal_before}
use Rattle.kom_exchange.specs.declared.close.Shut.{Shut}
use Rattle.kom_crew.specs.Crews.{IsDriven, IsEnded}
use Rattle.kompics.specs.Promises.{Promises}
use Rattle.kompics.specs.Runs.{Drive, simulated, by_workers, MayKeep, IsRecordOf, status_of}

-- ---- a fault of which nobody was told

or_right : (a b : Bool) → b ≡ true → (a || b) ≡ true
or_right true b e = refl
or_right false b e = e

or_left : (a b : Bool) → a ≡ true → (a || b) ≡ true
or_left true b e = refl
or_left false b e = absurd (cc)

module _ (S : Declarations) where
  stays_unhandled : (more P : History) → has_unhandled S P ≡ true → has_unhandled S (more ++ P) ≡ true
  unfolding has_unhandled
  stays_unhandled [] P e = e
  stays_unhandled (x ∷ more) P e = or_left (has_unhandled S (more ++ P)) (is_unhandled S (more ++ P) x) (stays_unhandled more P e)

  here_unhandled : (P : History) (w c took : ℕ) (o : Outcome) (to : Option ℕ) (places : List ℕ) (n : ℕ)
      → raised P (Did w c took o to places) ≡ Some n → nearest S P c ≡ None → has_unhandled S (Did w c took o to places ∷ P) ≡ true
  unfolding has_unhandled is_unhandled
  here_unhandled P w c took o to places n r e =
      or_right (has_unhandled S P) (is_some (raised P (Did w c took o to places)) && is_none (nearest S P c)) (rw (r, e) refl)

  unhandled_in : (R P : History) (w c took : ℕ) (o : Outcome) (to : Option ℕ) (places : List ℕ) (n : ℕ)
      → IsBefore (Did w c took o to places ∷ P) R → raised P (Did w c took o to places) ≡ Some n → nearest S P c ≡ None → has_unhandled S R ≡ true
  unhandled_in R P w c took o to places n b r e =
      subst (λ (Q : History). has_unhandled S Q ≡ true) (sym b.1) (stays_unhandled b.0 _ (here_unhandled P w c took o to places n r e))

-- the laws of legal records, of one record
pub promises : HandlingsAlternate → OutcomesAreReactions → EachInOrder → NumbersRise → DeadChannelsRest → FaultsReachTheNearest → EscalationsReachTheNearest → StatesAreHandedOver → ReceiptsAreHandedOver
    → (S : Declarations) (Z : Plan) (R : History) → IsDeclared S → IsLegal S Z R → Promises S R
promises alternate react in_order rise dead faults escalations states receipts S Z R d l = record {
  one_at_a_time = λ c. alternate S Z R c l;
  replay = λ P w c took o to places b. react S Z R P w c took o to places l b;
  in_order = λ x d g. in_order S Z R x d l g;
  numbers_rise = λ x d. rise S R x d;
  dead_channels_rest = λ P x d b k a. dead S Z R P x d l b k a;
  faults_reach = λ P w c took n to places b. faults S P w c took n to places;
  escalations_reach = λ P w c took body effects to places n a s b r e.
      escalations S Z P w c took body effects to places n a s (legal_before S Z b.0 _ (subst (IsLegal S Z) b.1 l)) r e;
  unhandled = λ P w c took o to places n b r e. unhandled_in S R P w c took o to places n b r e;
  states_go_over = states S Z R d l;
  receipts_go_over = receipts S Z R l;
}

legal_in : (drive : Drive) (S : Declarations) (Z : Plan) (R : History) → MayKeep drive S Z R → IsLegal S Z R
legal_in simulated S Z R k = k.legal
legal_in (by_workers n) S Z R k = k.legal

finished_in : (drive : Drive) (S : Declarations) (Z : Plan) (R : History) → MayKeep drive S Z R → is_finished S Z R ≡ true
finished_in simulated S Z R k = k.finished
finished_in (by_workers n) S Z R k = k.finished

pub legal_of : (drive : Drive) (S : Declarations) (Z : Plan) (R : History) → ∥ MayKeep drive S Z R ∥₁ → ∥ IsLegal S Z R ∥₁
legal_of drive S Z R h = ∥∥₁_map h (λ k. legal_in drive S Z R k)

pub record_of : ((S : Declarations) (Z : Plan) (R : History) → IsDeclared S → IsLegal S Z R → Promises S R)
    → (drive : Drive) (S : Declarations) (Z : Plan) (R : History) → IsDeclared S → ∥ MayKeep drive S Z R ∥₁ → IsRecordOf drive S Z R
record_of law drive S Z R d h = record { kept = h; promises = ∥∥₁_map h (λ k. law S Z R d (legal_in drive S Z R k)) }

-- where something is left to do, a finished record is closed
closed_if_left : (hand closed idle : Bool) → (hand && (closed || idle)) ≡ true → (closed && not idle) ≡ not idle
closed_if_left hand true idle e = refl
closed_if_left true false true e = refl
closed_if_left true false false e = absurd (cc)
closed_if_left false false idle e = absurd (cc)

is_closed_if_left : (S : Declarations) (Z : Plan) (R : History) → is_finished S Z R ≡ true → (is_closed S Z R && has_more S Z R) ≡ has_more S Z R
unfolding is_finished has_more
is_closed_if_left S Z R e = closed_if_left (is_none (first (in_hand R))) (is_closed S Z R) (is_idle S Z R) e

finished_of : (drive : Drive) (S : Declarations) (Z : Plan) (R : History) → ∥ MayKeep drive S Z R ∥₁ → is_finished S Z R ≡ true
finished_of drive S Z R h = ∥∥₁_elim h (Bool-set (is_finished S Z R) true) (λ k. finished_in drive S Z R k)

pub status_is : (drive : Drive) (S : Declarations) (Z : Plan) (R : History) (unhandled more : Bool) → ∥ MayKeep drive S Z R ∥₁ → unhandled ≡ has_unhandled S R → more ≡ has_more S Z R
    → (if unhandled then 3 else (if more then 4 else 0)) ≡ status_of S Z R
status_is drive S Z R unhandled more h u m =
    ap (λ (b : Bool). if b then 3 else (if more then 4 else 0)) u
    ∙ ap (λ (b : Bool). if has_unhandled S R then 3 else (if b then 4 else 0)) (m ∙ sym (is_closed_if_left S Z R (finished_of drive S Z R h)))

-- the record of a crew whose run came to its end
module _ {T : Type 0} (system : T → System) (plan : T → Plan) (history : T → History) (given : T) (n : ℕ) (empty : history given ≡ []) where
  all_by : (t : T) → IsDriven system plan history given n t → AllByRecursion (λ e. worker_of e < n) (history t)
  all_by t d = rw (d.added.1, empty, append-nil) d.added.2

  pub crew_keeps : (shut : Shut T) → IsEnded system plan history given n shut → ∥ MayKeep (by_workers n) (system given).declarations (plan given) (history shut.station) ∥₁
  crew_keeps shut e = ∥∥₁_map e.driven.legal (λ l. record { legal = l; finished = e.finished; workers = all_by shut.station e.driven })
