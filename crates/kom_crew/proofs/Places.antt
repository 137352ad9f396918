-- Where a worker stands after a call, and after its lot has changed.
use Rattle.std.proofs.Common.{◌≡◌, ◌⊎◌, inl, inr, ℕ, ◌+◌, List, [], ◌∷◌, ◌++◌, length, length-append, Option, Some, None, sym, ap, ◌∙◌, subst, arith}
use Rattle.std.specs.Prelude.{MatchOption, is_some, min}
use mir.Val.{bool_byte}
use Rattle.kom_system.specs.declared.system.System.{System}
use Rattle.kom_record.specs.declared.plan.Plan.{Plan}
use Rattle.kom_record.specs.Entries.{History}
use Rattle.kom_record.specs.Answers.{IsFree, job_of}
use Rattle.kom_record.specs.Legal.{IsLegal}
use Rattle.kom_exchange.specs.Later.{IsLater}
use Rattle.kom_exchange.specs.Calls.{Called}
use Rattle.kom_exchange.specs.declared.exchange.Seat.{Seat}
use Rattle.kom_exchange.specs.Seats.{view, given_to, right_for, IsSameSeat}
use Rattle.kom_exchange.proofs.Places.{later_trans}
use Rattle.kom_ready.specs.Counts.{last_count}
use Rattle.kom_ready.specs.Lots.{IsLotOf, IsSameLot, given_of}
use Rattle.kom_ready.specs.declared.lots.Lot.{Lot}
use Rattle.kom_ready.proofs.Same.{still_of}
use Rattle.kom_crew.specs.declared.crew.Crew.{Crew}
use Rattle.kom_crew.specs.declared.step.Step.{Step}
use Rattle.kom_crew.specs.declared.step.Step.TheVariants.{Again, Over, Memory}
use Rattle.kom_crew.specs.declared.worker.Left.{Left}
use Rattle.kom_crew.specs.declared.worker.Worker.{Worker}
use Rattle.kom_crew.specs.Workers.{seen_by, size_of, HasLeft, IsAt, IsCounted, IsIdle, IsWorker, Stepped}

-- the lot gave nothing more
pub still_counted : (v w : Worker) → (w.given ≡ v.given) × (given_of w.lot ≡ given_of v.lot) → IsCounted v → IsCounted w
still_counted v w e c = e.0 ∙ (c ∙ ap (λ (xs : List ℕ). min (length xs) last_count) (sym e.1))

-- what the lot gave now is counted too
pub one_counted : (A : Type 0) (found : Option ℕ) (before after : ℕ) (old new : List ℕ) → after ≡ min (before + bool_byte (is_some found)) last_count → MatchOption found ((new ≡ old) × A) (λ c. new ≡ old ++ c ∷ []) → before ≡ min (length old) last_count → after ≡ min (length new) last_count
one_counted A None before after old new e g c = let l = ap length g.0 in omega (arith, e, l, c)
one_counted A (Some x) before after old new e g c = let l = ap length g in let n = length-append old (x ∷ []) in omega (arith, e, l, n, c)

module _ {T : Type 0} (system : T → System) (plan : T → Plan) (history : T → History) (crew : Crew T) where
  -- the seat is as before, the lot is the same, and what it gave is counted
  pub same_place : (v w : Worker) → w.seat ≡ v.seat → IsSameLot v.lot w.lot → (IsCounted v → IsCounted w) → IsAt system plan history crew v → IsAt system plan history crew w
  same_place v w e s counts a = record {
    table = ap (λ (x : Seat). x.badge.table_id) e ∙ a.table;
    about = ap (λ (x : Seat). (view x).own.about) e ∙ a.about;
    taken = ap (λ (x : Seat). (view x).taken) e ∙ a.taken;
    right = ap (λ (x : Seat). (view x).next) e ∙ (a.right ∙ ap (λ (x : Seat). right_for (size_of crew) x.number) (sym e));
    start = ap (λ (x : Seat). (view x).own.from) e ∙ a.start;
    later = subst (λ (x : Seat). IsLater (view x).own.seen (history (given_to crew.exchange))) (sym e) a.later;
    legal = subst (λ (x : Seat). ∥ IsLegal (system (given_to crew.exchange)).declarations (plan (given_to crew.exchange)) (view x).own.seen ∥₁) (sym e) a.legal;
    lot = still_of crew.set v.lot w.lot a.lot s;
    number = s.number ∙ (a.number ∙ ap (λ (x : Seat). x.number) (sym e));
    counted = counts a.counted;
  }

  pub same_free : (v w : Worker) → w.seat ≡ v.seat → IsFree (seen_by v) v.seat.number → IsFree (seen_by w) w.seat.number
  same_free v w e f = subst (λ (x : Seat). IsFree (view x).own.seen x.number) (sym e) f

  pub same_idle : (v w : Worker) → w.seat ≡ v.seat → w.left ≡ v.left → IsSameLot v.lot w.lot → (IsCounted v → IsCounted w) → IsIdle system plan history crew v → IsIdle system plan history crew w
  same_idle v w e l s counts i = (same_place v w e s counts i.0, l ∙ i.1, same_free v w e i.2)

  -- after a call of the exchange the seat is still the worker's
  pub called_at : (v w : Worker) (n : ℕ) (how : History → History → Type 0) → w.lot ≡ v.lot → w.given ≡ v.given → IsSameSeat v.seat w.seat → Called n how (view v.seat) (view w.seat)
      → ∥ IsLegal (system (given_to crew.exchange)).declarations (plan (given_to crew.exchange)) (seen_by w) ∥₁ → IsAt system plan history crew v → IsAt system plan history crew w
  called_at v w n how e given same called legal a = record {
    table = same.0 ∙ a.table;
    about = called.about ∙ a.about;
    taken = called.taken ∙ a.taken;
    right = called.right ∙ (a.right ∙ ap (right_for (size_of crew)) (sym same.1));
    start = called.start ∙ a.start;
    later = later_trans (seen_by w) (seen_by v) (history (given_to crew.exchange)) called.later a.later;
    legal = legal;
    lot = subst (IsLotOf crew.set) (sym e) a.lot;
    number = ap (λ (x : Lot). x.number) e ∙ (a.number ∙ sym same.1);
    counted = still_counted v w (given, ap given_of e) a.counted;
  }

  -- after a rest its hand is still empty
  pub rested : (v w : Worker) (n : ℕ) (how : History → History → Type 0) → w.lot ≡ v.lot → w.given ≡ v.given → w.left ≡ v.left → IsSameSeat v.seat w.seat → Called n how (view v.seat) (view w.seat)
      → ∥ IsLegal (system (given_to crew.exchange)).declarations (plan (given_to crew.exchange)) (seen_by w) ∥₁
      → job_of (seen_by w) v.seat.number ≡ job_of (seen_by v) v.seat.number → IsIdle system plan history crew v → IsIdle system plan history crew w
  rested v w n how lot given l same called legal hand i = (
    called_at v w n how lot given same called legal i.0,
    l ∙ i.1,
    subst (λ (k : ℕ). IsFree (seen_by w) k) (sym same.1) (hand ∙ i.2),
  )

  -- ---- an idle worker, one that is done, and one that works

  pub idle_works : (w : Worker) → IsIdle system plan history crew w → IsWorker system plan history crew w
  idle_works w i = (i.0, subst (λ (l : Left). HasLeft (system (given_to crew.exchange)) (seen_by w) w.seat.number l) (sym i.1) i.2)

  pub stepped_works : (w : Worker) (step : Step) → Stepped system plan history crew w step → IsWorker system plan history crew w
  stepped_works w Again s = idle_works w s
  stepped_works w Over s = idle_works w s.0
  stepped_works w Memory s = s

  pub stepped_idle : (w : Worker) (step : Step) → (step ≡ Again) ⊎ (step ≡ Over) → Stepped system plan history crew w step → IsIdle system plan history crew w
  stepped_idle w step (inl e) s = subst (λ (r : Step). Stepped system plan history crew w r) e s
  stepped_idle w step (inr e) s = (subst (λ (r : Step). Stepped system plan history crew w r) e s).0
