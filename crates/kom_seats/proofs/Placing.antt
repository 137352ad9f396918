-- Where a worker stands after a call of the exchange.
use Rattle.std.proofs.Common.{◌≡◌, ℕ, Option, refl, sym, subst, ◌∙◌}
use Rattle.kom_system.specs.declared.system.System.{System}
use Rattle.kom_record.specs.declared.plan.Plan.{Plan}
use Rattle.kom_record.specs.declared.job.Job.{Job}
use Rattle.kom_record.specs.Entries.{History}
use Rattle.kom_record.specs.Answers.{job_of}
use Rattle.kom_record.specs.Legal.{IsLegal}
use Rattle.kom_exchange.specs.Calls.{Called}
use Rattle.kom_exchange.specs.declared.exchange.Exchange.{Exchange}
use Rattle.kom_exchange.specs.declared.exchange.Seat.{Seat}
use Rattle.kom_exchange.specs.declared.view.View.{View}
use Rattle.kom_exchange.specs.Seats.{view, given_to, GoesOn, IsSameSeat}
use Rattle.kom_exchange.proofs.Places.{later_self}
use Rattle.kom_drives.specs.Hands.{HoldsJob}
use Rattle.kom_seats.specs.declared.calls.Placed.{Placed}
use Rattle.kom_seats.specs.Placing.{seen_by, IsPlaced}
use Rattle.kom_seats.proofs.Kept.{holds_on}

-- what is told of a call follows from what was answered
pub told_so : (n : ℕ) (how also : History → History → Type 0) (v w : View) → Called n how v w → ((R Q : History) → how R Q → also R Q) → Called n also v w
told_so n how also v w c f = record {
  number = c.number;
  start = c.start;
  about = c.about;
  right = c.right;
  taken = c.taken;
  turns = c.turns;
  later = c.later;
  fair = c.fair;
  h = c.h;
  seen = c.seen;
  answer = f c.h w.own.seen c.answer;
  mine = c.mine;
}

pub goes_on : (s t : Seat) (n : ℕ) (how : History → History → Type 0) → IsSameSeat s t → Called n how (view s) (view t) → GoesOn s t
goes_on s t n how same called = (same, called.about, called.taken, called.right, called.later)

pub stays_on : (s : Seat) → GoesOn s s
stays_on s = ((refl, refl), refl, refl, refl, later_self (view s).own.seen)

module _ {T A : Type 0} (system : T → System) (plan : T → Plan) (exchange : Exchange T A) where
  -- the seat went on, and the job is what it has in hand now
  pub placed_on : (p q : Placed) → GoesOn p.seat q.seat → ∥ IsLegal (system (given_to exchange)).declarations (plan (given_to exchange)) (seen_by q) ∥₁
      → HoldsJob (system (given_to exchange)) (seen_by q) q.seat.number q.job → IsPlaced system plan exchange p → IsPlaced system plan exchange q
  placed_on p q on legal hand is = record { seat = (on.0.0 ∙ is.seat.0, on.1 ∙ is.seat.1); legal = legal; hand = hand }

  -- after a rest the worker still has its job
  pub rested : (p q : Placed) (n : ℕ) (how : History → History → Type 0) → q.job ≡ p.job → IsSameSeat p.seat q.seat → Called n how (view p.seat) (view q.seat)
      → ∥ IsLegal (system (given_to exchange)).declarations (plan (given_to exchange)) (seen_by q) ∥₁ → job_of (seen_by q) p.seat.number ≡ job_of (seen_by p) p.seat.number
      → IsPlaced system plan exchange p → IsPlaced system plan exchange q
  rested p q n how job same called legal hand is =
      let S = system (given_to exchange) in
      let still = holds_on S (plan (given_to exchange)) (seen_by p) (seen_by q) p.seat.number p.job legal called.later hand is.hand in
      placed_on p q (goes_on p.seat q.seat n how same called) legal
      (subst (λ (k : ℕ). HoldsJob S (seen_by q) k q.job) (sym same.1) (subst (λ (j : Option Job). HoldsJob S (seen_by q) p.seat.number j) (sym job) still)) is
