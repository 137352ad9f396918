-- What holds of a seat over calls, for those who call.
use Rattle.std.proofs.Common.{ℕ, ap, ◌∙◌}
use Rattle.atomic_table.specs.Seated.{TableId}
use Rattle.kom_record.specs.Entries.{History}
use Rattle.kom_exchange.specs.Later.{Abouts}
use Rattle.kom_exchange.proofs.Places.{later_trans}
use Rattle.kom_exchange.specs.declared.view.View.{View}
use Rattle.kom_exchange.specs.declared.exchange.Seat.{Seat}
use Rattle.kom_exchange.specs.Calls.{Called}
use Rattle.kom_exchange.specs.Seats.{view, IsSameSeat, GoesOn, IsFresh, IsOneOf}

pub goes : (s t : Seat) (n : ℕ) (how : History → History → Type 0) → IsSameSeat s t → Called n how (view s) (view t) → GoesOn s t
goes s t n how same c = (same, c.about, c.taken, c.right, c.later)

pub goes_trans : (s t u : Seat) → GoesOn s t → GoesOn t u → GoesOn s u
goes_trans s t u p q = ((q.0.0 ∙ p.0.0, q.0.1 ∙ p.0.1), q.1 ∙ p.1, q.2 ∙ p.2, q.3 ∙ p.3, later_trans (view u).own.seen (view t).own.seen (view s).own.seen q.4 p.4)

pub fresh_goes : (id : TableId) (h : History) (about : Abouts) (n k : ℕ) (s t : Seat) → IsFresh id h about n k s → GoesOn s t → IsOneOf id n k t
fresh_goes id h about n k s t f g = (g.0.0 ∙ f.0, g.0.1 ∙ f.1, g.2 ∙ ap (λ (v : View). v.taken) f.2, g.3 ∙ ap (λ (v : View). v.next) f.2)
