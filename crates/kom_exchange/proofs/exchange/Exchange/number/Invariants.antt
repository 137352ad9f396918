use Rattle.std.proofs.Common.{◌-◌, ◌≡◌, ◌≤◌, [], vec_capacity, ℕ, ◌+◌, length, Some, slice_get}
use Rattle.kom_exchange.specs.Later.{about_of}
use Rattle.kom_exchange.specs.declared.exchange.Seat.{Seat}
use Rattle.kom_exchange.specs.Seats.{given_to, IsFresh}
use Rattle.kom_exchange.specs.Rule.{first_view}
use Rattle.kom_exchange.proofs.exchange.Exchange.number.Given as goal

abbrev pub invariant-loop-i : goal.invariant-loop-i
invariant-loop-i g l =
    let h = g.T.StandsFor.history (given_to l.self) in
    let about = (about_of g.T.StandsFor.system g.T.StandsFor.plan) (given_to l.self) in record {
      from_one : 1 ≤ l.i;
      at_most : l.i ≤ l.seats;
      table : l.first.table_id ≡ l.self.table.shared.table_id;
      first : l.first.me ≡ (record (first_view h about) { next = Some l.i }, []);
      len : length l.all.items + 1 ≡ l.i;
      room : vec_capacity l.all ≡ vec_capacity l.fn.all;
      each : (k : ℕ) (s : Seat) → slice_get l.all.items k ≡ Some s → IsFresh l.self.table.shared.table_id h about l.seats (k + 1) s;
    }

abbrev pub decreases-loop-i : goal.decreases-loop-i
decreases-loop-i g l = l.seats - l.i
