-- The two workers of an exchange: at its beginning, after their calls and at its close.
use Rattle.std.proofs.Common.{◌≡◌, ◌≤◌, ℕ, zero as nought, suc, List, [], ◌∷◌, length, Option, Some, None, refl, sym, ap, subst, ◌∙◌, arith}
use Rattle.std.specs.Prelude.{slice_get}
use Rattle.atomic_table.specs.Seated.{TableId}
use Rattle.kom_system.specs.declared.system.System.{System}
use Rattle.kom_record.specs.declared.plan.Plan.{Plan}
use Rattle.kom_record.specs.declared.job.Job.{Job}
use Rattle.kom_record.specs.Entries.{History, in_hand}
use Rattle.kom_record.specs.Legal.{IsLegal}
use Rattle.kom_record.specs.Answers.{IsFree, job_of}
use Rattle.kom_core.specs.declared.machine.Core.{Core}
use Rattle.kom_core.specs.Cores.{system_in, plan_in, history_in}
use Rattle.kom_core.specs.Standing.{is_legal}
use Rattle.kom_exchange.specs.Later.{about_of}
use Rattle.kom_exchange.specs.declared.view.View.{View}
use Rattle.kom_exchange.specs.declared.exchange.Exchange.{Exchange}
use Rattle.kom_exchange.specs.declared.exchange.Seat.{Seat}
use Rattle.kom_exchange.specs.Seats.{given_to, GoesOn, IsFresh, AreFresh, IsOneOf, AreAll}
use Rattle.kom_drives.specs.Hands.{HoldsJob}
use Rattle.kom_seats.specs.declared.calls.Placed.{Placed}
use Rattle.kom_seats.specs.Placing.{seen_by, IsPlaced}
use Rattle.kom_seats.specs.Duos.{IsPlacedAt, IsDuo}

free_first : (w : ℕ) → IsFree [] w
unfolding job_of in_hand
free_first w = refl

-- a seat is the same one of all after any calls
still_one : (id : TableId) (n k : ℕ) (s t : Seat) → GoesOn s t → IsOneOf id n k s → IsOneOf id n k t
still_one id n k s t on o = (on.0.0 ∙ o.0, on.0.1 ∙ o.1, on.2 ∙ o.2, on.3 ∙ o.3)

-- these two seats are all
each_of : (id : TableId) (s t : Seat) → IsOneOf id 2 0 s → IsOneOf id 2 1 t → (k : ℕ) (u : Seat) → slice_get (s ∷ t ∷ []) k ≡ Some u → IsOneOf id 2 k u
each_of id s t a b nought u e = let f : Some s ≡ Some u = e in let same : s ≡ u = cc in subst (IsOneOf id 2 0) same a
each_of id s t a b (suc nought) u e = let f : Some t ≡ Some u = e in let same : t ≡ u = cc in subst (IsOneOf id 2 1) same b
each_of id s t a b (suc (suc k)) u e = let f : None ≡ Some u = e in absurd cc

pub both : (id : TableId) (s t : Seat) (items : List Seat) → items ≡ s ∷ t ∷ [] → IsOneOf id 2 0 s → IsOneOf id 2 1 t → AreAll id items
both id s t items e a b = subst (AreAll id) (sym e) (omega arith, each_of id s t a b)

module _ {A : Type 0} (exchange : Exchange Core A) where
  abbrev given : Core
  given = given_to exchange

  -- a worker at a seat that made no call
  at_first : (k : ℕ) (p : Placed) → history_in given ≡ [] → IsFresh exchange.table.shared.table_id (history_in given) (about_of system_in plan_in given) 2 k p.seat → p.job ≡ None → IsPlacedAt exchange k p
  at_first k p none f j =
      let seen : seen_by p ≡ history_in given = ap (λ (v : View). v.own.seen) f.2 in
      let free : IsFree (seen_by p) p.seat.number = subst (λ (P : History). IsFree P p.seat.number) (sym (seen ∙ none)) (free_first p.seat.number) in (
        record {
          seat = (f.0, ap (λ (v : View). v.own.about) f.2);
          legal = subst (λ (P : History). ∥ IsLegal (system_in given).declarations (plan_in given) P ∥₁) (sym seen) (is_legal given.run given.stands);
          hand = subst (λ (held : Option Job). HoldsJob (system_in given) (seen_by p) p.seat.number held) (sym j) free;
        },
        (f.0, f.1, ap (λ (v : View). v.taken) f.2, ap (λ (v : View). v.next) f.2),
      )

  pub begun : (system : System) (plan : Plan) (zero one : Placed) (all left : List Seat) (room : ℕ) → system_in given ≡ system → plan_in given ≡ plan → history_in given ≡ []
      → AreFresh exchange.table.shared.table_id (history_in given) (about_of system_in plan_in given) 2 all → all ≡ zero.seat ∷ one.seat ∷ left → zero.job ≡ None → one.job ≡ None → 2 ≤ room
      → IsDuo exchange system plan zero one left room
  begun system plan zero one all left room s z none fresh e first_free second_free wide = record {
    system_is = s;
    plan_is = z;
    first = at_first 0 zero none (fresh.1 0 zero.seat (ap (λ (l : List Seat). slice_get l 0) e)) first_free;
    second = at_first 1 one none (fresh.1 1 one.seat (ap (λ (l : List Seat). slice_get l 1) e)) second_free;
    empty = no_more left (sym (ap length e) ∙ fresh.0);
    wide = wide;
  }
    where
      no_more : (l : List Seat) → length (zero.seat ∷ one.seat ∷ l) ≡ 2 → l ≡ []
      no_more [] q = refl
      no_more (x ∷ xs) q = absurd (omega (arith, q))

  module _ (system : System) (plan : Plan) (left : List Seat) (room : ℕ) where
    -- a call of worker 0, and one of worker 1
    pub zero_on : (p q one : Placed) → GoesOn p.seat q.seat → IsPlaced system_in plan_in exchange q → IsDuo exchange system plan p one left room → IsDuo exchange system plan q one left room
    zero_on p q one on is d = record {
      system_is = d.system_is;
      plan_is = d.plan_is;
      first = (is, still_one exchange.table.shared.table_id 2 0 p.seat q.seat on d.first.1);
      second = d.second;
      empty = d.empty;
      wide = d.wide;
    }

    pub one_on : (zero p q : Placed) → GoesOn p.seat q.seat → IsPlaced system_in plan_in exchange q → IsDuo exchange system plan zero p left room → IsDuo exchange system plan zero q left room
    one_on zero p q on is d = record {
      system_is = d.system_is;
      plan_is = d.plan_is;
      first = d.first;
      second = (is, still_one exchange.table.shared.table_id 2 1 p.seat q.seat on d.second.1);
      empty = d.empty;
      wide = d.wide;
    }
