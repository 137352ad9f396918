-- How a crew begins and ends.
use Rattle.std.proofs.Common.{◌≡◌, ◌⊎◌, ⊎_elim, inl, inr, ℕ, ◌<◌, ◌≤◌, Bool, true, false, not, ◌&&◌, ◌||◌, refl, sym, ap, ap₂, ◌∙◌, subst, List, [], ◌∷◌, ◌++◌, length, length-append, arith}
use Rattle.std.specs.Prelude.{Some, is_none, filter, min, slice_get}
use Rattle.kom_base.specs.Lists.{first}
use Rattle.kom_lang.specs.Declarations.{Declarations}
use Rattle.kom_system.specs.declared.system.System.{System}
use Rattle.kom_record.specs.declared.plan.Plan.{Plan}
use Rattle.kom_record.specs.declared.answers.Rest.{Rest}
use Rattle.kom_record.specs.declared.answers.Rest.TheVariants as resting
use Rattle.kom_record.specs.Entries.{History, in_hand}
use Rattle.kom_record.specs.Views.{positions, worker_of}
use Rattle.kom_record.specs.Legal.{IsLegal}
use Rattle.kom_record.specs.Ready.{runnable, ready, ready_list, instance_numbers, is_closed, is_idle, is_finished}
use Rattle.kom_record.specs.Time.{pending}
use Rattle.kom_record.specs.Answers.{IsFree, job_of, AnswersRest}
use Rattle.kom_exchange.specs.declared.close.Shut.{Shut}
use Rattle.kom_exchange.specs.declared.exchange.Seat.{Seat}
use Rattle.kom_exchange.specs.declared.view.View.{View}
use Rattle.kom_exchange.specs.Later.{IsLater, about_of}
use Rattle.kom_exchange.specs.Seats.{view, given_to, right_for, AreAll, AreFresh}
use Rattle.kom_exchange.proofs.Places.{later_length}
use Rattle.kom_ready.specs.declared.lots.Lot.{Lot}
use Rattle.kom_ready.specs.Counts.{last_count}
use Rattle.kom_ready.specs.Lots.{AreLotsOf, IsLotOf, given_of, AreFresh as AreFreshLots}
use Rattle.kom_ready.proofs.Guested.{long_map, below_there}
use Rattle.kom_crew.specs.declared.crew.Crew.{Crew}
use Rattle.kom_crew.specs.declared.worker.Left.TheVariants.{Nothing}
use Rattle.kom_crew.specs.declared.worker.Worker.{Worker}
use Rattle.kom_crew.specs.Workers.{seen_by, size_of, EachOf, IsCounted, IsDone, IsIdle, IsOver, IsWorker}
use Rattle.kom_crew.specs.Seated.{AreSeated, seats_of, lots_of}
use Rattle.kom_crew.specs.Crews.{IsDriven, IsEnded}
use Rattle.kom_crew.proofs.Crowds.{there_at, index_there, map_there, there_of_map}
use Rattle.kom_crew.proofs.Records.{by_workers, free_at_first, lt_or_le, no_longer, none_in_hand, saw_newest}

-- ---- when a record is over

or_right : (a b : Bool) → b ≡ true → (a || b) ≡ true
or_right true b e = refl
or_right false b e = e

and_true : (a : Bool) → (a && true) ≡ a
and_true true = refl
and_true false = refl

same_filter : {X : Type 0} (p q : X → Bool) (xs : List X) → ((x : X) → p x ≡ q x) → filter p xs ≡ filter q xs
same_filter p q [] h = refl
same_filter p q xs h = λ k. filter (λ x. h x k) xs

module _ (S : Declarations) (Z : Plan) where
  closed_over : (P : History) → is_closed S Z P ≡ true → IsOver S Z P
  closed_over P e = ap (λ b. b || is_idle S Z P) e

  nothing_left : (P : History) → is_closed S Z P ≡ false → ready_list S Z P ≡ [] → pending S Z P ≡ [] → IsOver S Z P
  unfolding ready ready_list is_idle
  nothing_left P unclosed none waits =
      let idle : filter (runnable S P) (instance_numbers S P) ≡ [] = same_filter (runnable S P) (ready S Z P) (instance_numbers S P) (λ c. sym (ap (λ b. runnable S P c && not b) unclosed ∙ and_true (runnable S P c))) ∙ none in
      or_right (is_closed S Z P) (is_idle S Z P)
      (ap₂ (λ cs ps. is_none (first cs) && is_none (first ps)) idle waits)

  pub closed_at : (R Q : History) → is_closed S Z R ≡ true → Q ≡ R → IsOver S Z Q
  closed_at R Q e same = subst (IsOver S Z) (sym same) (closed_over R e)

  pub rest_over : (w : ℕ) (answer : Rest) (R Q : History) → (answer ≡ resting.End) ⊎ (answer ≡ resting.Closed) → AnswersRest S Z R w answer Q → IsOver S Z Q
  rest_over w answer R Q (inl e) h =
      let a = subst (λ (r : Rest). AnswersRest S Z R w r Q) e h in
      subst (IsOver S Z) (sym a.4) (nothing_left R a.0 a.1 a.3)
  rest_over w answer R Q (inr e) h =
      let a = subst (λ (r : Rest). AnswersRest S Z R w r Q) e h in
      closed_at R Q a.0 a.1

  over_and_idle : (P : History) → in_hand P ≡ [] → IsOver S Z P → is_finished S Z P ≡ true
  unfolding is_finished
  over_and_idle P none over = ap₂ (λ hs b. is_none (first hs) && b) none over

-- ---- the workers of a crew

nothing_counted : (w : Worker) → w.given ≡ 0 → given_of w.lot ≡ [] → IsCounted w
nothing_counted w none empty = none ∙ ap (λ (xs : List ℕ). min (length xs) last_count) (sym empty)

module _ {T : Type 0} (system : T → System) (plan : T → Plan) (history : T → History) (crew : Crew T) where
  -- they begin idle
  pub seated : (legal : ∥ IsLegal (system (given_to crew.exchange)).declarations (plan (given_to crew.exchange)) (history (given_to crew.exchange)) ∥₁) (seats : List Seat) (lots : List Lot) (ws : List Worker)
      → in_hand (history (given_to crew.exchange)) ≡ []
      → AreFresh crew.exchange.table.shared.table_id (history (given_to crew.exchange)) (about_of system plan (given_to crew.exchange)) (size_of crew) seats
      → AreLotsOf crew.set lots → AreFreshLots lots → AreSeated seats lots ws → EachOf (size_of crew) (IsIdle system plan history crew) ws
  seated legal seats lots ws none fresh of unused are = (
    sym (long_map (λ (w : Worker). w.seat) ws) ∙ (ap length are.seats_are ∙ fresh.0),
    λ k w e.
        let f = fresh.1 k w.seat (ap (λ l. slice_get l k) (sym are.seats_are) ∙ map_there (λ (w : Worker). w.seat) ws k w e) in
        let at = ap (λ l. slice_get l k) (sym are.lots_are) ∙ map_there (λ (w : Worker). w.lot) ws k w e in (
          f.1,
          (
            record {
              table = f.0;
              about = ap (λ (v : View). v.own.about) f.2;
              taken = ap (λ (v : View). v.taken) f.2;
              right = ap (λ (v : View). v.next) f.2 ∙ ap (right_for (size_of crew)) (sym f.1);
              start = ap (λ (v : View). v.own.from) f.2;
              later = ([], ap (λ (v : View). v.own.seen) f.2);
              legal = subst (λ (P : History). ∥ IsLegal (system (given_to crew.exchange)).declarations (plan (given_to crew.exchange)) P ∥₁) (sym (ap (λ (v : View). v.own.seen) f.2)) legal;
              lot = of.each k w.lot at;
              number = of.numbers k w.lot at ∙ sym f.1;
              counted = nothing_counted w (subst (λ (x : Worker). x.given ≡ 0) (index_there ws k w w e) (are.given k w (below_there ws k w e))) (unused k w.lot at).given;
            },
            subst (λ (x : Worker). x.left ≡ Nothing) (index_there ws k w w e) (are.idle k w (below_there ws k w e)),
            subst (λ (P : History). IsFree P w.seat.number) (sym (ap (λ (v : View). v.own.seen) f.2)) (free_at_first (history (given_to crew.exchange)) w.seat.number none),
          ),
        ),
  )

  -- their seats are all the seats, and their lots all the lots
  pub all_seats : (ws : List Worker) (seats : List Seat) → 0 < size_of crew → EachOf (size_of crew) (IsWorker system plan history crew) ws → seats ≡ seats_of ws → AreAll crew.exchange.table.shared.table_id seats
  all_seats ws seats some each is =
      let count : length seats ≡ size_of crew = ap length is ∙ (long_map (λ (w : Worker). w.seat) ws ∙ each.0) in (
        omega (arith, count, some),
        λ k s e.
            let h = there_of_map (λ (w : Worker). w.seat) ws k s (ap (λ l. slice_get l k) (sym is) ∙ e) in
            let w = each.1 k h.0 h.1 in
            let at = w.1.0 in
            subst (λ (x : Seat). (x.badge.table_id ≡ crew.exchange.table.shared.table_id) × (x.number ≡ k) × ((view x).taken ≡ []) × ((view x).next ≡ right_for (length seats) k)) h.2
            (at.table, w.0, at.taken, at.right ∙ ap₂ right_for (sym count) w.0),
      )

  pub all_lots : (ws : List Worker) (lots : List Lot) → EachOf (size_of crew) (IsWorker system plan history crew) ws → lots ≡ lots_of ws → AreLotsOf crew.set lots
  all_lots ws lots each is =
      let of : (k : ℕ) (l : Lot) → slice_get lots k ≡ Some l → (l.number ≡ k) × IsLotOf crew.set l = λ k l e.
      let h = there_of_map (λ (w : Worker). w.lot) ws k l (ap (λ x. slice_get x k) (sym is) ∙ e) in
      let w = each.1 k h.0 h.1 in
      subst (λ (x : Lot). (x.number ≡ k) × IsLotOf crew.set x) h.2 (w.1.0.number ∙ w.0, w.1.0.lot)
      in record {
        count = ap length is ∙ (long_map (λ (w : Worker). w.lot) ws ∙ each.0);
        numbers = λ k l e. (of k l e).0;
        each = λ k l e. (of k l e).1;
      }

  -- ---- the end

  module _ (ws : List Worker) (seats : List Seat) (shut : Shut T) (each : EachOf (size_of crew) (IsWorker system plan history crew) ws) (is : seats ≡ seats_of ws) (same : (system shut.station ≡ system (given_to crew.exchange)) × (plan shut.station ≡ plan (given_to crew.exchange))) (legal : ∥ IsLegal (system (given_to crew.exchange)).declarations (plan (given_to crew.exchange)) (history shut.station) ∥₁) (start : (shut.from ≡ length (history (given_to crew.exchange))) × IsLater (history shut.station) (history (given_to crew.exchange))) (others : (w : ℕ) → length seats ≤ w → positions w shut.from (history shut.station) ≡ []) where
    count : length seats ≡ size_of crew
    count = ap length is ∙ (long_map (λ (w : Worker). w.seat) ws ∙ each.0)

    none_else : (w : ℕ) → size_of crew ≤ w → positions w (length (history (given_to crew.exchange))) (history shut.station) ≡ []
    none_else w le = subst (λ (n : ℕ). positions w n (history shut.station) ≡ []) start.0 (others w (omega (arith, count, le)))

    pub driven : IsDriven system plan history (given_to crew.exchange) (size_of crew) shut.station
    driven = record {
      same_system = same.0;
      same_plan = same.1;
      legal = legal;
      added = (
        start.1.0,
        start.1.1,
        by_workers (size_of crew) (history (given_to crew.exchange)) start.1.0 (λ w le. ap (positions w (length (history (given_to crew.exchange)))) (sym start.1.1) ∙ none_else w le),
      );
    }

    module _ (some : 0 < size_of crew) (seen : (k : ℕ) (s : Seat) → slice_get seats k ≡ Some s → IsLater (history shut.station) (view s).own.seen) (mine : (k : ℕ) (s : Seat) → slice_get seats k ≡ Some s → (view s).own.mine ≡ positions k shut.from (history shut.station)) where
      seat_at : (k : ℕ) (w : Worker) → slice_get ws k ≡ Some w → slice_get seats k ≡ Some w.seat
      seat_at k w e = ap (λ l. slice_get l k) is ∙ map_there (λ (w : Worker). w.seat) ws k w e

      worker_at : (k : ℕ) → k < size_of crew → (w : Worker) × (slice_get ws k ≡ Some w)
      worker_at k lt = let n = each.0 in there_at ws k (omega (arith, n, lt))

      -- the worker that made the newest entry has seen the whole record
      saw_all : (newer : History) → history shut.station ≡ newer ++ history (given_to crew.exchange) → (k : ℕ) × (w : Worker) × (slice_get ws k ≡ Some w) × (seen_by w ≡ history shut.station)
      saw_all [] e =
          let w = worker_at 0 some in
          let at = (each.1 0 w.0 w.1).1.0 in
          let after = seen 0 w.0.seat (seat_at 0 w.0 w.1) in (
            0,
            w.0,
            w.1,
            no_longer (history shut.station) (seen_by w.0) after.0 after.1 (omega (arith, ap length e, later_length (seen_by w.0) (history (given_to crew.exchange)) at.later)),
          )
      saw_all (e ∷ newer) is_newer =
          let P = newer ++ history (given_to crew.exchange) in
          let k = worker_of e in
          let below = by_workers (size_of crew) (history (given_to crew.exchange)) (e ∷ newer) (λ w le. ap (positions w (length (history (given_to crew.exchange)))) (sym is_newer) ∙ none_else w le) in
          let w = worker_at k below.0 in
          let at = each.1 k w.0 w.1 in
          let s = w.0.seat in
          let after = seen k s (seat_at k w.0 w.1) in
          let numbered : (view s).own.number ≡ k = s.numbered ∙ at.0 in
          let own : positions k (length (history (given_to crew.exchange))) (view s).own.seen ≡ positions k (length (history (given_to crew.exchange))) (e ∷ P) =
          sym (s.fair ∙ ap₂ (λ (m n : ℕ). positions m n (view s).own.seen) numbered at.1.0.start)
          ∙ (mine k s (seat_at k w.0 w.1) ∙ (ap (λ (n : ℕ). positions k n (history shut.station)) start.0 ∙ ap (positions k (length (history (given_to crew.exchange)))) is_newer)) in (
            k,
            w.0,
            w.1,
            saw_newest e P (view s).own.seen after.0 (length (history (given_to crew.exchange))) (omega (arith, length-append newer (history (given_to crew.exchange)))) (sym is_newer ∙ after.1) own ∙ sym is_newer,
          )

      pub ended : ((k : ℕ) (s : Seat) → slice_get seats k ≡ Some s → job_of (history shut.station) k ≡ job_of (view s).own.seen k)
          → ((w : ℕ) → length seats ≤ w → IsFree (history shut.station) w)
          → EachOf (size_of crew) (IsDone system plan history crew) ws → IsEnded system plan history (given_to crew.exchange) (size_of crew) shut
      ended hands free done =
          let all = saw_all start.1.0 start.1.1 in
          let over = subst (IsOver (system (given_to crew.exchange)).declarations (plan (given_to crew.exchange))) all.3 (done.1 all.0 all.1 all.2).1.1 in
          record {
            driven = driven;
            finished = over_and_idle (system (given_to crew.exchange)).declarations (plan (given_to crew.exchange)) (history shut.station) (none_in_hand (history shut.station) no_job) over;
            start = start.0;
          }
        where
          held : (k : ℕ) → k < size_of crew → IsFree (history shut.station) k
          held k lt =
              let w = worker_at k lt in
              let d = done.1 k w.0 w.1 in
              hands k w.0.seat (seat_at k w.0 w.1) ∙ subst (λ (n : ℕ). IsFree (seen_by w.0) n) d.0 d.1.0.2

          no_job : (w : ℕ) → IsFree (history shut.station) w
          no_job w = ⊎_elim (λ (lt : w < size_of crew). held w lt) (λ (le : size_of crew ≤ w). free w (omega (arith, count, le))) (lt_or_le w (size_of crew))
