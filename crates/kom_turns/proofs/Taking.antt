-- A run in which an item was taken stands for the record with the Took.
use Rattle.std.proofs.Common.{◌≡◌, ℕ, Bool, true, false, if◌then◌else◌, not, ◌&&◌, ◌||◌, ◌==◌, refl, sym, ap, ◌∙◌, subst, List, [], ◌∷◌, length, map, Option, Some, None, arith}
use Rattle.std.specs.Prelude.{is_some}
use Rattle.std.specs.List.{find, list_any}
use Rattle.std.specs.Option.{option_map, option_map_or, option_and_then}
use Rattle.std.specs.Ordering.{nat_cmp, is_eq}
use Rattle.std.specs.Cmp.{unsigned_tied}
use Rattle.std.proofs.lemmas.Bool.{eqb-true, eq-eqb}
use Rattle.kom_base.specs.declared.numbers.Dir.{Dir}
use Rattle.kom_base.specs.declared.numbers.Dir.TheVariants.{Plus, Minus}
use Rattle.kom_base.specs.Lists.{first}
use Rattle.kom_base.specs.Numbers.{same_dir}
use Rattle.kom_lang.specs.Declarations.{Declarations}
use Rattle.kom_record.specs.declared.plan.Plan.{Plan}
use Rattle.kom_record.specs.declared.item.Item.{Item}
use Rattle.kom_record.specs.declared.item.Item.TheVariants.{Control, Arrival}
use Rattle.kom_record.specs.declared.entry.Entry.TheVariants.{Took}
use Rattle.kom_record.specs.Answers.{IsFree, job_of}
use Rattle.kom_record.specs.Entries.{History, acts, in_hand}
use Rattle.kom_record.specs.Instances.{alive}
use Rattle.kom_record.specs.Channels.{held, is_living}
use Rattle.kom_record.specs.Controls.{control_waiting}
use Rattle.kom_record.specs.Queues.{waiting}
use Rattle.kom_record.specs.Legal.{IsLegal, MayTake}
use Rattle.kom_record.specs.Ready.{arriving, candidate, candidates, has_unhandled, is_active, is_busy, is_closed, is_unhandled, next, ready, runnable}
use Rattle.kom_laws.proofs.Unaffected.{IsCandidate, and_make}
use Rattle.kom_laws.proofs.Woken.{arrival_ends}
use Rattle.kom_refine.specs.Firsts.{front_for}
use Rattle.kom_refine.specs.Laws.{TookFollows}
use Rattle.kom_refine.specs.Points.{StandsAt, start_of}
use Rattle.kom_refine.specs.States.{Queue, State}
use Rattle.kom_refine.specs.Steps.{IsTaken, comes_by}
use Rattle.kom_refine.proofs.Firsts.{front_is}
use Rattle.kom_index.specs.Entries.{value_of}
use Rattle.kom_index.specs.Stock.{entries}
use Rattle.kom_comps.specs.Members.{has}
use Rattle.kom_state.specs.Parts.{IsOf, state_of}
use Rattle.kom_times.specs.Following.{Follows}
use Rattle.kom_times.specs.Laws.{StaysAtTook}
use Rattle.kom_wakes.specs.Laws.{BusyGoesOn, CountsGoOn, QueuedIsCounted, TakesLeave, UntouchedStay}
use Rattle.kom_wakes.specs.Work.{IsNotReceiver}
use Rattle.kom_turns.specs.declared.run.Run.{Run}
use Rattle.kom_turns.specs.Runs.{AreCounted, IsButForRoom, IsNoted, Stands, held_of, history_of, system_of}
use Rattle.kom_turns.specs.Items.{WaitsFirst}
use Rattle.kom_turns.proofs.Counting.{queued_after, out_after}
use Rattle.kom_turns.proofs.Standing.{moved}

pub turned : (a b : ℕ) → (a == b) ≡ (b == a)
turned a b = go (a == b) (b == a) refl refl
  where
    go : (s t : Bool) → (a == b) ≡ s → (b == a) ≡ t → (a == b) ≡ (b == a)
    go true t e f = e ∙ sym (eq-eqb b a (sym (eqb-true a b e)))
    go false true e f = eq-eqb a b (sym (eqb-true b a f)) ∙ sym f
    go false false e f = e ∙ sym f

-- what no element passes
none_passes : {X : Type 0} (p : X → Bool) (xs : List X) → find p xs ≡ None → list_any p xs ≡ false
none_passes p [] e = refl
none_passes p (x ∷ xs) e = go (p x) refl (none_passes p xs)
  where
    go : (b : Bool) → p x ≡ b → (find p xs ≡ None → list_any p xs ≡ false) → list_any p (x ∷ xs) ≡ false
    go true t rest = absurd (cc (e, ap (λ b. if b then Some x else find p xs) t))
    go false t rest = ap (λ b. b || list_any p xs) t ∙ rest (sym (ap (λ b. if b then Some x else find p xs) t) ∙ e)

by_case : {X Y : Type 0} (f : X → Y) (b : Bool) (x : X) (o : Option X) → (if b then Some (f x) else option_map f o) ≡ option_map f (if b then Some x else o)
by_case f true x o = refl
by_case f false x o = refl

module _ (S : Declarations) (P : History) (c : ℕ) where
  -- the channel from which an arrival is taken is received by who takes it
  front_of : (m : State) (x : ℕ) (d : Dir) → StandsAt S (start_of P) m → (r : IsCandidate S P c x d) → front_for c (m.queues x d) ≡ Some r.envelope.no
  unfolding candidate
  front_of m x d s r =
      sym (front_is S P m c x d s)
      ∙ ap (option_map (λ a. a.no))
      (ap (option_and_then (λ h. if h.comp == c && is_living S (acts P) x && not (held S (acts P) x) then option_map (arriving S x d h) (first (waiting S P x d)) else None)) r.ends
      ∙ ap (λ b. if b then option_map (arriving S x d r.half) (first (waiting S P x d)) else None) (and_make _ _ (and_make _ _ (eq-eqb r.half.comp c r.at) r.living) (ap not r.free))
      ∙ ap (option_map (arriving S x d r.half)) r.first_is)

  -- so nobody else receives from it
  other_not : (q : Option Queue) (d : ℕ) → (c == d) ≡ false → is_some (front_for c q) ≡ true → IsNotReceiver d q
  other_not None d apart some = tt
  other_not (Some q) d apart some = λ e. go (option_map_or (λ r. r == c) q.receiver false) refl e
    where
      go : (b : Bool) → option_map_or (λ r. r == c) q.receiver false ≡ b → q.receiver ≡ Some d → ⊥
      go false t e = cc (some, ap (λ b. is_some (if b then first q.numbers else None)) t)
      go true t e = let same : (d == c) ≡ true = sym (ap (λ r. option_map_or (λ r. r == c) r false) e) ∙ t in cc (apart, turned c d, same)

  same_way : (y x : ℕ) (f e : Dir) → (y == x && same_dir f e) ≡ true → (y ≡ x) × (f ≡ e)
  same_way y x f e h = (eqb-true y x (left (y == x) (same_dir f e) h), dirs f e (right (y == x) (same_dir f e) h))
    where
      left : (a b : Bool) → (a && b) ≡ true → a ≡ true
      left true b h = refl
      left false b h = absurd (cc)

      right : (a b : Bool) → (a && b) ≡ true → b ≡ true
      right true b h = h
      right false b h = absurd (cc)

      dirs : (f e : Dir) → same_dir f e ≡ true → f ≡ e
      dirs Plus Plus h = refl
      dirs Plus Minus h = absurd (cc)
      dirs Minus Plus h = absurd (cc)
      dirs Minus Minus h = refl

  not_receiver : (Z : Plan) (m : State) (item : Item) (d x : ℕ) (e : Dir) → StandsAt S (start_of P) m → next S P c ≡ Some item → (c == d) ≡ false → comes_by item x e ≡ true → IsNotReceiver d (m.queues x e)
  not_receiver Z m (Control k) d x e s n apart by = absurd (cc)
  not_receiver Z m (Arrival y f number port side event back) d x e s n apart by =
      let way = same_way y x f e by in
      let r = arrival_ends S Z P c y f number port side event back n in
      subst (λ (q : ℕ × Dir). IsNotReceiver d (m.queues q.0 q.1)) (λ k. (way.0 k, way.1 k)) (other_not (m.queues y f) d apart (ap is_some (front_of m y f s r)))

  -- a busy component is not runnable
  pub busy_not : is_busy S P c ≡ true → runnable S P c ≡ false
  unfolding runnable
  busy_not b = ap (λ t. (alive S (acts P) c && not t) && (is_some (first (control_waiting S P c)) || (is_active S P c && is_some (first (candidates S P c))))) b ∙ off (alive S (acts P) c) _
    where
      off : (a y : Bool) → ((a && false) && y) ≡ false
      off true y = refl
      off false y = refl

-- the same with more room before
pub noted_after : (v k n : Run) (w c : ℕ) (item : Item) → IsButForRoom v k → IsNoted w c item k n → IsNoted w c item v n
noted_after v k n w c item e t = record {
  system = t.system ∙ e.system;
  history = t.history ∙ ap (λ R. Took w c item ∷ R) e.history;
  state = subst (λ x. IsTaken c item (state_of x) (state_of n.state)) e.state t.state;
  numbers = t.numbers ∙ ap (λ x. x.numbers) e.state;
  env = t.env ∙ e.env;
  jobs = λ q. t.jobs q ∙ (λ i. if is_eq (nat_cmp q w) then Some (record { took = length (e.history i); comp = c }) else value_of nat_cmp q (e.jobs i));
  busy = λ d. t.busy d ∙ ap (λ m. if d == c then true else has m d) e.busy;
  busy_bound = t.busy_bound ∙ ap (λ m. m.bound) e.busy;
  runnable = λ d. t.runnable d ∙ ap (λ m. if d == c then false else has m d) e.runnable;
  runnable_bound = t.runnable_bound ∙ ap (λ m. m.bound) e.runnable;
  marks = t.marks ∙ e.marks;
  steps = t.steps ∙ ap (λ m. m.steps) e.counts;
  instants = t.instants ∙ ap (λ m. m.instants) e.counts;
  unhandled = t.unhandled ∙ ap (λ m. m.unhandled) e.counts;
  queued = t.queued ∙ ap (λ m. m.queued) e.counts;
  out = t.out ∙ ap (λ m. m.out) e.counts;
}

module _ (took_follows : TookFollows) (untouched_stay : UntouchedStay) (takes_leave : TakesLeave) (busy_goes_on : BusyGoesOn) (counts_go_on : CountsGoOn) (queued_is : QueuedIsCounted) (stays : StaysAtTook) where
  module _ (v n : Run) (w c : ℕ) (item : Item) (t : IsNoted w c item v n) (waits : WaitsFirst (state_of v.state) c item) (free : IsFree (history_of v) w) (is : next (system_of v) (history_of v) c ≡ Some item)
      (runs : runnable (system_of v) (history_of v) c ≡ true) (still : is_closed (system_of v) v.env.plan (history_of v) ≡ false) (s : Stands v) where
    abbrev S : Declarations
    S = system_of v

    abbrev Z : Plan
    Z = v.env.plan

    abbrev P : History
    P = history_of v

    abbrev Q : History
    Q = Took w c item ∷ P

    may : MayTake S Z P w c item
    unfolding ready job_of
    may = record {
      free = ap not (none_passes (λ j. j.w == w) (in_hand P) free);
      ready = ap (λ b. b && not (is_closed S Z P)) runs ∙ ap not still;
      next = is;
    }

    legal : IsLegal S Z Q
    unfolding IsLegal
    legal = (s.legal, may)

    stands : StandsAt S (start_of Q) (state_of n.state)
    stands = took_follows S Z P w c item (state_of v.state) (state_of n.state) legal t.state s.state

    same_long : length (state_of n.state).nodes ≡ length (state_of v.state).nodes
    same_long = ap length t.state.tree.nodes

    jobs_after : (q : ℕ) → value_of nat_cmp q (entries n.jobs) ≡ option_map held_of (job_of Q q)
    unfolding job_of in_hand
    jobs_after q =
        t.jobs q
        ∙ ap (λ b. if b then Some (record { took = length P; comp = c }) else value_of nat_cmp q (entries v.jobs)) (unsigned_tied q w ∙ turned q w)
        ∙ ap (λ o. if w == q then Some (record { took = length P; comp = c }) else o) (s.jobs q)
        ∙ by_case held_of (w == q) (record { took = length P; w = w; c = c; item = item }) (job_of P q)

    busy_after : (d : ℕ) → has n.busy d ≡ is_busy S Q d
    busy_after d =
        t.busy d ∙ ap (λ b. if d == c then true else b) (s.busy d) ∙ either_way (d == c) (is_busy S P d) ∙ ap (λ b. b || is_busy S P d) (turned d c)
        ∙ sym ((busy_goes_on S P d).took w c item)
      where
        either_way : (a b : Bool) → (if a then true else b) ≡ (a || b)
        either_way true b = refl
        either_way false b = refl

    runnable_after : (d : ℕ) → has n.runnable d ≡ runnable S Q d
    runnable_after d = go (d == c) refl
      where
        go : (b : Bool) → (d == c) ≡ b → has n.runnable d ≡ runnable S Q d
        go true e =
            t.runnable d ∙ ap (λ b. if b then false else has v.runnable d) e
            ∙ sym (busy_not S Q d ((busy_goes_on S P d).took w c item ∙ ap (λ b. b || is_busy S P d) (turned c d ∙ e)))
        go false e =
            let apart : (c == d) ≡ false = turned c d ∙ e in
            t.runnable d ∙ ap (λ b. if b then false else has v.runnable d) e ∙ s.runnable_are d
            ∙ sym (untouched_stay S P Q (state_of v.state) (state_of n.state) d s.state stands
            (takes_leave c item (state_of v.state) (state_of n.state) d t.state apart (λ x e by. not_receiver S P c Z (state_of v.state) item d x e s.state is apart by))
            ((busy_goes_on S P d).took w c item ∙ ap (λ b. b || is_busy S P d) apart))

    counted : AreCounted S Z Q n.counts
    unfolding in_hand is_unhandled
    counted =
        let k = counts_go_on S Z P (Took w c item) in
        let old = s.counts_are in
        record {
          steps = let a = k.took in let b = old.steps in let d = t.steps in omega (arith, a, b, d);
          instants = let a = k.moved in let b = old.instants in let d = t.instants in omega (arith, a, b, d);
          queued_are = let a = t.queued in let b = old.queued_are in let d = queued_after S P w c item (state_of v.state) (state_of n.state) queued_is s.state stands t.state waits in omega (arith, a, b, d);
          out_are = t.out ∙ old.out_are ∙ sym (out_after S P w c item);
          unhandled = t.unhandled ∙ old.unhandled ∙ sym (k.unhandled ∙ or_false (has_unhandled S P));
          entries = let a = k.took in let b = k.moved in let d = old.entries in omega (arith, a, b, d);
        }
      where
        or_false : (b : Bool) → (b || false) ≡ b
        or_false true = refl
        or_false false = refl

    numbers_after : IsOf S n.state
    unfolding IsOf
    numbers_after = subst (λ k. Rattle.kom_numbers.specs.Numbering.IsNumbered S (map (λ i. i.kind) (state_of n.state).nodes) k) (sym t.numbers)
        (subst (λ is. Rattle.kom_numbers.specs.Numbering.IsNumbered S (map (λ i. i.kind) is) v.state.numbers) (sym t.state.tree.nodes) s.numbers)

    pub took_stands : Stands n
    took_stands =
        moved S (system_of n) Z n.env.plan Q (history_of n) n (sym (ap (λ y. y.declarations) t.system)) (sym (ap (λ o. o.plan) t.env)) (sym t.history)
        (record {
          fits = s.fits;
          legal = legal;
          state = stands;
          numbers = numbers_after;
          outside = stays S Z P w c item n.env (subst (λ o. Follows S Z P o) (sym t.env) s.outside);
          jobs = jobs_after;
          busy = busy_after;
          runnable_are = runnable_after;
          unmarked = λ d. ap (λ m. has m d) t.marks ∙ s.unmarked d;
          busy_bound = let a = same_long in let b = t.busy_bound in let h = s.busy_bound in omega (arith, a, b, h);
          runnable_bound = let a = same_long in let b = t.runnable_bound in let h = s.runnable_bound in omega (arith, a, b, h);
          marks_bound = let a = same_long in let b = ap (λ m. m.bound) t.marks in let h = s.marks_bound in omega (arith, a, b, h);
          marks_within = let a = ap (λ m. m.bound) t.marks in let b = t.runnable_bound in let h = s.marks_within in omega (arith, a, b, h);
          counts_are = counted;
        })
