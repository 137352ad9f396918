-- A run with more room.
use Rattle.std.proofs.Common.{◌≡◌, ℕ, false, ◌||◌, refl, sym, ap, ◌∙◌, subst, List, [], ◌∷◌, length, Option, arith}
use Rattle.std.specs.Option.{option_map}
use Rattle.std.specs.Ordering.{nat_cmp}
use Rattle.std.proofs.lemmas.Bool.{eq-eqb}
use Rattle.kom_base.specs.Lists.{holds_number}
use Rattle.kom_comps.specs.Members.{Members, has}
use Rattle.kom_index.specs.Entries.{value_of}
use Rattle.kom_refine.specs.Points.{start_of}
use Rattle.kom_state.specs.Laws.{NumbersStay}
use Rattle.kom_state.specs.Parts.{state_of}
use Rattle.kom_times.specs.Following.{Follows}
use Rattle.kom_puts.specs.Laws.{SameStatesFollow}
use Rattle.kom_turns.specs.declared.run.Run.{Run}
use Rattle.kom_turns.specs.Runs.{AreCounted, Stands, history_of, system_of}
use Rattle.kom_turns.proofs.Standing.{moved}
use Rattle.kom_refine.specs.States.{State}
use Rattle.kom_record.specs.Bodies.{catches}
use Rattle.kom_record.specs.declared.entry.Outcome.TheVariants as outcome
use Rattle.kom_refine.specs.Steps.{ArePut, IsEnded, with_items}
use Rattle.kom_state.specs.Rooms.{IsSame}
use Rattle.kom_marks.specs.Marking.{IsMarked}
use Rattle.kom_record.specs.declared.item.Control.{Control as ControlItem}
use Rattle.kom_refine.specs.Firsts.{front_for}
use Rattle.std.specs.Prelude.{is_none, is_some}
use Rattle.kom_faults.specs.Faulted.{IsButForRooms, IsFaultNoted}

pub roomier_stands : SameStatesFollow → NumbersStay → (v n : Run) → IsButForRooms v n → Stands v → Stands n
roomier_stands follow stay v n e s =
    let long = ap length e.state.tree.nodes in
    moved (system_of v) (system_of n) v.env.plan n.env.plan (history_of v) (history_of n) n
    (sym (ap (λ y. y.declarations) e.system)) (sym (ap (λ o. o.plan) e.env)) (sym e.history)
    (record {
      fits = s.fits;
      legal = s.legal;
      state = follow (system_of v) (start_of (history_of v)) (state_of v.state) (state_of n.state) e.state s.state;
      numbers = stay (system_of v) v.state n.state s.numbers e.state.tree.nodes e.room.outs e.room.counts;
      outside = subst (λ o. Follows (system_of v) v.env.plan (history_of v) o) (sym e.env) s.outside;
      jobs = λ w. ap (value_of nat_cmp w) e.jobs ∙ s.jobs w;
      busy = λ c. ap (λ m. has m c) e.busy ∙ s.busy c;
      runnable_are = λ c. ap (λ m. has m c) e.runnable ∙ s.runnable_are c;
      unmarked = λ c. ap (λ m. has m c) e.marks ∙ s.unmarked c;
      busy_bound = let b = ap (λ m. m.bound) e.busy in let h = s.busy_bound in omega (arith, long, b, h);
      runnable_bound = let b = ap (λ m. m.bound) e.runnable in let h = s.runnable_bound in omega (arith, long, b, h);
      marks_bound = let b = ap (λ m. m.bound) e.marks in let h = s.marks_bound in omega (arith, long, b, h);
      marks_within = let a = ap (λ m. m.bound) e.marks in let b = ap (λ m. m.bound) e.runnable in let h = s.marks_within in omega (arith, a, b, h);
      counts_are = subst (λ k. AreCounted (system_of v) v.env.plan (history_of v) k) (sym e.counts) s.counts_are;
    })

none_in : (ns : List ℕ) → ((c : ℕ) → holds_number ns c ≡ false) → length ns ≡ 0
none_in [] h = refl
none_in (n ∷ ns) h = absurd (cc (sym (h n) ∙ ap (λ b. b || holds_number ns n) (eq-eqb n n refl)))

-- a set in which nobody is is empty
pub nobody : (m : Members) → ((c : ℕ) → has m c ≡ false) → length m.list ≡ 0
unfolding has
nobody m h = none_in m.list h

put_before : (put : ℕ → List ControlItem) (m k n : State) → IsSame m k → ArePut put k n → ArePut put m n
put_before put m k n e a = record {
  tree = record { nodes = a.tree.nodes ∙ e.tree.nodes; living = λ c. a.tree.living c ∙ e.tree.living c; child = λ c s. a.tree.child c s ∙ e.tree.child c s };
  links = λ x. a.links x ∙ e.links x;
  queues = λ x d. a.queues x d ∙ e.queues x d;
  controls = λ c. a.controls c ∙ ap (option_map (with_items (put c))) (e.controls c);
  bodies = λ c. a.bodies c ∙ e.bodies c;
}

marked_before : (most : ℕ) (was old new : Members) (m k n : State) → old ≡ was → IsSame m k → IsMarked most old new k n → IsMarked most was new m n
marked_before most was old new m k n a e t = record {
  leaves = λ c h.
      let l = t.leaves c h in
      (sym (ap (λ s. has s c) a) ∙ l.0, record { row = l.1.row ∙ e.controls c; fronts = λ x d. l.1.fronts x d ∙ ap (λ q. is_some (front_for c q)) (e.queues x d) });
  few = let f = t.few in let b = ap (λ s. length s.list) a in omega (arith, f, b);
  bound = t.bound ∙ ap (λ s. s.bound) a;
}

-- the fault is noted of the run before there was more room
pub noted_before : (c number : ℕ) (told : Option (ℕ × ℕ)) (v k n : Run) → IsButForRooms v k → IsFaultNoted c number told k n → IsFaultNoted c number told v n
noted_before c number told v k n e t = record {
  system = t.system ∙ e.system;
  history = t.history ∙ e.history;
  between = t.between;
  put = put_before _ (state_of v.state) (state_of k.state) t.between e.state t.put;
  ended = subst (λ y. IsEnded (catches y.declarations) c (outcome.Fault number) t.between (state_of n.state)) e.system t.ended;
  outs = t.outs ∙ e.room.outs;
  widths = t.widths ∙ e.room.counts;
  env = t.env ∙ e.env;
  jobs = t.jobs ∙ e.jobs;
  busy = t.busy ∙ e.busy;
  runnable = t.runnable ∙ e.runnable;
  marks = marked_before 2 v.marks k.marks n.marks (state_of v.state) (state_of k.state) (state_of n.state) e.marks e.state t.marks;
  marked = t.marked;
  steps = t.steps ∙ ap (λ k. k.steps) e.counts;
  instants = t.instants ∙ ap (λ k. k.instants) e.counts;
  unhandled = t.unhandled ∙ ap (λ k. k.unhandled || is_none told) e.counts;
  queued = t.queued ∙ ap (λ k. k.queued) e.counts;
  out = t.out ∙ ap (λ k. k.out) e.counts;
}
