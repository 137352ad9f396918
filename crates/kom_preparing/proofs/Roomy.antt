-- A run in which room was made.
use Rattle.std.proofs.Common.{◌≡◌, ℕ, ◌≤◌, refl, sym, ap, ◌∙◌, length, arith}
use Rattle.kom_comps.specs.Members.{Members, has}
use Rattle.kom_env.specs.Outside.{Outside}
use Rattle.kom_record.specs.Kept.{Kept}
use Rattle.kom_state.specs.Laws.{NumbersStay}
use Rattle.kom_state.specs.Parts.{Parts, state_of}
use Rattle.kom_state.specs.Rooms.{HasNoLess, IsSame}
use Rattle.kom_times.specs.Following.{IsButForRoom, come_to}
use Rattle.kom_puts.specs.Laws.{SameStatesFollow}
use Rattle.kom_puts.proofs.BySlots.{no_less_again, same_again}
use Rattle.kom_coming.proofs.Rooms.{same_self}
use Rattle.kom_faults.specs.Faulted.{IsButForRooms}
use Rattle.kom_faults.proofs.Roomier.{roomier_stands}
use Rattle.kom_turns.specs.declared.run.Run.{Run}
use Rattle.kom_turns.specs.Runs.{Stands, history_of, system_of}
use Rattle.kom_turns.proofs.Standing.{moved}
use Rattle.kom_preparing.specs.Laws.{SpaciousRunsStand}
use Rattle.kom_preparing.specs.Spaces.{IsButForSpace, IsWider}

pub wider_self : (m : Members) → IsWider m m
wider_self m = record { same = λ c. refl; bound = omega arith }

wider_again : (a b c : Members) → IsWider a b → IsWider b c → IsWider a c
wider_again a b c f g = record { same = λ d. g.same d ∙ f.same d; bound = let x = f.bound in let y = g.bound in omega (arith, x, y) }

wider_same : (a b : Members) → b ≡ a → IsWider a b
wider_same a b e = record { same = λ c. ap (λ m. has m c) e; bound = let x = ap (λ m. m.bound) e in omega (arith, x) }

env_again : (a b c : Outside) → IsButForRoom a b → IsButForRoom b c → IsButForRoom a c
env_again a b c f g = g ∙ ap (λ (o : Outside). record o { spare = c.spare }) f

env_same : (a b : Outside) → b ≡ a → IsButForRoom a b
env_same a b e = e ∙ ap (λ (o : Outside). record a { spare = o.spare }) (sym e)

pub less_self : (v : Parts) → HasNoLess v v
less_self v = record {
  outs = refl;
  counts = refl;
  instances = omega arith;
  channels = omega arith;
  controls = λ c. omega arith;
  rows = λ c h. h;
  numbers = λ x d. omega arith;
  queues = λ x h. h;
}

-- ---- one step after another

pub space_self : (v : Run) → IsButForSpace v v
space_self v = record {
  system = refl;
  history = refl;
  state = same_self (state_of v.state);
  room = less_self v.state;
  env = refl;
  jobs = refl;
  busy = wider_self v.busy;
  runnable = wider_self v.runnable;
  marks = wider_self v.marks;
  within = λ h. h;
  counts = refl;
}

pub space_again : (a b c : Run) → IsButForSpace a b → IsButForSpace b c → IsButForSpace a c
space_again a b c f g = record {
  system = g.system ∙ f.system;
  history = g.history ∙ f.history;
  state = same_again (state_of a.state) (state_of b.state) (state_of c.state) f.state g.state;
  room = no_less_again a.state b.state c.state f.room g.room;
  env = env_again a.env b.env c.env f.env g.env;
  jobs = g.jobs ∙ f.jobs;
  busy = wider_again a.busy b.busy c.busy f.busy g.busy;
  runnable = wider_again a.runnable b.runnable c.runnable f.runnable g.runnable;
  marks = wider_again a.marks b.marks c.marks f.marks g.marks;
  within = λ h. g.within (f.within h);
  counts = g.counts ∙ f.counts;
}

-- ---- standing

-- more room in the record, the jobs and the state is a case of it
pub roomier_is_spacious : (v n : Run) → IsButForRooms v n → IsButForSpace v n
roomier_is_spacious v n e = record {
  system = e.system;
  history = e.history;
  state = e.state;
  room = e.room;
  env = env_same v.env n.env e.env;
  jobs = e.jobs;
  busy = wider_same v.busy n.busy e.busy;
  runnable = wider_same v.runnable n.runnable e.runnable;
  marks = wider_same v.marks n.marks e.marks;
  within = λ h. let a = ap (λ m. m.bound) e.marks in let b = ap (λ m. m.bound) e.runnable in omega (arith, a, b, h);
  counts = e.counts;
}

-- and the rest is the room in the environment and the sets
pub spacious_stands : SameStatesFollow → NumbersStay → SpaciousRunsStand
spacious_stands follow stay v n e s =
    let k : Run = record n { env = v.env; busy = v.busy; runnable = v.runnable; marks = v.marks } in
    let t : Stands k = roomier_stands follow stay v k
    (record { system = e.system; history = e.history; state = e.state; room = e.room; env = refl; jobs = e.jobs; busy = refl; runnable = refl; marks = refl; counts = e.counts }) s
    in
    moved (system_of n) (system_of n) v.env.plan n.env.plan (history_of n) (history_of n) n refl (sym (ap (λ o. o.plan) e.env)) refl
    (record {
      fits = t.fits;
      legal = t.legal;
      state = t.state;
      numbers = t.numbers;
      outside = env_again (come_to (system_of n) v.env.plan (history_of n)) v.env n.env t.outside e.env;
      jobs = t.jobs;
      busy = λ c. e.busy.same c ∙ t.busy c;
      runnable_are = λ c. e.runnable.same c ∙ t.runnable_are c;
      unmarked = λ c. e.marks.same c ∙ t.unmarked c;
      busy_bound = let a = t.busy_bound in let b = e.busy.bound in omega (arith, a, b);
      runnable_bound = let a = t.runnable_bound in let b = e.runnable.bound in omega (arith, a, b);
      marks_bound = let a = t.marks_bound in let b = e.marks.bound in omega (arith, a, b);
      marks_within = e.within t.marks_within;
      counts_are = t.counts_are;
    })

-- ---- one part made roomier

pub state_roomier : (v : Run) (s : Parts) → IsSame (state_of v.state) (state_of s) → HasNoLess v.state s → IsButForSpace v (record v { state = s })
state_roomier v s same less = record {
  system = refl;
  history = refl;
  state = same;
  room = less;
  env = refl;
  jobs = refl;
  busy = wider_self v.busy;
  runnable = wider_self v.runnable;
  marks = wider_self v.marks;
  within = λ h. h;
  counts = refl;
}

pub sets_wider : (v : Run) (busy runnable marks : Members) → IsWider v.busy busy → IsWider v.runnable runnable → IsWider v.marks marks → (v.marks.bound ≤ v.runnable.bound → marks.bound ≤ runnable.bound)
    → IsButForSpace v (record v { busy = busy; runnable = runnable; marks = marks })
sets_wider v busy runnable marks a b m w = record {
  system = refl;
  history = refl;
  state = same_self (state_of v.state);
  room = less_self v.state;
  env = refl;
  jobs = refl;
  busy = a;
  runnable = b;
  marks = m;
  within = w;
  counts = refl;
}

pub entry_roomier : (v : Run) (kept : Kept) (env : Outside) → kept.history ≡ v.kept.history → IsButForRoom v.env env → IsButForSpace v (record v { kept = kept; env = env })
entry_roomier v kept env same room = record {
  system = refl;
  history = same;
  state = same_self (state_of v.state);
  room = less_self v.state;
  env = room;
  jobs = refl;
  busy = wider_self v.busy;
  runnable = wider_self v.runnable;
  marks = wider_self v.marks;
  within = λ h. h;
  counts = refl;
}
