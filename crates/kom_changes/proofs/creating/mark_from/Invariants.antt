use Rattle.std.proofs.Common.{◌≡◌, ℕ, ◌+◌, ◌-◌, ◌≤◌, ◌&&◌, ◌||◌, length}
use Rattle.std.specs.Prelude.{nat_le, nat_lt}
use Rattle.kom_comps.specs.Members.{has}
use Rattle.kom_changes.proofs.creating.mark_from.Given as goal

abbrev pub invariant-loop-c : goal.invariant-loop-c
invariant-loop-c l = record {
  each : (d : ℕ) → has l.marks d ≡ ((nat_le l.first d && nat_lt d l.c) || has l.fn.marks d);
  few : length l.marks.list ≤ length l.fn.marks.list + (l.c - l.first);
  bound : l.marks.bound ≡ l.fn.marks.bound;
}
