use Rattle.std.proofs.Common.{◌≡◌, ℕ, ◌-◌, ◌+◌, length}
use Rattle.std.specs.Prelude.{slice_index_or}
use Rattle.kom_sim.proofs.line.reach.Given as goal

abbrev pub invariant-loop-c : goal.invariant-loop-c
invariant-loop-c l = (d : ℕ) → slice_index_or l.counts.items d 0 ≡ slice_index_or l.initial.counts.items d 0

abbrev pub decreases-loop-c : goal.decreases-loop-c
decreases-loop-c l = l.fn.c + 1 - length l.counts.items
