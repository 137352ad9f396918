use Rattle.std.proofs.Common.{◌≡◌, ℕ, ◌==◌, length}
use Rattle.std.specs.Prelude.{slice_index_or}
use Rattle.std.specs.List.{count_by}
use Rattle.kom_sim.specs.Line.{last_of_each}
use Rattle.kom_sim.proofs.line.Line.pop.Given as goal

abbrev pub invariant-loop-c : goal.invariant-loop-c
invariant-loop-c l =
    (last_of_each l.self-inside.queue.items ≡ last_of_each l.initial.self-inside.queue.items)
    × ((c : ℕ) → slice_index_or l.self-inside.counts.items c 0 ≡ count_by (λ d. d == c) l.self-inside.queue.items)

abbrev pub decreases-loop-c : goal.decreases-loop-c
decreases-loop-c l = length l.self-inside.queue.items
