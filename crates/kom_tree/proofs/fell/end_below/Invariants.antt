use Rattle.std.proofs.Common.{◌≡◌, ◌+◌, ◌*◌, ◌≤◌, length, vec_capacity}
use Rattle.std.specs.List.{count_by}
use Rattle.kom_tree.specs.Parts.{IsEnding, place_of}
use Rattle.kom_tree.proofs.fell.end_below.Given as goal

abbrev pub invariant-loop-next : goal.invariant-loop-next
invariant-loop-next l = record {
  ending : IsEnding l.family.origins.items l.fn.top l.fn.living.items l.living.items l.pending.items l.next;
  room : vec_capacity l.fn.pending ≤ vec_capacity l.pending;
  same : vec_capacity l.living ≡ vec_capacity l.fn.living;
}

abbrev pub decreases-loop-next : goal.decreases-loop-next
decreases-loop-next l = (2 * count_by (λ b. b) l.living.items + length l.pending.items) * (length l.fn.living.items + 2) + place_of l.next
