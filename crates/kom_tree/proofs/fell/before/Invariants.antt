use Rattle.std.proofs.Common.{◌≡◌, ℕ, true, Some}
use Rattle.kom_tree.specs.Parts.{IsAhead, lives, place_of}
use Rattle.kom_tree.specs.Steps.{LiesBefore}
use Rattle.kom_tree.proofs.fell.before.Given as goal

abbrev pub invariant-loop-next : goal.invariant-loop-next
invariant-loop-next l = record {
  ahead : IsAhead l.family.origins.items l.next l.fn.parent l.child;
  trail : LiesBefore l.family l.living l.fn.parent l.last l.next;
  alive : (c : ℕ) → l.next ≡ Some c → lives l.living c ≡ true;
}

abbrev pub decreases-loop-next : goal.decreases-loop-next
decreases-loop-next l = place_of l.next
