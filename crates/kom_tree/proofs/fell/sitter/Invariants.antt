use Rattle.std.proofs.Common.{◌≡◌, ℕ, true, Some}
use Rattle.kom_tree.specs.Parts.{IsAhead, lives, hangs_at, sits, place_of}
use Rattle.kom_tree.proofs.fell.sitter.Given as goal

abbrev pub invariant-loop-next : goal.invariant-loop-next
invariant-loop-next l = record {
  ahead : (c : ℕ) → sits l.family.origins.items l.living l.parent l.slot c ≡ true → IsAhead l.family.origins.items l.next l.parent c;
  heading : (c : ℕ) → l.next ≡ Some c → (lives l.living c ≡ true) × (hangs_at l.family.origins.items l.parent c ≡ true);
}

abbrev pub decreases-loop-next : goal.decreases-loop-next
decreases-loop-next l = place_of l.next
