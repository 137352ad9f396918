use Rattle.std.proofs.Common.{◌≡◌, ◌-◌, ◌≤◌, ℕ, length}
use Rattle.kom_ancestors.specs.Far.{to, up}
use Rattle.kom_ancestors.proofs.steps.far_steps.Given as goal

abbrev pub invariant-far : goal.invariant-far
invariant-far l = record {
  count : length l.table ≡ length l.parents;
  some : 1 ≤ l.steps;
  leads : (a : ℕ) → to l.table a ≡ up l.steps l.parents a;
}

abbrev pub decreases-far : goal.decreases-far
decreases-far l = length l.parents - l.steps
