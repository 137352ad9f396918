use Rattle.std.proofs.Common.{◌≡◌, ◌+◌, ◌-◌, ◌≤◌, ℕ, length, vec_capacity, vec_len}
use Rattle.std.specs.List.{sum_by}
use Rattle.kom_ready.specs.Rule.{all_parts}
use Rattle.kom_ready.specs.Stores.{store_view}
use Rattle.kom_ready.proofs.store.Store.drain.Given as goal

abbrev pub invariant-loop-c : goal.invariant-loop-c
invariant-loop-c l = record {
  full : (store_view l.self).parts ≡ all_parts;
  put : (store_view l.self).put ≡ (store_view l.initial.self).put;
  room : length (store_view l.self).put + vec_len l.left ≤ length (store_view l.self).taken + vec_capacity l.left;
  capacity : vec_capacity l.left ≡ vec_capacity l.initial.left;
  left : (h : ℕ → ℕ) → sum_by h l.left.items + sum_by h (store_view l.initial.self).taken ≡ sum_by h l.initial.left.items + sum_by h (store_view l.self).taken;
}

abbrev pub decreases-loop-c : goal.decreases-loop-c
decreases-loop-c l = vec_capacity l.left - vec_len l.left
