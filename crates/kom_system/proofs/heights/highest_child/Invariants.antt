use Rattle.std.proofs.Common.{◌≡◌, ◌<◌, max, map, drop, slice_index_or}
use Rattle.kom_lang.specs.Declarations.{child_height, greatest}
use Rattle.kom_system.proofs.heights.highest_child.Given as goal

abbrev pub invariant-loop-slot : goal.invariant-loop-slot
invariant-loop-slot l = record {
  greatest : max l.highest (greatest (map (child_height (λ c. slice_index_or l.heights c 0)) (drop l.slot-index l.slot-items))) ≡ greatest (map (child_height (λ c. slice_index_or l.heights c 0)) l.slot-items);
  below : l.highest < 255;
}
