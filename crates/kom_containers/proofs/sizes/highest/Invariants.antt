use Rattle.std.proofs.Common.{◌≡◌, ◌<◌, max, map, drop, slice_index_or}
use Rattle.kom_lang.specs.Declarations.{greatest}
use Rattle.kom_containers.proofs.sizes.highest.Given as goal

abbrev pub invariant-loop-child : goal.invariant-loop-child
invariant-loop-child l = record {
  greatest : max l.highest (greatest (map (λ c. slice_index_or l.heights c 0) (drop l.child-index l.children))) ≡ greatest (map (λ c. slice_index_or l.heights c 0) l.children);
  below : l.highest < 255;
}
