-- The sizes of the trees of component types.
use Rattle.std.specs.Prelude.{◌≡◌, ℕ, Bool, ◌||◌, nat_lt, min, length, slice_index_or}
use Rattle.kom_system.specs.declared.parts.Parts.{Parts}
use Rattle.kom_containers.specs.declared.containers.Sizes.{Sizes}
use Rattle.kom_containers.specs.Nested.{levels_of, total_of, children_table, amounts}

-- for each component type the levels of its tree, and the counts of instances and channels in it, as
-- far as they are counted
pub record AreSizes (sizes : Sizes) (P : Parts) : Type 0 where
  pub heights : (k : ℕ) → slice_index_or sizes.heights k 0 ≡ levels_of 17 (children_table P) k
  pub instances : (k : ℕ) → slice_index_or sizes.instances k 0 ≡ min (total_of 16 (children_table P) (amounts (λ c. 1) P) k) 1001
  pub channels : (k : ℕ) → slice_index_or sizes.channels k 0 ≡ min (total_of 16 (children_table P) (amounts (λ c. length c.channels) P) k) 1001

-- by these the tree has more than 16 levels, or more than 1,000 instances or channels
abbrev pub exceeds_limits : Sizes → ℕ → Bool
exceeds_limits sizes k = nat_lt 16 (slice_index_or sizes.heights k 0) || (nat_lt 1000 (slice_index_or sizes.instances k 0) || nat_lt 1000 (slice_index_or sizes.channels k 0))
