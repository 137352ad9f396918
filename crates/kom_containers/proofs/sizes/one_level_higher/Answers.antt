use Rattle.std.proofs.Common.{ℕ, List, ◌+◌, ap, map, slice_index_or}
use Rattle.kom_lang.specs.Declarations.{greatest}
use Rattle.kom_tables.proofs.Entries.{map_push}
use Rattle.kom_containers.proofs.sizes.one_level_higher.Goals as goal

pub loop-list-preserved : goal.loop-list-preserved
loop-list-preserved c =
    map_push (λ (below : List ℕ). 1 + greatest (map (λ x. slice_index_or c.args.heights.now x 0) below)) c.args.children.now c.loop-list.list-index c.list-item.result (1 + c.highest.result) c.loop-list.table c.push.new.self
    c.loop-list-test.true c.list-item.is (ap (λ n. 1 + n) (rw c.as_slice.ensures at c.highest.ensures.greatest)) c.loop-list.invariant c.in_ok-push.ensures.ok
