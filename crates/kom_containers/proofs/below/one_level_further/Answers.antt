use Rattle.std.proofs.Common.{false, ◌||◌, ◌==◌, ℕ, slice_index_or}
use Rattle.std.specs.List.{list_any}
use Rattle.kom_tables.proofs.Entries.{map_push}
use Rattle.kom_containers.proofs.below.one_level_further.Goals as goal

pub loop-list-preserved : goal.loop-list-preserved
loop-list-preserved c =
    map_push (list_any (λ (x : ℕ). x == c.args.number || slice_index_or c.args.below.now x false)) c.args.children.now c.loop-list.list-index c.list-item.result c.is_among_or_below.result c.loop-list.table c.push.new.self
    c.loop-list-test.true c.list-item.is (rw c.as_slice.ensures at c.is_among_or_below.ensures) c.loop-list.invariant c.in_ok-push.ensures.ok
