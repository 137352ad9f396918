use Rattle.std.proofs.Common.{◌≡◌, ◌<◌, arith, ap, length, slice_get, Some}
use Rattle.kom_resolve.specs.Counted.{has_short_lists}
use Rattle.kom_resolve.proofs.Numbered.{passes_at}
use Rattle.kom_resolve.proofs.Rows.{get_there}
use Rattle.kom_resolve.proofs.system.kinds.Goals as goal

pub invariant_of-inner : goal.invariant_of-inner
invariant_of-inner c =
    let w = c.args.whole.now in
    let inside : c.loop-k.k < length w.parts.now.components = omega (arith, c.loop-k-test.true, ap length c.as_slice-part-items.ensures) in
    let part : slice_get w.parts.now.components c.loop-k.k ≡ Some c.part-item.result = get_there w.parts.now.components c.loop-k.k c.part-item.result inside (rw c.as_slice-part-items.ensures at c.part-item.is) in
    let names : slice_get w.tables.now.inside c.loop-k.k ≡ Some c.index-as_slice-k.result = get_there w.tables.now.inside c.loop-k.k c.index-as_slice-k.result (omega (arith, inside, w.tabled.inside.count)) (rw c.as_slice.ensures at c.index-as_slice-k.is) in
    record { named = w.tabled.inside.each c.loop-k.k c.index-as_slice-k.result c.part-item.result names part; short = passes_at has_short_lists w.parts.now.components c.loop-k.k c.part-item.result w.counted.inside part }
