use Rattle.std.proofs.Common.{◌<◌, sym, ap, ◌∙◌, length, get_or, drop, arith}
use Rattle.kom_ready.specs.Guests.{guest_deque}
use Rattle.kom_ready.specs.Stores.{store_deque}
use Rattle.kom_ready.proofs.Merging.{as_long, drop_more, dropped_at, one_more, same_at}
use Rattle.kom_ready.proofs.gathering.merge.Goals as goal

pub merge-requires : goal.merge-requires
merge-requires c =
    let row = c.args.row.items in
    let old = c.args.stores.now.items in
    let mid = c.loop-j.stores.items in
    let j = c.loop-j.j in
    let g = c.remove.result in
    let inv = c.loop-j.invariant in
    let rows = as_long guest_deque store_deque row old c.requires in
    let l = as_long store_deque store_deque mid old inv.merged.deques in
    let ok = c.args.stores.now.ok.0 in
    let end = c.len-j-end.ensures in
    let test = c.loop-j-test.true in
    let lt : j < length row = omega (arith, rows, ok, end, test) in
    same_at guest_deque store_deque row mid j g c.index_mut.result.now (c.requires ∙ sym inv.merged.deques) lt
    (c.remove.ensures.value ∙ ap (λ r. get_or r 0 g) inv.rest ∙ dropped_at row j g) c.index_mut.ensures.value

pub loop-j-preserved : goal.loop-j-preserved
loop-j-preserved c =
    let row = c.args.row.items in
    let old = c.args.stores.now.items in
    let mid = c.loop-j.stores.items in
    let j = c.loop-j.j in
    let g = c.remove.result in
    let inv = c.loop-j.invariant in
    let rows = as_long guest_deque store_deque row old c.requires in
    let l = as_long store_deque store_deque mid old inv.merged.deques in
    let ok = c.args.stores.now.ok.0 in
    let end = c.len-j-end.ensures in
    let test = c.loop-j-test.true in
    record {
      rest = c.remove.ensures.items ∙ ap (drop 1) inv.rest ∙ drop_more row j;
      merged = one_more j row old mid g c.index_mut.result.now c.merge.new.self inv.merged (omega (arith, rows, ok, end, test)) (omega (arith, l, ok, end, test))
          (c.remove.ensures.value ∙ ap (λ r. get_or r 0 g) inv.rest ∙ dropped_at row j g) c.index_mut.ensures.value c.merge.ensures;
    }
