use Rattle.std.proofs.Common.{◌∙◌, sym, ap, get_or, drop, map, arith}
use Rattle.kom_ready.specs.Guests.{guest_deque}
use Rattle.kom_ready.specs.Stores.{store_deque}
use Rattle.kom_ready.proofs.Guested.{at_place, long_map}
use Rattle.kom_ready.proofs.Merging.{as_long, drop_more, dropped_at, mapped_at, row_more}
use Rattle.kom_ready.proofs.gathering.merge_all.Goals as goal

pub merge-requires : goal.merge-requires
merge-requires c =
    let rows = c.args.rows.items in
    let i = c.loop.counter in
    let row = c.remove.result in
    let inv = c.loop.invariant in
    let ok = c.args.rows.ok.0 in
    let end = c.len-end.ensures in
    let test = c.loop-test.true in
    c.requires i row.items (at_place (λ r. r.items) rows i row (omega (arith, ok, end, test)) (c.remove.ensures.value ∙ ap (λ rs. get_or rs 0 row) inv.rest ∙ dropped_at rows i row)) ∙ sym inv.merged.deques

pub loop-preserved : goal.loop-preserved
loop-preserved c =
    let rows = c.args.rows.items in
    let i = c.loop.counter in
    let row = c.remove.result in
    let mid = c.loop.stores.items in
    let inv = c.loop.invariant in
    let ok = c.args.rows.ok.0 in
    let end = c.len-end.ensures in
    let test = c.loop-test.true in
    let at = c.remove.ensures.value ∙ ap (λ rs. get_or rs 0 row) inv.rest ∙ dropped_at rows i row in
    let fits = c.requires i row.items (at_place (λ r. r.items) rows i row (omega (arith, ok, end, test)) at) ∙ sym inv.merged.deques in
    let long = long_map (λ r. r.items) rows in
    record {
      rest = c.remove.ensures.items ∙ ap (drop 1) inv.rest ∙ drop_more rows i;
      merged = row_more i (map (λ r. r.items) rows) row.items c.args.stores.now.items mid c.merge.new.stores.items inv.merged (omega (arith, long, ok, end, test))
          (mapped_at (λ r. r.items) rows i row (omega (arith, ok, end, test)) at) (as_long guest_deque store_deque row.items mid fits) c.merge.ensures;
    }
