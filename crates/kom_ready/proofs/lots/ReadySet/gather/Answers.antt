use Rattle.std.proofs.Common.{sym, length, map, subst, arith}
use Rattle.kom_ready.specs.Stores.{AreDrained, AreMerged}
use Rattle.kom_ready.proofs.Guested.{long_map}
use Rattle.kom_ready.proofs.Summed.{all_full, all_gathered, enough_room, few_lots, row_fits}
use Rattle.kom_ready.proofs.lots.ReadySet.gather.Goals as goal

pub pushes_of-most-requires : goal.pushes_of-most-requires
pushes_of-most-requires c = few_lots c.args.self c.args.lots.items c.requires

pub merge_all-requires : goal.merge_all-requires
merge_all-requires c = row_fits c.args.self c.args.lots.items c.take_apart-stores.result.0.items (map (λ r. r.items) c.take_apart-stores.result.1.items) c.requires c.take_apart-stores.ensures

pub drain_all-requires-clause-full : goal.drain_all-requires-clause-full
drain_all-requires-clause-full c =
    let stores = c.take_apart-stores.result.0.items in
    let rows = map (λ r. r.items) c.take_apart-stores.result.1.items in
    let new = c.merge_all.new.stores.items in
    all_full c.args.self c.args.lots.items stores rows c.requires c.take_apart-stores.ensures new
    (subst (λ k. AreMerged k rows stores new) (sym (long_map (λ r. r.items) c.take_apart-stores.result.1.items)) c.merge_all.ensures)

pub drain_all-requires-clause-room : goal.drain_all-requires-clause-room
drain_all-requires-clause-room c =
    let stores = c.take_apart-stores.result.0.items in
    let rows = map (λ r. r.items) c.take_apart-stores.result.1.items in
    let new = c.merge_all.new.stores.items in
    let most = c.pushes_of-most.ensures in
    let capacity = c.in-Ok.ensures.capacity in
    let len = c.in-Ok.ensures.len in
    let r = enough_room c.args.self c.args.lots.items stores rows c.requires c.take_apart-stores.ensures new
    (subst (λ k. AreMerged k rows stores new) (sym (long_map (λ r. r.items) c.take_apart-stores.result.1.items)) c.merge_all.ensures) c.in-Ok.left.cap (omega (arith, most, capacity))
    in
    omega (arith, r, len)

pub returns : goal.returns
returns c =
    let stores = c.take_apart-stores.result.0.items in
    let rows = map (λ r. r.items) c.take_apart-stores.result.1.items in
    let new = c.merge_all.new.stores.items in
    all_gathered c.args.self c.args.lots.items stores rows c.requires c.take_apart-stores.ensures new
    (subst (λ k. AreMerged k rows stores new) (sym (long_map (λ r. r.items) c.take_apart-stores.result.1.items)) c.merge_all.ensures) c.drain_all.new.stores.items c.drain_all.new.left.items
    (subst (λ xs. AreDrained (length new) new c.drain_all.new.stores.items xs c.drain_all.new.left.items) c.in-Ok.ensures.items c.drain_all.ensures)
