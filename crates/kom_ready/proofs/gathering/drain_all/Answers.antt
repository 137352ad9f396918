use Rattle.std.proofs.Common.{◌∙◌, arith}
use Rattle.kom_ready.proofs.Emptied.{one_emptied, room_for}
use Rattle.kom_ready.proofs.gathering.drain_all.Goals as goal

pub drain-requires-clause-room : goal.drain-requires-clause-room
drain-requires-clause-room c =
    let inv = c.loop-j.invariant in
    let old = c.args.stores.now.items in
    let mid = c.loop-j.stores.items in
    let count = inv.drained.count in
    let ok = c.args.stores.now.ok.0 in
    let end = c.len-j-end.ensures in
    let test = c.loop-j-test.true in
    let before = c.args.left.now.ok.0 in
    let here = c.loop-j.left.ok.0 in
    let room = c.requires.room in
    let capacity = inv.capacity in
    let r = room_for c.loop-j.j old mid c.args.left.now.items c.loop-j.left.items inv.drained c.requires.full c.args.left.now.cap c.index_mut.result.now (omega (arith, count, ok, end, test)) c.index_mut.ensures.value
    (omega (arith, room, before))
    in
    omega (arith, r, here, capacity)

pub loop-j-preserved : goal.loop-j-preserved
loop-j-preserved c =
    let inv = c.loop-j.invariant in
    let count = inv.drained.count in
    let ok = c.args.stores.now.ok.0 in
    let end = c.len-j-end.ensures in
    let test = c.loop-j-test.true in
    record {
      drained = one_emptied c.loop-j.j c.args.stores.now.items c.loop-j.stores.items c.args.left.now.items c.loop-j.left.items inv.drained c.requires.full c.index_mut.result.now c.drain.new.self c.drain.new.left.items
          (omega (arith, count, ok, end, test)) c.index_mut.ensures.value c.drain.ensures.drained;
      capacity = c.drain.ensures.capacity ∙ inv.capacity;
    }
