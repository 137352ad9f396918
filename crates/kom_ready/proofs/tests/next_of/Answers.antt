use Rattle.std.proofs.Common.{◌<◌, length, arith}
use Rattle.kom_ready.proofs.Guested.{stands_at}
use Rattle.kom_ready.proofs.Same.{still_lots}
use Rattle.kom_ready.proofs.tests.next_of.Goals as goal

pub next-requires : goal.next-requires
next-requires g c =
    let ok = c.args.lots.now.ok.0 in
    let len = c.len.ensures in
    let test = c.if-i-len.true in
    let lt : c.args.i < length c.args.lots.now.items = omega (arith, ok, len, test) in
    c.requires.each c.args.i c.index_mut.result.now (stands_at c.args.lots.now.items c.args.i c.index_mut.result.now lt c.index_mut.ensures.value)

pub returns-then-i-len : goal.returns-then-i-len
returns-then-i-len g c =
    let ok = c.args.lots.now.ok.0 in
    let len = c.len.ensures in
    let test = c.if-i-len.true in
    still_lots c.args.set.now c.args.lots.now.items c.args.i c.index_mut.result.now c.next.new.self c.requires (omega (arith, ok, len, test)) c.index_mut.ensures.value c.next.ensures.same
