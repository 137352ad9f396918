use Rattle.std.proofs.Common.{arith}
use Rattle.kom_ready.proofs.Same.{still_lots}
use Rattle.kom_ready.proofs.tests.push_to.Goals as goal

pub returns-then-i-len : goal.returns-then-i-len
returns-then-i-len c =
    let ok = c.args.lots.now.ok.0 in
    let len = c.len.ensures in
    let test = c.if-i-len.true in
    still_lots c.args.set.now c.args.lots.now.items c.args.i c.index_mut.result.now c.push.new.self c.requires (omega (arith, ok, len, test)) c.index_mut.ensures.value c.push.ensures.same
