use Rattle.std.proofs.Common.{sym, arith}
use Rattle.kom_losses.proofs.own.wire_count.Goals as goal

pub returns-clause-few : goal.returns-clause-few
returns-clause-few c =
    let a = c.len.ensures in
    let b = (c.requires.wires c.args.d c.in-Some.body.now (sym c.in-Some.ensures)).1 in
    omega (arith, a, b)
