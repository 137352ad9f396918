use Rattle.std.proofs.Common.{Some, arith}
use Rattle.kom_wiring.proofs.Plugging.{added, sets_each}
use Rattle.kom_wiring.proofs.wiring.Wiring.add.Goals as goal

pub invariant_of-self : goal.invariant_of-self
invariant_of-self c =
    let i = c.self.inside in
    added i.links.0 c.insert-3.new.self.0 i.ends.0 c.insert.new.self.0 c.insert-2.new.self.0 c.args.x (record { plus = c.args.plus; minus = c.args.minus; held = c.args.held })
    i.links.1 i.ends.1 c.insert-3.new.self.1 c.insert-2.new.self.1 c.self.invariant (rw (← c.self.view_is) at c.requires.absent) c.insert-3.ensures.values
    (rw c.socket_of.ensures at c.insert.ensures.values) (rw c.socket_of-2.ensures at c.insert-2.ensures.values) c.insert-3.ensures.rises (omega (arith, c.number_of-number.ensures, c.number_of-number.type_inv))
    (omega (arith, c.self.invariant.fits, c.insert.ensures.spare, c.insert-2.ensures.spare, c.insert-3.ensures.spare))

pub returns-clause-each : goal.returns-clause-each
returns-clause-each c = λ y.
    let i = c.self.inside in
    rw (← c.self.view_is) (sets_each i.links.0 c.insert-3.new.self.0 c.args.x (Some (record { plus = c.args.plus; minus = c.args.minus; held = c.args.held })) c.insert-3.ensures.values y)
