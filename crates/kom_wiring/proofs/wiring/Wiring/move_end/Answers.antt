use Rattle.std.proofs.Common.{Some, sym, arith}
use Rattle.kom_wiring.specs.Wires.{with_end}
use Rattle.kom_wiring.proofs.Plugging.{moved, absent_moved, sets_each, link_is}
use Rattle.kom_wiring.proofs.wiring.Wiring.move_end.Goals as goal

pub insert-requires-clause-absent : goal.insert-requires-clause-absent
insert-requires-clause-absent c =
    let i = c.self.inside in
    rw c.socket_of.ensures (absent_moved i.links.0 i.ends.0 c.remove.new.self.0 c.args.x c.in-Some.link.now c.args.end _ i.links.1 i.ends.1 c.self.invariant (sym c.in-Some.ensures.value) (rw c.socket_of-from.ensures at c.remove.ensures.values))

pub invariant_of-self : goal.invariant_of-self
invariant_of-self c =
    let i = c.self.inside in
    moved i.links.0 c.swap.new.self.0 i.ends.0 c.remove.new.self.0 c.insert.new.self.0 c.args.x c.in-Some.link.now c.args.end c.args.at
    i.links.1 i.ends.1 c.swap.new.self.1 c.insert.new.self.1 c.self.invariant (sym c.in-Some.ensures.value) (rw c.moved-next.ensures at c.swap.ensures.values)
    (rw c.socket_of-from.ensures at c.remove.ensures.values) (rw (c.socket_of.ensures, c.moved-next.ensures) at c.insert.ensures.values) c.swap.ensures.rises
    (omega (arith, c.self.invariant.fits, c.remove.ensures.spare, c.insert.ensures.spare, c.swap.ensures.spare))

pub returns-in-Some-clause-each : goal.returns-in-Some-clause-each
returns-in-Some-clause-each c = λ y.
    let i = c.self.inside in
    let link = link_is i.links.0 c.args.x c.in-Some.link.now (sym c.in-Some.ensures.value) in
    rw (← c.self.view_is, link) (sets_each i.links.0 c.swap.new.self.0 c.args.x (Some (with_end c.in-Some.link.now c.args.end c.args.at)) (rw c.moved-next.ensures at c.swap.ensures.values) y)
