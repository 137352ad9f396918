use Rattle.std.proofs.Common.{Some, sym, arith}
use Rattle.kom_wiring.specs.Wires.{with_held}
use Rattle.kom_wiring.proofs.Plugging.{flagged, sets_each, link_is}
use Rattle.kom_wiring.proofs.wiring.Wiring.set_held.Goals as goal

pub invariant_of-self : goal.invariant_of-self
invariant_of-self c =
    let i = c.self.inside in
    flagged i.links.0 c.swap.new.self.0 i.ends.0 c.args.x c.in-Some.link.now c.args.held
    i.links.1 i.ends.1 c.swap.new.self.1 i.ends.1 c.self.invariant (sym c.in-Some.ensures.value) (rw c.marked-next.ensures at c.swap.ensures.values) c.swap.ensures.rises
    (omega (arith, c.self.invariant.fits, c.swap.ensures.spare))

pub returns-in-Some-clause-each : goal.returns-in-Some-clause-each
returns-in-Some-clause-each c = λ y.
    let i = c.self.inside in
    let link = link_is i.links.0 c.args.x c.in-Some.link.now (sym c.in-Some.ensures.value) in
    rw (← c.self.view_is, link) (sets_each i.links.0 c.swap.new.self.0 c.args.x (Some (with_held c.in-Some.link.now c.args.held)) (rw c.marked-next.ensures at c.swap.ensures.values) y)
