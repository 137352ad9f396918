use Rattle.std.proofs.Common.{None, arith}
use Rattle.kom_base.specs.declared.numbers.Dir.TheVariants.{Plus}
use Rattle.kom_wiring.proofs.Plugging.{removed, sets_each, socket_at, plugs_link}
use Rattle.kom_wiring.proofs.wiring.Wiring.remove.Goals as goal

pub remove-requires : goal.remove-requires
remove-requires c =
    let i = c.self.inside in
    rw c.socket_of.ensures (c.self.invariant.complete (socket_at c.remove-link.result c.args.x Plus) (plugs_link i.links.0 c.remove-link.result c.args.x Plus c.remove-link.ensures.value))

pub invariant_of-self : goal.invariant_of-self
invariant_of-self c =
    let i = c.self.inside in
    removed i.links.0 c.remove-link.new.self.0 i.ends.0 c.remove.new.self.0 c.remove-2.new.self.0 c.args.x c.remove-link.result
    i.links.1 i.ends.1 c.remove-link.new.self.1 c.remove-2.new.self.1 c.self.invariant c.remove-link.ensures.value c.remove-link.ensures.values
    (rw c.socket_of.ensures at c.remove.ensures.values) (rw c.socket_of-2.ensures at c.remove-2.ensures.values) c.remove-link.ensures.rises
    (omega (arith, c.self.invariant.fits, c.remove.ensures.spare, c.remove-2.ensures.spare, c.remove-link.ensures.spare))

pub returns-clause-each : goal.returns-clause-each
returns-clause-each c = λ y.
    let i = c.self.inside in
    rw (← c.self.view_is) (sets_each i.links.0 c.remove-link.new.self.0 c.args.x None c.remove-link.ensures.values y)
