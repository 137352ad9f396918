use Rattle.std.proofs.Common.{arith}
use Rattle.kom_wiring.proofs.Plugging.{less_room}
use Rattle.kom_wiring.proofs.wiring.Wiring.reserve.Goals as goal

pub invariant_of-self : goal.invariant_of-self
invariant_of-self c = rw c.reserve.ensures.same (less_room c.self.invariant c.self.inside.links.1 c.reserve.new.self.1 (omega (arith, c.self.invariant.fits, c.reserve.ensures.not_less)))

pub invariant_of-self-2 : goal.invariant_of-self-2
invariant_of-self-2 c =
    rw (c.reserve.ensures.same, c.reserve-2.ensures.same) (less_room c.self.invariant c.reserve-2.new.self.1 c.reserve.new.self.1
    (omega (arith, c.self.invariant.fits, c.reserve.ensures.not_less, c.in_ok-reserve.ensures.ok, c.reserve-2.ensures.not_more, c.in-Some.ensures)))
