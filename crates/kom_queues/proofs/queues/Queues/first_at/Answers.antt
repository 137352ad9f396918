use Rattle.std.proofs.Common.{None, subst}
use Rattle.kom_queues.specs.Fronts.{waits_for}
use Rattle.kom_queues.specs.Sound.{IsFirstAt}
use Rattle.kom_queues.proofs.Firsts.{none_found, found_first}
use Rattle.kom_queues.proofs.queues.Queues.first_at.Goals as goal

pub returns-in-Some : goal.returns-in-Some
returns-in-Some c =
    let i = c.self.inside in
    let least = c.in-Some.ensures.least in
    rw c.found.ensures (subst (λ m. IsFirstAt m c.args.c (waits_for c.in-Some.front.now c.args.c)) c.self.view_is
    (found_first i.slots.0 i.fronts.0 c.self.invariant c.args.c c.in-Some.front.now least.0 least.1 least.2))

pub returns-in-None : goal.returns-in-None
returns-in-None c =
    let i = c.self.inside in
    subst (λ m. IsFirstAt m c.args.c None) c.self.view_is (none_found i.slots.0 i.fronts.0 c.self.invariant c.args.c c.in-None.ensures.least)
