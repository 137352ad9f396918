use Rattle.std.proofs.Common.{ap}
use Rattle.kom_plain.proofs.Over.{over_some, over_none}
use Rattle.kom_plain.proofs.limits.first_over.Goals as goal

pub returns-in-Some : goal.returns-in-Some
returns-in-Some g c = over_some g.T.Declares.named c.args.parts.now c.args.limit c.in-Some.part.now _ c.in-Some.ensures (ap (λ s. s.at) c.spot.ensures)

pub returns-in-None : goal.returns-in-None
returns-in-None g c = over_none g.T.Declares.named c.args.parts.now c.args.limit c.in-None.ensures
