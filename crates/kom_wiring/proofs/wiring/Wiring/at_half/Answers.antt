use Rattle.kom_wiring.specs.Wires.{plugged_at}
use Rattle.kom_wiring.proofs.Firsts.{from_zero}
use Rattle.kom_wiring.proofs.wiring.Wiring.at_half.Goals as goal

pub returns-clause-channels : goal.returns-clause-channels
returns-clause-channels c = from_zero (plugged_at c.args.half c.args.self.now.links)
