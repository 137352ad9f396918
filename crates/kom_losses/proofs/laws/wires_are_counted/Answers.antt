use Rattle.kom_losses.proofs.Wires.{wires_are_counted}
use Rattle.kom_losses.proofs.laws.wires_are_counted.Goals as goal

pub returns : goal.returns
returns c = wires_are_counted
