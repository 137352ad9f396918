use Rattle.kom_dones.proofs.Lawful.{legal}
use Rattle.kom_dones.proofs.dones_are_legal.Goals as goal

pub returns : goal.returns
returns c w at hand old body effects near to places v s due = legal c.dones_are_told.ensures w at hand old body effects near to places v due s
