use Rattle.kom_dones.proofs.Unsettled.{is_recorded}
use Rattle.kom_dones.proofs.dones_are_recorded.Goals as goal

pub returns : goal.returns
returns c w at hand old body effects near to places v o due e = is_recorded c.dones_are_told.ensures w at hand old body effects near to places v due o e
