use Rattle.kom_dones.proofs.Unsettled.{unsettled}
use Rattle.kom_dones.proofs.dones_unsettle.Goals as goal

pub returns : goal.returns
returns c w at hand old body effects near to places v n s due t =
    unsettled c.handlings_end.ensures c.follows_a_did.ensures c.busy_goes_on.ensures c.counts_go_on.ensures c.unmarked_stay.ensures c.dones_are_told.ensures
    w at hand old body effects near to places v n s due t
