use Rattle.kompics.proofs.Promising.{promises}
use Rattle.kompics.proofs.running.records_promise.Goals as goal

pub returns : goal.returns
returns c = promises c.handlings_alternate.ensures c.outcomes_are_reactions.ensures c.each_in_order.ensures c.numbers_rise.ensures
    c.dead_channels_rest.ensures c.faults_reach_the_nearest.ensures c.escalations_reach_the_nearest.ensures c.states_are_handed_over.ensures c.receipts_are_handed_over.ensures
