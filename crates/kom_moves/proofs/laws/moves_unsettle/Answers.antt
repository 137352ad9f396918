use Rattle.kom_moves.proofs.Moving as proof
use Rattle.kom_moves.proofs.laws.moves_unsettle.Goals as goal

pub returns : goal.returns
returns c = proof.unsettled c.batches_are_at_ports.ensures c.releases_are_counted.ensures c.releases_come_in.ensures c.moved_follows.ensures c.numbers_stay.ensures c.follows_a_moved.ensures
    c.unmarked_stay.ensures c.busy_goes_on.ensures c.comings_leave.ensures c.counts_go_on.ensures c.out_is_counted.ensures c.queued_is_counted.ensures
