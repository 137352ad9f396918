use Rattle.kom_state.specs.Parts.{state_of}
use Rattle.kom_births.proofs.Room.{no_less_again, queue_more, same_again}
use Rattle.kom_births.proofs.rooms.reserve_queues.Goals as goal

pub loop-x-preserved : goal.loop-x-preserved
loop-x-preserved c = record {
  same = same_again (state_of c.args.state.now) (state_of c.loop-x.state) (state_of c.reserve_queue.new.self) c.loop-x.invariant.same c.in_ok-reserve_queue.ensures.same;
  not_less = no_less_again c.args.state.now c.loop-x.state c.reserve_queue.new.self c.loop-x.invariant.not_less c.in_ok-reserve_queue.ensures.not_less;
  queues = queue_more c.args.first c.loop-x.x c.loop-x.state c.reserve_queue.new.self c.in_ok-reserve_queue.ensures.not_less c.loop-x.invariant.queues c.in_ok-reserve_queue.ensures.slot;
}

pub returns-in_err-reserve_queue-clause-same : goal.returns-in_err-reserve_queue-clause-same
returns-in_err-reserve_queue-clause-same c = same_again (state_of c.args.state.now) (state_of c.loop-x.state) (state_of c.reserve_queue.new.self) c.loop-x.invariant.same c.reserve_queue.ensures.same

pub returns-in_err-reserve_queue-clause-not_less : goal.returns-in_err-reserve_queue-clause-not_less
returns-in_err-reserve_queue-clause-not_less c = no_less_again c.args.state.now c.loop-x.state c.reserve_queue.new.self c.loop-x.invariant.not_less c.reserve_queue.ensures.not_less
