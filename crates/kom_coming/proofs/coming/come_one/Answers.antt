use Rattle.kom_state.specs.Parts.{state_of}
use Rattle.kom_coming.proofs.coming.come_one.Goals as goal

pub returns-clause-marked : goal.returns-clause-marked
returns-clause-marked c = c.mark_receiver.ensures.marked c.args.coming.now.no (state_of c.come.new.self) c.come.ensures.step
