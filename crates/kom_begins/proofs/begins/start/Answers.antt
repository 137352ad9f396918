use Rattle.kom_begins.specs.Begun.{IsStarted}
use Rattle.kom_begins.proofs.begins.start.Goals as goal

pub returns : goal.returns
unfolding IsStarted
returns c = (c.in_ok-state.ensures.stands, c.in_ok-state.ensures.numbers)
