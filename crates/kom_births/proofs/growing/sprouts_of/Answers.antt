use Rattle.kom_births.proofs.Trees.{from_nothing}
use Rattle.kom_births.proofs.growing.sprouts_of.Goals as goal

pub returns : goal.returns
returns c = from_nothing c.args.system.now.declarations c.args.number 16 c.args.top c.new-sprouts.result.items c.grow.new.sprouts.items c.new-sprouts.ensures.items c.in_ok-grow.ensures
