use Rattle.kom_limits.proofs.Small.{trees_are_small}
use Rattle.kom_limits.proofs.trees_are_small.Goals as goal

pub returns : goal.returns
returns c = trees_are_small
