use Rattle.kom_limits.proofs.Counting.{numbers_are_enough}
use Rattle.kom_limits.proofs.numbers_are_enough.Goals as goal

pub returns : goal.returns
returns c = numbers_are_enough
