use Rattle.kom_numbered.proofs.Numbering.{numbered}
use Rattle.kom_numbered.proofs.channels_are_numbered.Goals as goal

pub returns : goal.returns
returns c S done d k i e h = numbered S done d k i e h
