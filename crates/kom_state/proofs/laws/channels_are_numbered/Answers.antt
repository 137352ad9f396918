use Rattle.kom_state.proofs.Numbered.{channels_are_numbered}
use Rattle.kom_state.proofs.laws.channels_are_numbered.Goals as goal

pub returns : goal.returns
returns c = channels_are_numbered
