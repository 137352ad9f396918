use Rattle.kom_numbered.proofs.Numbering.{halves}
use Rattle.kom_numbered.proofs.halves_by_state.Goals as goal

pub returns : goal.returns
returns c S p m d place s a = halves S p m d place s a
