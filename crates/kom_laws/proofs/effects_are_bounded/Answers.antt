use Rattle.kom_laws.proofs.EffectLaws.{bounded}
use Rattle.kom_laws.proofs.effects_are_bounded.Goals as goal

pub returns : goal.returns
returns c S b item body effects r = bounded S b item body effects r
