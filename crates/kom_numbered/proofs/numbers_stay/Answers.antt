use Rattle.kom_numbered.proofs.Numbering.{stay}
use Rattle.kom_numbered.proofs.numbers_stay.Goals as goal

pub returns : goal.returns
returns c S mine done d h = stay S mine done d h
