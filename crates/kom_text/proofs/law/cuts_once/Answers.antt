use Rattle.kom_text.proofs.Once.{cut-once}
use Rattle.kom_text.proofs.law.cuts_once.Goals as goal

pub returns : goal.returns
returns c = cut-once
