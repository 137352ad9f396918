use Rattle.kom_spaced.proofs.Reading.{reads}
use Rattle.kom_spaced.proofs.law.spaced_is_read.Goals as goal

pub returns : goal.returns
returns c ts h = reads ts h
