use Rattle.kom_text.proofs.Firsts.{none-in-empty}
use Rattle.kom_text.proofs.law.ends_stuck.Goals as goal

pub returns : goal.returns
returns c = none-in-empty
