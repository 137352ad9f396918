use Rattle.kom_apart.proofs.Spaces.{accepted_once}
use Rattle.kom_apart.proofs.law.accepted_are_apart.Goals as goal

pub returns : goal.returns
returns c text P d e = accepted_once text P d e
