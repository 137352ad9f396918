use Rattle.kom_changes.proofs.Created.{ends_are_at_created}
use Rattle.kom_changes.proofs.laws.ends_are_at_created.Goals as goal

pub returns : goal.returns
returns c = ends_are_at_created
