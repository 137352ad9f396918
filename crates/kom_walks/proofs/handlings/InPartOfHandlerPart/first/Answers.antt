use Rattle.kom_rules.specs.Names.{names_of, each_once}
use Rattle.kom_rules.specs.Spaces.{parameters}
use Rattle.kom_walks.proofs.handlings.InPartOfHandlerPart.first.Goals as goal

pub returns : goal.returns
returns g c = rw c.as_slice.ensures at (c.first_in_block.ensures (each_once (names_of (parameters c.args.handler.now.on))))
