use Rattle.std.proofs.Common.{◌∙◌}
use Rattle.kom_resolve.proofs.Numbered.{found_is, missing_is}
use Rattle.kom_resolve.proofs.numbers.number_or.Goals as goal

pub returns-in-Some : goal.returns-in-Some
returns-in-Some c names has long = found_is names c.args.spot.now.name c.in-Some.number ((rw c.bytes.ensures at c.in-Some.ensures) ∙ has c.args.spot.now.name)

pub returns-in-None : goal.returns-in-None
returns-in-None c names has long = missing_is names c.args.spot.now.name c.args.count ((rw c.bytes.ensures at c.in-None.ensures) ∙ has c.args.spot.now.name) long
