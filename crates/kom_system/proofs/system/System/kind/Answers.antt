use Rattle.kom_system.specs.Contents.{contents_of}
use Rattle.kom_system.proofs.Limits.{kind-at}
use Rattle.kom_system.proofs.system.System.kind.Goals as goal

pub returns-clause-fits : goal.returns-clause-fits
returns-clause-fits c = kind-at (contents_of c.self.inside.declared) c.args.self.now c.self.view_is c.self.invariant.0 c.args.k c.requires
