use Rattle.std.proofs.Common.{arith}
use Rattle.kom_lang.specs.Declarations.{kind_of}
use Rattle.kom_system.proofs.Limits.{few-handlers}
use Rattle.kom_system.proofs.system.System.body_of.Goals as goal

pub subs-requires : goal.subs-requires
subs-requires c =
    let few = few-handlers c.args.self.now.declarations (kind_of c.args.self.now.declarations c.args.kind) c.kind-declared.ensures.fits.parts in
    rw c.kind-declared.ensures.value (omega (arith, few))
