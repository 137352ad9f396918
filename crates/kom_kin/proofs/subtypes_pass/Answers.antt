use Rattle.kom_kin.proofs.Descents.{passes-more}
use Rattle.kom_kin.proofs.subtypes_pass.Goals as goal

pub returns : goal.returns
returns c h e = passes-more c.args.types.now c.args.ports.now c.args.port c.args.dir c.args.a c.args.b h e
