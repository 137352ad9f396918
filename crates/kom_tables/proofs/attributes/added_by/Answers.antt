use Rattle.std.proofs.Common.{◌∙◌, refl}
use Rattle.kom_tables.proofs.Attributed.{missing}
use Rattle.kom_tables.proofs.attributes.added_by.Goals as goal

pub returns-in-None : goal.returns-in-None
returns-in-None c = c.new.ensures ∙ missing c.args.own.now c.args.kind _ c.in-None.ensures refl
