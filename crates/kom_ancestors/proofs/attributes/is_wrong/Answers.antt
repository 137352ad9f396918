use Rattle.std.proofs.Common.{refl, ap}
use Rattle.kom_rules.specs.Declaring.{has_wrong_attributes}
use Rattle.kom_tables.proofs.Attributed.{missing}
use Rattle.kom_ancestors.proofs.attributes.is_wrong.Goals as goal

pub returns-in-None : goal.returns-in-None
returns-in-None c = ap has_wrong_attributes (missing c.args.steps.now.names c.args.kind _ (rw c.as_slice.ensures at c.in-None.ensures) refl)
