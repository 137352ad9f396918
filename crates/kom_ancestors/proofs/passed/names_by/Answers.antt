use Rattle.std.proofs.Common.{◌∙◌, refl, sym, ap}
use Rattle.kom_tables.proofs.Attributed.{missing}
use Rattle.kom_ancestors.specs.Passed.{names_by}
use Rattle.kom_ancestors.proofs.passed.names_by.Goals as goal

pub returns-in-None : goal.returns-in-None
returns-in-None c = missing c.args.names.now c.in-Some.kind _ (rw c.as_slice.ensures at c.in-None.ensures) refl ∙ ap (names_by c.args.names.now) (sym c.in-Some.is)
