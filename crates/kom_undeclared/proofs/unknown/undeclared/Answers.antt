use Rattle.std.proofs.Common.{◌∙◌}
use Rattle.kom_rules.specs.Declaring.{unknown_in_types, unknown_in_components}
use Rattle.kom_undeclared.proofs.Either.{both_first}
use Rattle.kom_undeclared.proofs.unknown.undeclared.Goals as goal

pub returns : goal.returns
returns c =
    c.earlier.ensures
    ∙ both_first (unknown_in_types c.args.parts.now) (unknown_in_components c.args.parts.now) _ _ (rw c.new-file.ensures.parts at c.event_types.ensures) (rw c.new-file.ensures.parts at c.in_ok-inside.ensures)
