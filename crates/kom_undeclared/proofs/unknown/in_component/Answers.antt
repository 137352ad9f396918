use Rattle.std.proofs.Common.{◌∙◌}
use Rattle.kom_rules.specs.Declaring.{unknown_types, unknown_inside}
use Rattle.kom_undeclared.proofs.Either.{both_first}
use Rattle.kom_undeclared.proofs.unknown.in_component.Goals as goal

pub returns : goal.returns
returns c =
    c.earlier.ensures
    ∙ both_first (unknown_types c.args.parts.now c.args.part.now) (unknown_inside c.args.parts.now c.args.part.now) _ _ (rw c.new.ensures.parts at c.types-types.ensures) c.in_ok-inside.ensures
