use Rattle.std.proofs.Common.{◌∙◌}
use Rattle.std.specs.List.{flat_map}
use Rattle.kom_rules.specs.Walks.{statements}
use Rattle.kom_rules.specs.Declaring.{unknown_in_on, unknown_at}
use Rattle.kom_undeclared.proofs.Either.{both_first}
use Rattle.kom_undeclared.proofs.site.Site.in_handler.Goals as goal

pub returns : goal.returns
returns c =
    c.earlier.ensures
    ∙ both_first (unknown_in_on c.args.self.now.parts.now c.args.self.now.part.now c.args.handler.now.on)
    (flat_map (unknown_at c.args.self.now.parts.now c.args.self.now.part.now) (statements c.args.handler.now)) _ _ c.on-of_on.ensures
    (rw (c.in_ok-scope.ensures, c.as_slice-block.ensures) at c.in_ok-of_block.ensures.first)
