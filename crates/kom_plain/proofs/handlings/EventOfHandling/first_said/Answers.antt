use Rattle.std.proofs.Common.{ℕ, Bool, not, [], ◌∙◌, ap}
use Rattle.kom_system.specs.declared.parts.Spot.{Spot}
use Rattle.kom_system.specs.declared.parts.StmtPart.{out-StmtPart}
use Rattle.kom_rules.specs.Names.{first_place, at_if}
use Rattle.kom_rules.specs.Walks.{in_expressions}
use Rattle.kom_plain.proofs.handlings.EventOfHandling.first_said.Goals as goal

pub returns : goal.returns
returns c =
    c.first_in_expressions.ensures
    ∙ ap (λ (b : Bool). first_place (in_expressions (λ (s : Spot). []) (λ (a : ℕ) (s : Spot). at_if (not b) a) (out-StmtPart c.args.stmt.now))) c.is_event.ensures
