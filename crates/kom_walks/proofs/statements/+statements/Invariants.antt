use Rattle.std.proofs.Common.{◌≡◌, ◌-◌, take, List}
use Rattle.std.specs.List.{flat_map}
use Rattle.kom_rules.specs.Names.{Name, first_place}
use Rattle.kom_rules.specs.Walks.{standing, in_row}
use Rattle.kom_walks.proofs.statements.+statements.Given as goal

abbrev pub invariant-first_in_block-loop-stmt : goal.invariant-first_in_block-loop-stmt
invariant-first_in_block-loop-stmt g l = (scope : List Name) → l.first ≡ first_place (flat_map (λ x. g.S.OfStatement.of l.says x.stmt) (in_row (standing (l.levels - 1)) scope (take l.stmt-index l.block)))
