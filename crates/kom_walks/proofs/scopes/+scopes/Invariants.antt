use Rattle.std.proofs.Common.{◌≡◌, ◌+◌, ◌*◌, ◌-◌, take}
use Rattle.std.specs.List.{flat_map}
use Rattle.kom_rules.specs.Names.{first_place}
use Rattle.kom_rules.specs.Walks.{standing, in_row}
use Rattle.kom_walks.proofs.Blocks.{afters}
use Rattle.kom_walks.proofs.scopes.+scopes.Given as goal

abbrev pub invariant-first_in_scope-loop-stmt : goal.invariant-first_in_scope-loop-stmt
invariant-first_in_scope-loop-stmt g l =
    (l.scope ≡ afters l.initial.scope (take l.stmt-index l.block))
    × (l.first ≡ first_place (flat_map (λ x. g.S.InScope.of l.says x.scope x.stmt) (in_row (standing (l.levels - 1)) l.initial.scope (take l.stmt-index l.block))))

abbrev pub decreases-first_in_scope : goal.decreases-first_in_scope
decreases-first_in_scope g l = 3 * l.levels

abbrev pub decreases-first_in_else : goal.decreases-first_in_else
decreases-first_in_else g l = 3 * l.levels + 1

abbrev pub decreases-first_with_inside : goal.decreases-first_with_inside
decreases-first_with_inside g l = 3 * l.levels + 2
