use Rattle.std.proofs.Common.{◌≡◌, take}
use Rattle.std.specs.List.{flat_map}
use Rattle.kom_rules.specs.Names.{first_place}
use Rattle.kom_rules.specs.Walks.{in_expr}
use Rattle.kom_walks.proofs.expressions.first_in_list.Given as goal

abbrev pub invariant-loop-expr : goal.invariant-loop-expr
invariant-loop-expr g l = l.first ≡ first_place (flat_map (in_expr (g.S.OfNames.name l.says) (g.S.OfNames.it l.says)) (take l.expr-index l.exprs))
