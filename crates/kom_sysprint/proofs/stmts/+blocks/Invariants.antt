use Rattle.std.proofs.Common.{◌≡◌, ◌+◌, ◌*◌, ◌-◌, ◌++◌, take}
use Rattle.kom_sysprint.specs.Canonical.{row_text, statements_text}
use Rattle.kom_sysprint.proofs.Blocks.{afters}
use Rattle.kom_sysprint.proofs.stmts.+blocks.Given as goal

abbrev pub invariant-add_statements-loop-stmt : goal.invariant-add_statements-loop-stmt
invariant-add_statements-loop-stmt l =
    (l.scope.items ≡ afters l.initial.scope.items (take l.stmt-index l.block))
    × (l.text ≡ l.initial.text ++ row_text l.setting.names.now l.setting.kind.now l.setting.on.now (statements_text l.setting.names.now l.setting.kind.now l.setting.on.now (l.levels - 1)) l.initial.scope.items (take l.stmt-index l.block))

abbrev pub decreases-add_statements : goal.decreases-add_statements
decreases-add_statements l = 4 * l.levels

abbrev pub decreases-add_block : goal.decreases-add_block
decreases-add_block l = 4 * l.levels + 1

abbrev pub decreases-add_else : goal.decreases-add_else
decreases-add_else l = 4 * l.levels + 2

abbrev pub decreases-add_statement : goal.decreases-add_statement
decreases-add_statement l = 4 * l.levels + 3
