use Rattle.std.proofs.Common.{◌∙◌, ◌-◌, ap, List, length, take}
use Rattle.kom_lang.specs.declared.stmt.Stmt.{out-Stmt}
use Rattle.kom_record.specs.Trace.{Text}
use Rattle.kom_sysprint.specs.Canonical.{after, statements_text}
use Rattle.kom_sysprint.proofs.Blocks.{afters_more, row_more, scope_back}
use Rattle.kom_sysprint.proofs.stmts.+blocks.Goals as goal

pub add_statements-loop-stmt-preserved : goal.add_statements-loop-stmt-preserved
add_statements-loop-stmt-preserved t c = (
  afters_more c.args.scope.now.items c.loop-stmt.scope.items c.enter.new.scope.items c.args.block.now c.loop-stmt.stmt-index c.stmt-item.result c.loop-stmt-test.true c.stmt-item.is c.loop-stmt.invariant.0
      (c.in_ok-enter.ensures ∙ ap (λ s. after s (out-Stmt c.stmt-item.result)) c.in_ok-add_statement.ensures.same_scope),
  row_more c.args.setting.now.names.now c.args.setting.now.kind.now c.args.setting.now.on.now
      (statements_text c.args.setting.now.names.now c.args.setting.now.kind.now c.args.setting.now.on.now (c.args.levels - 1)) c.args.scope.now.items c.loop-stmt.scope.items c.args.block.now c.loop-stmt.stmt-index c.stmt-item.result c.args.text.now c.loop-stmt.text c.add_statement.new.text
      c.loop-stmt-test.true c.stmt-item.is c.loop-stmt.invariant.0 c.loop-stmt.invariant.1 c.in_ok-add_statement.ensures.text,
)

pub add_statements-returns-clause-same_scope : goal.add_statements-returns-clause-same_scope
add_statements-returns-clause-same_scope t c =
    c.truncate.ensures.items ∙ ap (λ (xs : List Text). take (length xs) c.loop-stmt.scope.items) c.as_slice-count.ensures.value ∙ scope_back c.args.scope.now.items c.loop-stmt.scope.items (take c.loop-stmt.stmt-index c.args.block.now) c.loop-stmt.invariant.0
