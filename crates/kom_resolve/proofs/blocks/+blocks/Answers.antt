use Rattle.std.proofs.Common.{◌∙◌, ap, take, ◌-◌}
use Rattle.kom_system.specs.declared.parts.StmtPart.{out-StmtPart}
use Rattle.kom_rules.specs.Walks.{after}
use Rattle.kom_walks.proofs.Blocks.{scope_back, afters_more}
use Rattle.kom_resolve.specs.Resolved.{block_value}
use Rattle.kom_resolve.proofs.Rows.{row_more}
use Rattle.kom_resolve.proofs.blocks.+blocks.Goals as goal

pub block-loop-part-preserved : goal.block-loop-part-preserved
block-loop-part-preserved t c = (
  afters_more c.args.scope.now c.loop-part.scope c.enter.new.scope c.args.parts.now c.loop-part.part-index c.part-item.result c.loop-part-test.true c.part-item.is c.loop-part.invariant.0
      (c.in_ok-enter.ensures ∙ ap (λ s. after s (out-StmtPart c.part-item.result)) c.in_ok-statement.ensures.same_scope),
  row_more c.args.handling.now.parts.now c.args.handling.now.part.now c.args.handling.now.on.now (block_value c.args.handling.now.parts.now c.args.handling.now.part.now c.args.handling.now.on.now (c.args.levels - 1)) c.args.scope.now c.loop-part.scope c.args.parts.now c.loop-part.part-index c.part-item.result c.loop-part.values _ _
      c.loop-part-test.true c.part-item.is c.loop-part.invariant.0 c.loop-part.invariant.1 c.in_ok-statement.ensures.value c.in_ok-push.ensures.ok,
)

pub block-returns-clause-same_scope : goal.block-returns-clause-same_scope
block-returns-clause-same_scope t c =
    c.truncate.ensures ∙ ap (λ n. take n c.loop-part.scope) c.len-count.ensures ∙ scope_back c.args.scope.now c.loop-part.scope (take c.loop-part.part-index c.args.parts.now) c.loop-part.invariant.0
