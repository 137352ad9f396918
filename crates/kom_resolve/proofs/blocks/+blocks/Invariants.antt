use Rattle.std.proofs.Common.{◌≡◌, ◌+◌, ◌*◌, ◌-◌, take}
use Rattle.kom_walks.proofs.Blocks.{afters}
use Rattle.kom_resolve.specs.Resolved.{row_value, block_value}
use Rattle.kom_resolve.proofs.blocks.+blocks.Given as goal

abbrev pub invariant-block-loop-part : goal.invariant-block-loop-part
invariant-block-loop-part l =
    (l.scope ≡ afters l.initial.scope (take l.part-index l.parts))
    × (l.values ≡ row_value l.handling.parts.now l.handling.part.now l.handling.on.now (block_value l.handling.parts.now l.handling.part.now l.handling.on.now (l.levels - 1)) l.initial.scope (take l.part-index l.parts))

abbrev pub decreases-block : goal.decreases-block
decreases-block l = 3 * l.levels

abbrev pub decreases-other_block : goal.decreases-other_block
decreases-other_block l = 3 * l.levels + 1

abbrev pub decreases-statement : goal.decreases-statement
decreases-statement l = 3 * l.levels + 2
