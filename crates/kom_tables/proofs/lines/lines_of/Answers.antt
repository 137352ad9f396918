use Rattle.std.proofs.Common.{arith}
use Rattle.kom_tables.proofs.Ancestors.{lines_whole}
use Rattle.kom_tables.proofs.lines.lines_of.Goals as goal

pub returns : goal.returns
returns c = lines_whole c.args.parents.now c.loop-kind.lines (omega arith) (λ b h. c.loop-kind.invariant.each b (omega (arith, h)))
