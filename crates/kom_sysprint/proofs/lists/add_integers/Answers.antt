use Rattle.std.proofs.Common.{◌++◌, pos, codes, arith}
use Rattle.kom_sysprint.specs.Canonical.{between, integer}
use Rattle.kom_sysprint.proofs.Pieces.{one_more_placed, all_placed}
use Rattle.kom_sysprint.proofs.lists.add_integers.Goals as goal

pub loop-i-preserved : goal.loop-i-preserved
loop-i-preserved c =
    one_more_placed (λ p. between (codes ", ") p.0 ++ integer p.1) c.args.values.now c.loop-i.i (pos 0) c.args.text.now c.loop-i.text c.add_value_at.new.text (omega arith) c.loop-i.invariant c.in_ok-add_value_at.ensures

pub returns : goal.returns
returns c = all_placed (λ p. between (codes ", ") p.0 ++ integer p.1) c.args.values.now c.loop-i.i c.args.text.now c.loop-i.text (omega arith) c.loop-i.invariant
