use Rattle.std.proofs.Common.{◌∙◌, sym, arith}
use Rattle.kom_check.proofs.Reporting.{broken_here, kept_next}
use Rattle.kom_check.proofs.reported.first_broken.Goals as goal

pub returns-in-Some : goal.returns-in-Some
returns-in-Some c = broken_here c.args.parts.now c.loop-number.number c.in-Some.at (omega arith) (omega arith) (sym c.in-Some.is ∙ c.in_ok-at.ensures) c.loop-number.invariant

pub loop-number-preserved : goal.loop-number-preserved
loop-number-preserved c = kept_next c.args.parts.now c.loop-number.number (omega arith) (omega arith) (sym c.in_default.is ∙ c.in_ok-at.ensures) c.loop-number.invariant
