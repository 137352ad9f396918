use Rattle.std.proofs.Common.{pos, arith}
use Rattle.std.specs.Fmt.{signed_decimal}
use Rattle.kom_record.specs.Trace.{word}
use Rattle.kom_lines.proofs.Texts.{one_more}
use Rattle.kom_lines.proofs.text.Text.add_numbers.Goals as goal

pub loop-i-preserved : goal.loop-i-preserved
loop-i-preserved c =
    one_more (λ v. word (signed_decimal v)) c.args.values.now c.loop-i.i (pos 0) c.args.self.now c.loop-i.self c.add_value_at.new.self (omega arith) c.loop-i.invariant c.in_ok-add_value_at.ensures
