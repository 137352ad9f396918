use Rattle.std.proofs.Common.{◌∷◌, [], ◌++◌, codes, arith}
use Rattle.kom_record.specs.Trace.{number, indented}
use Rattle.kom_lines.proofs.Texts.{one_more, all_lines}
use Rattle.kom_lines.proofs.lines.add_unreached.Goals as goal

pub loop-i-preserved : goal.loop-i-preserved
loop-i-preserved c =
    one_more (λ q. indented (codes "unreached" ++ number q) ++ 10 ∷ []) c.args.places.now c.loop-i.i 0 c.args.text.now c.loop-i.text c.add_unreached_at.new.text (omega arith) c.loop-i.invariant c.in_ok-add_unreached_at.ensures

pub returns : goal.returns
returns c = all_lines (λ q. indented (codes "unreached" ++ number q)) c.args.places.now c.loop-i.i c.args.text.now c.loop-i.text (omega arith) c.loop-i.invariant
