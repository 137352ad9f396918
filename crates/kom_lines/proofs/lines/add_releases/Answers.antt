use Rattle.std.proofs.Common.{◌∷◌, [], ◌++◌, arith}
use Rattle.std.specs.List.{enumerate_from}
use Rattle.std.proofs.lemmas.List.FromFn.{length-enumerate_from}
use Rattle.kom_record.specs.Trace.{release_line}
use Rattle.kom_lines.proofs.Texts.{one_more_placed, all_lines}
use Rattle.kom_lines.proofs.lines.add_releases.Goals as goal

pub loop-i-preserved : goal.loop-i-preserved
loop-i-preserved c =
    one_more_placed (λ r. release_line c.args.names.now.event_names c.args.names.now.declarations r ++ 10 ∷ []) c.args.released.now c.loop-i.i (record { chan = 0; event = record { kind = 0; values = [] } }) c.args.text.now c.loop-i.text c.add_release_at.new.text (omega arith) c.loop-i.invariant c.in_ok-add_release_at.ensures

pub returns : goal.returns
returns c =
    all_lines (release_line c.args.names.now.event_names c.args.names.now.declarations) (enumerate_from 0 c.args.released.now) c.loop-i.i c.args.text.now c.loop-i.text
    (omega (arith, length-enumerate_from 0 c.args.released.now)) c.loop-i.invariant
