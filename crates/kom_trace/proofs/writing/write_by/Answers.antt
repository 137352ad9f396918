use Rattle.std.proofs.Common.{◌++◌, ◌∷◌, [], sym, subst}
use Rattle.std.specs.Prelude.{codes}
use Rattle.kom_io.specs.Texts.{AddsPrefix}
use Rattle.kom_record.specs.Trace.{record_lines, joined}
use Rattle.kom_trace.specs.Seen.{end_text, Traces}
use Rattle.kom_trace.proofs.Written.{next_piece, front, text_is}
use Rattle.kom_trace.proofs.writing.write_by.Goals as goal

pub returns-in-Whole-clause-written : goal.returns-in-Whole-clause-written
returns-in-Whole-clause-written g c =
    let R = c.args.kept.now.history in
    let Z = c.args.plan.now in
    let S = c.args.scribe.now.names.declarations in
    let names = c.args.scribe.now.names.event_names in
    let title = codes "trace 1" ++ 10 ∷ [] in
    let before = g.K.Sink.written c.args.sink.now in
    let mid = g.K.Sink.written c.write_title.new.sink in
    let after = g.K.Sink.written c.write_lines.new.sink in
    subst (λ t. Traces c.write_lines.result t before after) (sym (text_is names S Z R))
    (next_piece c.write_lines.result title (joined (record_lines names S R) ++ end_text S Z R) before mid after
    (subst (λ r. Traces r title before mid) c.in-Whole.is c.write_title.ensures.written) c.write_lines.ensures.written)

pub returns-in-WriteFault-clause-written : goal.returns-in-WriteFault-clause-written
returns-in-WriteFault-clause-written g c =
    let R = c.args.kept.now.history in
    let Z = c.args.plan.now in
    let S = c.args.scribe.now.names.declarations in
    let names = c.args.scribe.now.names.event_names in
    let title = codes "trace 1" ++ 10 ∷ [] in
    let before = g.K.Sink.written c.args.sink.now in
    let mid = g.K.Sink.written c.write_title.new.sink in
    subst (λ t. AddsPrefix t before mid) (sym (text_is names S Z R))
    (front title (joined (record_lines names S R) ++ end_text S Z R) before mid (subst (λ r. Traces r title before mid) c.in-WriteFault.is c.write_title.ensures.written))

pub returns-in-Memory-clause-written : goal.returns-in-Memory-clause-written
returns-in-Memory-clause-written g c =
    let R = c.args.kept.now.history in
    let Z = c.args.plan.now in
    let S = c.args.scribe.now.names.declarations in
    let names = c.args.scribe.now.names.event_names in
    let title = codes "trace 1" ++ 10 ∷ [] in
    let before = g.K.Sink.written c.args.sink.now in
    let mid = g.K.Sink.written c.write_title.new.sink in
    subst (λ t. AddsPrefix t before mid) (sym (text_is names S Z R))
    (front title (joined (record_lines names S R) ++ end_text S Z R) before mid (subst (λ r. Traces r title before mid) c.in-Memory.is c.write_title.ensures.written))
