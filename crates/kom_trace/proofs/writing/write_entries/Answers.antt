use Rattle.std.proofs.Common.{subst}
use Rattle.kom_record.specs.Trace.{record_lines, joined}
use Rattle.kom_trace.specs.Seen.{Gathers}
use Rattle.kom_trace.proofs.Written.{gathered_all}
use Rattle.kom_trace.proofs.writing.write_entries.Goals as goal

pub returns-in-Whole-clause-written : goal.returns-in-Whole-clause-written
returns-in-Whole-clause-written g c Z h l =
    let lines = joined (record_lines c.args.scribe.now.names.event_names c.args.scribe.now.names.declarations c.args.kept.now.history) in
    let before = g.K.Sink.written c.args.sink.now in
    let mid = g.K.Sink.written c.gather_entries.new.sink in
    gathered_all c.write_piece.result lines c.gather_entries.new.text before mid (g.K.Sink.written c.write_piece.new.sink)
    (subst (λ r. Gathers r lines c.gather_entries.new.text before mid) c.in-Whole.is (c.gather_entries.ensures.written Z h l)) c.write_piece.ensures.written

pub returns-in-WriteFault-clause-written : goal.returns-in-WriteFault-clause-written
returns-in-WriteFault-clause-written g c Z h l =
    let lines = joined (record_lines c.args.scribe.now.names.event_names c.args.scribe.now.names.declarations c.args.kept.now.history) in
    subst (λ r. Gathers r lines c.gather_entries.new.text (g.K.Sink.written c.args.sink.now) (g.K.Sink.written c.gather_entries.new.sink)) c.in-WriteFault.is (c.gather_entries.ensures.written Z h l)

pub returns-in-Memory-clause-written : goal.returns-in-Memory-clause-written
returns-in-Memory-clause-written g c Z h l =
    let lines = joined (record_lines c.args.scribe.now.names.event_names c.args.scribe.now.names.declarations c.args.kept.now.history) in
    subst (λ r. Gathers r lines c.gather_entries.new.text (g.K.Sink.written c.args.sink.now) (g.K.Sink.written c.gather_entries.new.sink)) c.in-Memory.is (c.gather_entries.ensures.written Z h l)
