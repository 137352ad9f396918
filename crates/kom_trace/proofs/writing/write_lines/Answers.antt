use Rattle.std.proofs.Common.{subst}
use Rattle.kom_record.specs.Trace.{record_lines, joined}
use Rattle.kom_trace.specs.Counting.{HasCounted}
use Rattle.kom_trace.specs.Seen.{end_text, Traces}
use Rattle.kom_trace.proofs.Written.{next_piece, front}
use Rattle.kom_trace.proofs.writing.write_lines.Goals as goal

pub returns-in-Whole-clause-written : goal.returns-in-Whole-clause-written
returns-in-Whole-clause-written g c =
    let R = c.args.kept.now.history in
    let Z = c.args.plan.now in
    let S = c.args.scribe.now.names.declarations in
    let lines = joined (record_lines c.args.scribe.now.names.event_names S R) in
    let before = g.K.Sink.written c.args.sink.now in
    let mid = g.K.Sink.written c.write_entries.new.sink in
    let seen = c.write_entries.ensures.seen Z c.requires.seen c.requires.legal c.in-Whole.is in
    next_piece c.write_end.result lines (end_text S Z R) before mid (g.K.Sink.written c.write_end.new.sink)
    (subst (λ r. Traces r lines before mid) c.in-Whole.is (c.write_entries.ensures.written Z c.requires.seen c.requires.legal))
    (c.write_end.ensures.written S R (subst (λ n. HasCounted n.declarations c.write_entries.new.scribe.counts R) c.write_entries.ensures.names seen.counted) c.requires.legal c.requires.tally)

pub returns-in-WriteFault-clause-written : goal.returns-in-WriteFault-clause-written
returns-in-WriteFault-clause-written g c =
    let R = c.args.kept.now.history in
    let Z = c.args.plan.now in
    let S = c.args.scribe.now.names.declarations in
    let lines = joined (record_lines c.args.scribe.now.names.event_names S R) in
    let before = g.K.Sink.written c.args.sink.now in
    let mid = g.K.Sink.written c.write_entries.new.sink in
    front lines (end_text S Z R) before mid (subst (λ r. Traces r lines before mid) c.in-WriteFault.is (c.write_entries.ensures.written Z c.requires.seen c.requires.legal))

pub returns-in-Memory-clause-written : goal.returns-in-Memory-clause-written
returns-in-Memory-clause-written g c =
    let R = c.args.kept.now.history in
    let Z = c.args.plan.now in
    let S = c.args.scribe.now.names.declarations in
    let lines = joined (record_lines c.args.scribe.now.names.event_names S R) in
    let before = g.K.Sink.written c.args.sink.now in
    let mid = g.K.Sink.written c.write_entries.new.sink in
    front lines (end_text S Z R) before mid (subst (λ r. Traces r lines before mid) c.in-Memory.is (c.write_entries.ensures.written Z c.requires.seen c.requires.legal))
