use Rattle.std.proofs.Common.{◌≡◌, ◌≤◌, []}
use Rattle.kom_record.specs.declared.plan.Plan.{Plan}
use Rattle.kom_record.specs.Legal.{IsLegal}
use Rattle.kom_record.specs.Trace.{record_lines, joined}
use Rattle.kom_trace.specs.Counting.{first_entries}
use Rattle.kom_trace.specs.declared.writing.Traced.TheVariants.{Whole}
use Rattle.kom_trace.specs.Seen.{HasSeen, Gathers}
use Rattle.kom_trace.proofs.writing.gather_entries.Given as goal

abbrev pub invariant-loop-i : goal.invariant-loop-i
invariant-loop-i g l = record {
  names : l.scribe.names ≡ l.initial.scribe.names;
  seen : (Z : Plan) → HasSeen l.initial.scribe [] → ∥ IsLegal l.initial.scribe.names.declarations Z l.kept.history ∥₁ → HasSeen l.scribe (first_entries l.i l.kept.history);
  written : (Z : Plan) → HasSeen l.initial.scribe [] → ∥ IsLegal l.initial.scribe.names.declarations Z l.kept.history ∥₁
      → Gathers Whole (joined (record_lines l.initial.scribe.names.event_names l.initial.scribe.names.declarations (first_entries l.i l.kept.history))) l.text (g.K.Sink.written l.initial.sink) (g.K.Sink.written l.sink);
  counts : g.K.Sink.count l.initial.sink ≤ g.K.Sink.count l.sink;
}
