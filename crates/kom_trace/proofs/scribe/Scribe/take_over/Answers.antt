use Rattle.std.proofs.Common.{◌∷◌}
use Rattle.kom_record.specs.Entries.{acts}
use Rattle.kom_trace.proofs.scribe.Scribe.take_over.Goals as goal

pub returns-clause-seen : goal.returns-clause-seen
returns-clause-seen c Z P h after l =
    let S = c.args.self.now.names.declarations in
    record {
      knows = c.in_ok-absorb.ensures.knows S (acts (c.args.entry.now ∷ P)) after;
      counted = c.note.ensures S Z P (c.reserve.ensures.same S P h.counted) l;
    }
