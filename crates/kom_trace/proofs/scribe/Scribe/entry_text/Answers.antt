use Rattle.std.proofs.Common.{sym, ◌∙◌}
use Rattle.kom_record.specs.Entries.{acts}
use Rattle.kom_trace.proofs.Sightings.{taken_in_legal, position_is}
use Rattle.kom_trace.proofs.scribe.Scribe.entry_text.Goals as goal

pub returns-clause-lines : goal.returns-clause-lines
returns-clause-lines c Z P h l =
    let s = c.args.self.now in
    c.in_ok-add_entry.ensures.lines P (position_is s P h ∙ sym c.position-position.ensures) (c.draft-draft.ensures s.names.declarations (acts P) h.knows)
    (taken_in_legal s.names.declarations Z P c.args.entry.now l)

pub returns-clause-seen : goal.returns-clause-seen
returns-clause-seen c Z P h l =
    let s = c.args.self.now in
    c.in_ok-take_over.ensures.seen Z P h
    (c.in_ok-add_entry.ensures.after P (c.draft-draft.ensures s.names.declarations (acts P) h.knows) (taken_in_legal s.names.declarations Z P c.args.entry.now l))
    l
