use Rattle.std.proofs.Common.{◌≡◌, sym, subst, ◌∙◌, ◌∷◌, ◌++◌}
use Rattle.kom_record.specs.Entries.{acts}
use Rattle.kom_record.specs.Trace.{entry_lines, joined}
use Rattle.kom_laws.proofs.ActLaws.{acts_took, acts_moved}
use Rattle.kom_scribe.specs.Drafts.{IsAfter}
use Rattle.kom_scribe.specs.Entries.{EndsTaken}
use Rattle.kom_scribe.proofs.Lines.{item_taken, took_lines, moved_lines, did_lines, did_acts}
use Rattle.kom_scribe.proofs.entries.add_entry.Goals as goal

pub returns-in_ok-add_took-in-Took-clause-lines : goal.returns-in_ok-add_took-in-Took-clause-lines
returns-in_ok-add_took-in-Took-clause-lines c P at h ends =
    let names = c.args.names.now.event_names in
    let S = c.args.names.now.declarations in
    subst (λ e. c.add_took.new.text ≡ c.args.text.now ++ joined (entry_lines names S P e)) (sym c.in-Took.is)
    (took_lines names S P c.args.known.now c.args.draft.now c.in-Took.w c.in-Took.c c.from.result c.c.inside.0 c.args.position c.in-Took.item c.kind_of-kind.result.now c.args.text.now c.add_took.new.text (c.from.ensures ∙ c.c.view_is) c.c.view_is at h c.kind_of-kind.ensures c.in_ok-add_took-in-Took.ensures)

pub returns-in_ok-add_took-in-Took-clause-after : goal.returns-in_ok-add_took-in-Took-clause-after
returns-in_ok-add_took-in-Took-clause-after c P h ends =
    let S = c.args.names.now.declarations in
    subst (λ e. IsAfter S c.args.known.now c.args.draft.now (acts (e ∷ P))) (sym c.in-Took.is)
    (subst (IsAfter S c.args.known.now c.args.draft.now) (sym (acts_took P c.in-Took.w c.in-Took.c c.in-Took.item)) h)

pub returns-in_ok-add_unreached-in-Did-clause-lines : goal.returns-in_ok-add_unreached-in-Did-clause-lines
returns-in_ok-add_unreached-in-Did-clause-lines c P at h ends =
    let names = c.args.names.now.event_names in
    let S = c.args.names.now.declarations in
    let d = c.in-Did in
    let it = item_taken P d.w d.c d.took d.outcome d.to d.unreached (subst (EndsTaken P) d.is ends) in
    subst (λ e. c.add_unreached.new.text ≡ c.args.text.now ++ joined (entry_lines names S P e)) (sym d.is)
    (did_lines names S P d.w d.c d.took c.args.position d.outcome d.to d.unreached it.0 c.args.text.now c.add_did.new.text c.add_outcome_lines.new.text c.add_unreached.new.text at it.1
    c.in_ok-add_did-in-Did.ensures (c.in_ok-add_outcome_lines-in-Did.ensures.lines P it.0 h) c.in_ok-add_unreached-in-Did.ensures)

pub returns-in_ok-add_unreached-in-Did-clause-after : goal.returns-in_ok-add_unreached-in-Did-clause-after
returns-in_ok-add_unreached-in-Did-clause-after c P h ends =
    let S = c.args.names.now.declarations in
    let d = c.in-Did in
    let new = c.add_outcome_lines.new.draft in
    let it = item_taken P d.w d.c d.took d.outcome d.to d.unreached (subst (EndsTaken P) d.is ends) in
    subst (λ e. IsAfter S c.args.known.now new (acts (e ∷ P))) (sym d.is)
    (subst (IsAfter S c.args.known.now new) (did_acts c.args.names.now.event_names S P d.w d.c d.took d.outcome d.to d.unreached it.0 it.1) (c.in_ok-add_outcome_lines-in-Did.ensures.after (acts P) it.0 h))

pub returns-in_ok-add_moved-in-Moved-clause-lines : goal.returns-in_ok-add_moved-in-Moved-clause-lines
returns-in_ok-add_moved-in-Moved-clause-lines c P at h ends =
    let names = c.args.names.now.event_names in
    let S = c.args.names.now.declarations in
    subst (λ e. c.add_moved.new.text ≡ c.args.text.now ++ joined (entry_lines names S P e)) (sym c.in-Moved.is)
    (moved_lines names S P c.in-Moved.w c.in-Moved.t c.args.position c.in-Moved.released c.args.text.now c.add_moved.new.text at c.in_ok-add_moved-in-Moved.ensures)

pub returns-in_ok-add_moved-in-Moved-clause-after : goal.returns-in_ok-add_moved-in-Moved-clause-after
returns-in_ok-add_moved-in-Moved-clause-after c P h ends =
    let S = c.args.names.now.declarations in
    subst (λ e. IsAfter S c.args.known.now c.args.draft.now (acts (e ∷ P))) (sym c.in-Moved.is)
    (subst (IsAfter S c.args.known.now c.args.draft.now) (sym (acts_moved P c.in-Moved.w c.in-Moved.t c.in-Moved.released)) h)
