use Rattle.kom_scribe.proofs.Told.{told, line_of}
use Rattle.kom_scribe.proofs.following.add_effect_line.Goals as goal

pub returns-clause-line : goal.returns-clause-line
returns-clause-line c done h =
    line_of c.args.text.now c.add.new.self c.add_effect.new.text c.add-2.new.self _ _ c.in_ok-add.ensures c.in_ok-add_effect.ensures c.in_ok-add-2.ensures
    (told c.args.names.now.event_names c.args.names.now.declarations c.args.known.now c.args.draft.now done c.args.c c.args.to.now c.args.effect.now h)
