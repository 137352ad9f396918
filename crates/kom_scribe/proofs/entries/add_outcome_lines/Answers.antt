use Rattle.kom_scribe.proofs.Lines.{no_outcome_lines}
use Rattle.kom_scribe.proofs.entries.add_outcome_lines.Goals as goal

pub returns-in-Void-clause-lines : goal.returns-in-Void-clause-lines
returns-in-Void-clause-lines c P item h = no_outcome_lines c.args.names.now.event_names c.args.names.now.declarations P c.args.c item c.args.to.now c.args.outcome.now c.args.text.now c.in-Void.is

pub returns-in-Void-2-clause-lines : goal.returns-in-Void-2-clause-lines
returns-in-Void-2-clause-lines c P item h = no_outcome_lines c.args.names.now.event_names c.args.names.now.declarations P c.args.c item c.args.to.now c.args.outcome.now c.args.text.now c.in-Void.is
