use Rattle.kom_loading.proofs.scenario.expanded.Goals as goal

-- the text is a scenario of the system, so the plan fits it
pub returns-in-Ok-clause-fits : goal.returns-in-Ok-clause-fits
returns-in-Ok-clause-fits c = c.in-Ok.ensures.fits c.args.system.now c.args.text.now c.well_formed-2.ensures c.requires.accepted
