use Rattle.std.proofs.Common.{sym, ◌∙◌, subst}
use Rattle.kom_system.specs.declared.system.System.{System}
use Rattle.kom_system.specs.WellFormed.{IsDeclared}
use Rattle.kom_record.specs.Plans.{IsWellFormedJob}
use Rattle.kom_sim.proofs.Handled.{handled}
use Rattle.kom_sim.proofs.Jobs.{taken_is_well_formed}
use Rattle.kom_sim.proofs.turns.handle.Goals as goal

pub react-requires : goal.react-requires
react-requires g c =
    let same = c.requires.hand.system in
    let declared = subst (λ (s : System). IsDeclared s.declarations) (c.deref.ensures ∙ same) c.well_formed-2.ensures.declared in
    subst (λ (s : System). IsWellFormedJob s.declarations c.args.job.body c.args.job.item) (sym same)
    (taken_is_well_formed c.jobs_are_well_formed.ensures (g.T.StandsFor.system c.args.station.now) (g.T.StandsFor.plan c.args.station.now) (g.T.StandsFor.history c.args.station.now) c.args.job
    declared (g.met.T.Station.fits c.args.station.now) (g.met.T.Station.legal c.args.station.now) c.requires.hand)

pub returns-in-Ok-clause-turn : goal.returns-in-Ok-clause-turn
returns-in-Ok-clause-turn g c =
    handled (g.T.StandsFor.system c.args.station.now) (g.T.StandsFor.plan c.args.station.now) (g.T.StandsFor.history c.args.station.now) c.args.job c.args.line.now c.in-Ran.ran _ (g.T.StandsFor.history c.commit.new.self) c.push_all.new.self c.requires c.in-Wakes.ensures.answer c.in-Ok.ensures
