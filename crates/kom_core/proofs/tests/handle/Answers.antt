use Rattle.std.proofs.Common.{sym, ◌∙◌, subst}
use Rattle.kom_system.specs.declared.system.System.{System}
use Rattle.kom_system.specs.WellFormed.{IsDeclared}
use Rattle.kom_record.specs.Plans.{IsWellFormedJob}
use Rattle.kom_sim.proofs.Jobs.{taken_is_well_formed}
use Rattle.kom_core.proofs.tests.handle.Goals as goal

pub react-requires : goal.react-requires
react-requires g c =
    let station = g.T.StandsFor in
    let x = c.args.station.now in
    let same = c.requires.system in
    let declared = subst (λ (s : System). IsDeclared s.declarations) (c.deref.ensures ∙ same) c.well_formed-2.ensures.declared in
    subst (λ (s : System). IsWellFormedJob s.declarations c.args.job.body c.args.job.item) (sym same)
    (taken_is_well_formed c.jobs_are_well_formed.ensures (station.system x) (station.plan x) (station.history x) c.args.job declared (g.met.T.Station.fits x) (g.met.T.Station.legal x) c.requires)
