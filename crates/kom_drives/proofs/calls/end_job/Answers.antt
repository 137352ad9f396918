use Rattle.std.proofs.Common.{◌≡◌, ◌∙◌, ℕ, sym, ap, subst, Option, Some}
use Rattle.kom_system.specs.declared.system.System.{System}
use Rattle.kom_system.specs.WellFormed.{IsDeclared}
use Rattle.kom_record.specs.declared.job.Job.{Job}
use Rattle.kom_record.specs.declared.plan.Plan.{Plan}
use Rattle.kom_record.specs.Entries.{History}
use Rattle.kom_record.specs.Legal.{IsLegal}
use Rattle.kom_record.specs.Plans.{IsWellFormedJob}
use Rattle.kom_sim.proofs.Jobs.{taken_is_well_formed}
use Rattle.kom_drives.specs.Hands.{HoldsJob}
use Rattle.kom_drives.proofs.Handing.{commit_own, commit_others}
use Rattle.kom_drives.proofs.calls.end_job.Goals as goal

had : (S : System) (R : History) (w : ℕ) (held : Option Job) (job : Job) → Some job ≡ held → HoldsJob S R w held → HoldsJob S R w (Some job)
had S R w held job e h = subst (HoldsJob S R w) (sym e) h

pub react-requires : goal.react-requires
react-requires g c =
    let station = g.T.StandsFor in
    let x = c.args.station.now in
    let held = had (station.system x) (station.history x) c.args.hand.now.w c.args.hand.now.job c.in-Some.job c.in-Some.ensures.value c.requires in
    let same = held.1.system in
    let declared = subst (λ (s : System). IsDeclared s.declarations) (c.deref.ensures ∙ same) c.well_formed-2.ensures.declared in
    subst (λ (s : System). IsWellFormedJob s.declarations c.in-Some.job.body c.in-Some.job.item) (sym same)
    (taken_is_well_formed c.jobs_are_well_formed.ensures (station.system x) (station.plan x) (station.history x) c.in-Some.job declared (g.met.T.Station.fits x) (g.met.T.Station.legal x) held.1)

pub returns-in-Wakes-clause-says : goal.returns-in-Wakes-clause-says
returns-in-Wakes-clause-says g c = (c.in-Ran.ran, sym c.in-Some.ensures.value ∙ ap Some (sym c.in-Ran.ensures.0), c.in-Wakes.ensures.answer)

pub returns-in-Wakes-clause-held : goal.returns-in-Wakes-clause-held
returns-in-Wakes-clause-held g c =
    let station = g.T.StandsFor in
    let x = c.args.station.now in
    let held = had (station.system x) (station.history x) c.args.hand.now.w c.args.hand.now.job c.in-Some.job c.in-Some.ensures.value c.requires in
    subst (HoldsJob (station.system x) (station.history c.commit.new.self) c.args.hand.now.w) (sym c.take.ensures.after)
    (commit_own (station.system x) (station.plan x) (station.history x) (station.history c.commit.new.self) c.args.hand.now.w c.in-Ran.ran c.in-Wakes.wakes
    (ap (λ (j : Job). j.w) c.in-Ran.ensures.0 ∙ held.0) (g.met.T.Station.legal x) c.in-Wakes.ensures.answer)

pub returns-in-Wakes-clause-others : goal.returns-in-Wakes-clause-others
returns-in-Wakes-clause-others g c =
    let station = g.T.StandsFor in
    let x = c.args.station.now in
    let y = c.commit.new.self in
    let held = had (station.system x) (station.history x) c.args.hand.now.w c.args.hand.now.job c.in-Some.job c.in-Some.ensures.value c.requires in
    let legal = subst (λ (S : System). ∥ IsLegal S.declarations (station.plan x) (station.history y) ∥₁) c.commit.ensures.system (subst (λ (Z : Plan). ∥ IsLegal (station.system y).declarations Z (station.history y) ∥₁) c.commit.ensures.plan (g.met.T.Station.legal y)) in
    commit_others (station.system x) (station.plan x) (station.history x) (station.history y) c.args.hand.now.w c.in-Ran.ran c.commit.result
    (ap (λ (j : Job). j.w) c.in-Ran.ensures.0 ∙ held.0) legal c.commit.ensures.answer
