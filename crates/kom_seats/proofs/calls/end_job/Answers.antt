use Rattle.std.proofs.Common.{◌≡◌, ◌∙◌, ℕ, sym, ap, subst, Option, Some}
use Rattle.kom_system.specs.declared.system.System.{System}
use Rattle.kom_system.specs.WellFormed.{IsDeclared}
use Rattle.kom_record.specs.declared.job.Job.{Job}
use Rattle.kom_record.specs.Entries.{History}
use Rattle.kom_record.specs.Plans.{IsWellFormedJob}
use Rattle.kom_sim.proofs.Jobs.{taken_is_well_formed}
use Rattle.kom_exchange.specs.Seats.{given_to}
use Rattle.kom_drives.specs.Hands.{HoldsJob}
use Rattle.kom_seats.specs.Placing.{seen_by}
use Rattle.kom_seats.proofs.Placing.{told_so}
use Rattle.kom_seats.proofs.calls.end_job.Goals as goal

had : (S : System) (R : History) (w : ℕ) (held : Option Job) (job : Job) → Some job ≡ held → HoldsJob S R w held → HoldsJob S R w (Some job)
had S R w held job e h = subst (HoldsJob S R w) (sym e) h

pub react-requires : goal.react-requires
react-requires g c =
    let station = g.T.StandsFor in
    let given = given_to c.args.exchange.now in
    let seen = seen_by c.args.placed.now in
    let held = had (station.system given) seen c.args.placed.now.seat.number c.args.placed.now.job c.in-Some.job c.in-Some.ensures.value c.requires.hand in
    let same = held.1.system in
    let declared = subst (λ (s : System). IsDeclared s.declarations) (c.deref.ensures ∙ same) c.well_formed-2.ensures.declared in
    subst (λ (s : System). IsWellFormedJob s.declarations c.in-Some.job.body c.in-Some.job.item) (sym same)
    (taken_is_well_formed c.jobs_are_well_formed.ensures (station.system given) (station.plan given) seen c.in-Some.job declared (g.met.T.Station.fits given) c.requires.legal held.1)

pub returns-in-Wakes-clause-says : goal.returns-in-Wakes-clause-says
returns-in-Wakes-clause-says g c = told_so _ _ _ _ _ c.in-Wakes.ensures.called (λ R Q a. (c.in-Ran.ran, sym c.in-Some.ensures.value ∙ ap Some (sym c.in-Ran.ensures.0), a))
