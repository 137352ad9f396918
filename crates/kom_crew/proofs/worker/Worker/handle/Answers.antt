use Rattle.std.proofs.Common.{refl, sym, ◌∙◌, subst}
use Rattle.kom_system.specs.declared.system.System.{System}
use Rattle.kom_system.specs.WellFormed.{IsDeclared}
use Rattle.kom_record.specs.declared.job.Job.{Job}
use Rattle.kom_record.specs.Plans.{IsWellFormedJob}
use Rattle.kom_exchange.specs.Seats.{given_to}
use Rattle.kom_ready.proofs.Same.{itself}
use Rattle.kom_crew.specs.Workers.{seen_by, IsHand}
use Rattle.kom_crew.proofs.Places.{same_place}
use Rattle.kom_crew.proofs.WellFormed.{well_formed_in_hand}
use Rattle.kom_crew.proofs.worker.Worker.handle.Goals as goal

pub react-requires : goal.react-requires
react-requires g c =
    let given = given_to c.args.crew.now.exchange in
    let hand = c.requires.2.1 in
    let same = hand.system in
    let declared = subst (λ (s : System). IsDeclared s.declarations) (c.deref.ensures ∙ same) c.well_formed-2.ensures.declared in
    subst (λ (s : System). IsWellFormedJob s.declarations c.args.job.body c.args.job.item) (sym same)
    (well_formed_in_hand c.jobs_are_well_formed.ensures (g.T.StandsFor.system given) (g.T.StandsFor.plan given) (seen_by c.args.self.now) c.args.job
    declared (g.met.T.Station.fits given) c.requires.0.legal hand)

pub end_job-requires : goal.end_job-requires
end_job-requires g c =
    let w = c.args.self.now in
    (c.requires.0, c.requires.1, subst (λ (j : Job). IsHand (g.T.StandsFor.system (given_to c.args.crew.now.exchange)) (seen_by w) w.seat.number j) (sym c.in-Ran.ensures.0) c.requires.2)

pub returns-in-Memory-clause-stepped : goal.returns-in-Memory-clause-stepped
returns-in-Memory-clause-stepped g c =
    let w = c.args.self.now in (
      same_place g.T.StandsFor.system g.T.StandsFor.plan g.T.StandsFor.history c.args.crew.now w _ refl (itself w.lot) (λ h. h) c.requires.0,
      subst (λ (j : Job). IsHand (g.T.StandsFor.system (given_to c.args.crew.now.exchange)) (seen_by w) w.seat.number j) (sym c.in-Memory.ensures) c.requires.2,
    )
