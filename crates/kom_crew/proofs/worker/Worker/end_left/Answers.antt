use Rattle.std.proofs.Common.{refl, sym, ◌∙◌, subst}
use Rattle.kom_exchange.specs.Seats.{given_to}
use Rattle.kom_ready.proofs.Same.{itself}
use Rattle.kom_crew.specs.declared.worker.Left.{Left}
use Rattle.kom_crew.specs.Workers.{seen_by, HasLeft}
use Rattle.kom_crew.proofs.Places.{same_place}
use Rattle.kom_crew.proofs.worker.Worker.end_left.Goals as goal

pub handle-requires : goal.handle-requires
handle-requires g c =
    let w = c.args.self.now in (
      same_place g.T.StandsFor.system g.T.StandsFor.plan g.T.StandsFor.history c.args.crew.now w _ refl (itself w.lot) (λ h. h) c.requires.0,
      c.replace.ensures.after,
      subst (λ (l : Left). HasLeft (g.T.StandsFor.system (given_to c.args.crew.now.exchange)) (seen_by w) w.seat.number l) (sym c.replace.ensures.value ∙ c.in-Job.is) c.requires.1,
    )

pub end_job-requires : goal.end_job-requires
end_job-requires g c =
    let w = c.args.self.now in (
      same_place g.T.StandsFor.system g.T.StandsFor.plan g.T.StandsFor.history c.args.crew.now w _ refl (itself w.lot) (λ h. h) c.requires.0,
      c.replace.ensures.after,
      subst (λ (l : Left). HasLeft (g.T.StandsFor.system (given_to c.args.crew.now.exchange)) (seen_by w) w.seat.number l) (sym c.replace.ensures.value ∙ c.in-Ran.is) c.requires.1,
    )

pub returns-in-Nothing-clause-stepped : goal.returns-in-Nothing-clause-stepped
returns-in-Nothing-clause-stepped g c =
    let w = c.args.self.now in (
      same_place g.T.StandsFor.system g.T.StandsFor.plan g.T.StandsFor.history c.args.crew.now w _ refl (itself w.lot) (λ h. h) c.requires.0,
      c.replace.ensures.after,
      subst (λ (l : Left). HasLeft (g.T.StandsFor.system (given_to c.args.crew.now.exchange)) (seen_by w) w.seat.number l) (sym c.replace.ensures.value ∙ c.in-Nothing.is) c.requires.1,
    )
