use Rattle.std.proofs.Common.{ap, ◌∙◌, sym, subst}
use Rattle.kom_system.specs.declared.system.System.{System}
use Rattle.kom_record.specs.declared.plan.Plan.{Plan}
use Rattle.kom_record.specs.Legal.{IsLegal}
use Rattle.kom_record.specs.Answers.{AnswersCommit, IsInHand}
use Rattle.kom_exchange.specs.declared.view.View.{View}
use Rattle.kom_exchange.specs.Later.{about_of}
use Rattle.kom_exchange.specs.Rule.{sole}
use Rattle.kom_exchange.specs.Seats.{view, given_to}
use Rattle.kom_exchange.proofs.Entering.{turn_of}
use Rattle.kom_exchange.proofs.Answering.{its, is_held, commit_whole, commit_leaves, has_ended}
use Rattle.kom_exchange.proofs.exchange.Exchange.commit.Goals as goal

pub leave-requires-clause-station : goal.leave-requires-clause-station
leave-requires-clause-station g c = let was = c.args.seat.now in let a = c.commit-answer in
    commit_leaves g.T.StandsFor.system g.T.StandsFor.plan g.T.StandsFor.history (given_to c.args.self.now) c.enter-station.result a.new.self (view was) c.sit-place.result.me.0 c.enter-station.new.place.me.0 c.args.ran a.result _ c.count_of_committed.ensures (ap (λ m. m.0) c.sit-place.ensures.place.2) c.requires.seat.1 (c.requires.job.0 ∙ sym was.numbered) c.enter-station.ensures.took
    a.ensures.system a.ensures.plan (g.met.T.Station.legal a.new.self) a.ensures.answer

pub returns-clause-called : goal.returns-clause-called
returns-clause-called g c = let was = c.args.seat.now in let a = c.commit-answer in
    let i = its g.T.StandsFor.system g.T.StandsFor.plan g.T.StandsFor.history (given_to c.args.self.now) c.enter-station.result (view was) c.sit-place.result.me.0 c.enter-station.new.place.me.0 (ap (λ m. m.0) c.sit-place.ensures.place.2) c.requires.seat.1 c.enter-station.ensures.took in
    commit_whole g.T.StandsFor.system g.T.StandsFor.plan g.T.StandsFor.history (given_to c.args.self.now) c.enter-station.result a.new.self (view was) c.sit-place.result.me.0 c.enter-station.new.place.me.0 _ c.args.ran a.result (ap (λ m. m.0) c.sit-place.ensures.place.2) c.requires.seat.1 (c.requires.job.0 ∙ sym was.numbered) c.enter-station.ensures.took
    (subst (λ (p : System × Plan). ∥ IsLegal p.0.declarations p.1 (g.T.StandsFor.history a.new.self) ∥₁) (λ k. ((a.ensures.system ∙ i.0) k, (a.ensures.plan ∙ i.1) k)) (g.met.T.Station.legal a.new.self))
    a.ensures.answer
    (ap sole c.into_badge.ensures.2 ∙ ap (λ m. m.0) c.leave.ensures.1)

pub commit-answer-requires : goal.commit-answer-requires
commit-answer-requires g c = let was = c.args.seat.now in
    is_held g.T.StandsFor.system g.T.StandsFor.plan g.T.StandsFor.history (given_to c.args.self.now) c.enter-station.result (view was) c.sit-place.result.me.0 c.enter-station.new.place.me.0 c.args.ran.job (ap (λ m. m.0) c.sit-place.ensures.place.2) c.requires.seat.1 (was.numbered ∙ sym c.requires.job.0) c.enter-station.ensures.took c.requires.job.1

pub leave-requires-clause-place : goal.leave-requires-clause-place
leave-requires-clause-place g c = let was = c.args.seat.now in (
  c.enter-station.ensures.place.0.0 ∙ c.sit-place.ensures.place.0 ∙ c.requires.seat.0,
  turn_of g.T.StandsFor.history (about_of g.T.StandsFor.system g.T.StandsFor.plan) c.sit-place.result.me.0 c.enter-station.new.place.me.0 c.enter-station.result (ap (λ m. m.0.spent) c.sit-place.ensures.place.2 ∙ was.rests.1) c.enter-station.ensures.took,
  c.enter-station.ensures.place.1,
)

pub returns-clause-hand : goal.returns-clause-hand
returns-clause-hand g c = let was = c.args.seat.now in let a = c.commit-answer in let given = given_to c.args.self.now in
    let i = its g.T.StandsFor.system g.T.StandsFor.plan g.T.StandsFor.history given c.enter-station.result (view was) c.sit-place.result.me.0 c.enter-station.new.place.me.0 (ap (λ m. m.0) c.sit-place.ensures.place.2) c.requires.seat.1 c.enter-station.ensures.took in
    has_ended (g.T.StandsFor.system given) (g.T.StandsFor.plan given) c.args.ran a.result (g.T.StandsFor.history c.enter-station.result) (g.T.StandsFor.history a.new.self) _
    (subst (λ (p : System × Plan). AnswersCommit p.0 p.1 (g.T.StandsFor.history c.enter-station.result) c.args.ran a.result (g.T.StandsFor.history a.new.self)) (λ k. (i.0 k, i.1 k)) a.ensures.answer)
    (subst (λ (p : System × Plan). ∥ IsLegal p.0.declarations p.1 (g.T.StandsFor.history a.new.self) ∥₁) (λ k. ((a.ensures.system ∙ i.0) k, (a.ensures.plan ∙ i.1) k)) (g.met.T.Station.legal a.new.self))
    (subst (λ (S : System). IsInHand S (g.T.StandsFor.history c.enter-station.result) c.args.ran.job) i.0
    (is_held g.T.StandsFor.system g.T.StandsFor.plan g.T.StandsFor.history given c.enter-station.result (view was) c.sit-place.result.me.0 c.enter-station.new.place.me.0 c.args.ran.job (ap (λ m. m.0) c.sit-place.ensures.place.2) c.requires.seat.1 (was.numbered ∙ sym c.requires.job.0) c.enter-station.ensures.took c.requires.job.1))
    c.requires.job.0 (ap (λ (v : View). v.own.seen) (ap sole c.into_badge.ensures.2 ∙ ap (λ m. m.0) c.leave.ensures.1))
