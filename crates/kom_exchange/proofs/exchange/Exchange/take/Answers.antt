use Rattle.std.proofs.Common.{ap, ◌∙◌, subst, refl}
use Rattle.kom_system.specs.declared.system.System.{System}
use Rattle.kom_record.specs.declared.plan.Plan.{Plan}
use Rattle.kom_record.specs.Answers.{AnswersTake}
use Rattle.kom_exchange.specs.Later.{about_of}
use Rattle.kom_exchange.specs.Rule.{sole}
use Rattle.kom_exchange.specs.Seats.{view, given_to}
use Rattle.kom_exchange.proofs.Entering.{turn_of}
use Rattle.kom_exchange.proofs.Answering.{its, is_free, take_leaves, take_whole, has_job}
use Rattle.kom_exchange.specs.declared.view.View.{View}
use Rattle.kom_exchange.proofs.exchange.Exchange.take.Goals as goal

pub returns-clause-called : goal.returns-clause-called
returns-clause-called g c = let was = c.args.seat.now in let a = c.take-answer in
    take_whole g.T.StandsFor.system g.T.StandsFor.plan g.T.StandsFor.history (given_to c.args.self.now) c.enter-station.result a.new.self (view was) c.sit-place.result.me.0 c.enter-station.new.place.me.0 _ was.number c.args.c a.result (ap (λ m. m.0) c.sit-place.ensures.place.2) c.requires.seat.1 was.numbered c.enter-station.ensures.took a.ensures.answer
    (ap sole c.into_badge.ensures.2 ∙ ap (λ m. m.0) c.leave.ensures.1)

pub returns-clause-job : goal.returns-clause-job
returns-clause-job g c = let was = c.args.seat.now in let a = c.take-answer in let given = given_to c.args.self.now in
    let i = its g.T.StandsFor.system g.T.StandsFor.plan g.T.StandsFor.history given c.enter-station.result (view was) c.sit-place.result.me.0 c.enter-station.new.place.me.0 (ap (λ m. m.0) c.sit-place.ensures.place.2) c.requires.seat.1 c.enter-station.ensures.took in
    has_job (g.T.StandsFor.system given) (g.T.StandsFor.plan given) was.number c.args.c a.result (g.T.StandsFor.history c.enter-station.result) (g.T.StandsFor.history a.new.self) _
    (subst (λ (p : System × Plan). AnswersTake p.0 p.1 (g.T.StandsFor.history c.enter-station.result) was.number c.args.c a.result (g.T.StandsFor.history a.new.self)) (λ k. (i.0 k, i.1 k)) a.ensures.answer)
    (is_free g.T.StandsFor.system g.T.StandsFor.plan g.T.StandsFor.history given c.enter-station.result (view was) c.sit-place.result.me.0 c.enter-station.new.place.me.0 was.number (ap (λ m. m.0) c.sit-place.ensures.place.2) c.requires.seat.1 was.numbered c.enter-station.ensures.took c.requires.free)
    refl (ap (λ (v : View). v.own.seen) (ap sole c.into_badge.ensures.2 ∙ ap (λ m. m.0) c.leave.ensures.1))

pub take-answer-requires : goal.take-answer-requires
take-answer-requires g c = let was = c.args.seat.now in
    is_free g.T.StandsFor.system g.T.StandsFor.plan g.T.StandsFor.history (given_to c.args.self.now) c.enter-station.result (view was) c.sit-place.result.me.0 c.enter-station.new.place.me.0 was.number (ap (λ m. m.0) c.sit-place.ensures.place.2) c.requires.seat.1 was.numbered c.enter-station.ensures.took c.requires.free

pub leave-requires-clause-station : goal.leave-requires-clause-station
leave-requires-clause-station g c = let was = c.args.seat.now in let a = c.take-answer in
    take_leaves g.T.StandsFor.system g.T.StandsFor.plan g.T.StandsFor.history (given_to c.args.self.now) c.enter-station.result a.new.self (view was) c.sit-place.result.me.0 c.enter-station.new.place.me.0 was.number c.args.c a.result _ c.count_of_taken.ensures (ap (λ m. m.0) c.sit-place.ensures.place.2) c.requires.seat.1 was.numbered c.enter-station.ensures.took
    a.ensures.system a.ensures.plan a.ensures.answer

pub leave-requires-clause-place : goal.leave-requires-clause-place
leave-requires-clause-place g c = let was = c.args.seat.now in (
  c.enter-station.ensures.place.0.0 ∙ c.sit-place.ensures.place.0 ∙ c.requires.seat.0,
  turn_of g.T.StandsFor.history (about_of g.T.StandsFor.system g.T.StandsFor.plan) c.sit-place.result.me.0 c.enter-station.new.place.me.0 c.enter-station.result (ap (λ m. m.0.spent) c.sit-place.ensures.place.2 ∙ was.rests.1) c.enter-station.ensures.took,
  c.enter-station.ensures.place.1,
)
