use Rattle.std.proofs.Common.{ap, ◌∙◌, subst}
use Rattle.kom_system.specs.declared.system.System.{System}
use Rattle.kom_record.specs.declared.plan.Plan.{Plan}
use Rattle.kom_record.specs.Entries.{History}
use Rattle.kom_record.specs.Answers.{AnswersRest, job_of}
use Rattle.kom_exchange.specs.declared.view.View.{View}
use Rattle.kom_exchange.specs.Rule.{sole}
use Rattle.kom_exchange.specs.Seats.{view, given_to}
use Rattle.kom_exchange.proofs.Answering.{its, rest_whole, rest_leaves, rest_hand, same_hand}
use Rattle.kom_exchange.proofs.exchange.Exchange.rest.Goals as goal

pub returns-clause-called : goal.returns-clause-called
returns-clause-called g c = let was = c.args.seat.now in let a = c.rest-answer in
    rest_whole g.T.StandsFor.system g.T.StandsFor.plan g.T.StandsFor.history (given_to c.args.self.now) c.enter-station.result a.new.self (view was) c.sit-place.result.me.0 c.enter-station.new.place.me.0 _ was.number a.result (ap (λ m. m.0) c.sit-place.ensures.place.2) c.requires.seat.1 was.numbered c.enter-station.ensures.took a.ensures.answer
    (ap sole c.into_badge.ensures.2 ∙ ap (λ m. m.0) c.leave.ensures.1)

pub leave-requires-clause-station : goal.leave-requires-clause-station
leave-requires-clause-station g c = let was = c.args.seat.now in let a = c.rest-answer in
    rest_leaves g.T.StandsFor.system g.T.StandsFor.plan g.T.StandsFor.history (given_to c.args.self.now) c.enter-station.result a.new.self (view was) c.sit-place.result.me.0 c.enter-station.new.place.me.0 was.number a.result _ c.count_of_rest.ensures (ap (λ m. m.0) c.sit-place.ensures.place.2) c.requires.seat.1 was.numbered c.enter-station.ensures.took
    a.ensures.system a.ensures.plan a.ensures.answer

pub returns-clause-hand : goal.returns-clause-hand
returns-clause-hand g c = let was = c.args.seat.now in let a = c.rest-answer in let given = given_to c.args.self.now in
    let i = its g.T.StandsFor.system g.T.StandsFor.plan g.T.StandsFor.history given c.enter-station.result (view was) c.sit-place.result.me.0 c.enter-station.new.place.me.0 (ap (λ m. m.0) c.sit-place.ensures.place.2) c.requires.seat.1 c.enter-station.ensures.took in
    ap (λ (R : History). job_of R was.number) (ap (λ (v : View). v.own.seen) (ap sole c.into_badge.ensures.2 ∙ ap (λ m. m.0) c.leave.ensures.1))
    ∙ rest_hand (g.T.StandsFor.system given) (g.T.StandsFor.plan given) was.number was.number a.result (g.T.StandsFor.history c.enter-station.result) (g.T.StandsFor.history a.new.self)
    (subst (λ (p : System × Plan). AnswersRest p.0.declarations p.1 (g.T.StandsFor.history c.enter-station.result) was.number a.result (g.T.StandsFor.history a.new.self)) (λ k. (i.0 k, i.1 k)) a.ensures.answer)
    ∙ same_hand g.T.StandsFor.system g.T.StandsFor.plan g.T.StandsFor.history given c.enter-station.result (view was) c.sit-place.result.me.0 c.enter-station.new.place.me.0 was.number (ap (λ m. m.0) c.sit-place.ensures.place.2) c.requires.seat.1 was.numbered c.enter-station.ensures.took
