use Rattle.std.proofs.Common.{sym, subst}
use Rattle.kom_record.specs.declared.item.Back.TheVariants.{To}
use Rattle.kom_entering.specs.Lists.{IsOneMore, offer_from}
use Rattle.kom_entering.specs.Ways.{IsWayTaken}
use Rattle.kom_entering.proofs.OneMore.{answer_more}
use Rattle.kom_entering.proofs.lists.Entering.send_back.Goals as goal

pub returns-clause-one : goal.returns-clause-one
returns-clause-one c S happened s p =
    subst (λ z. IsOneMore S c.args.kept.now.history (offer_from c.args.half.now happened (To c.args.s)) c.args.self.now z) (sym c.count.ensures)
    (answer_more c.goes_out_once.ensures c.channels_are_numbered.ensures c.bodies_know_their_place.ensures c.offers_enter_by_state.ensures S c.args.kept.now.history c.args.state.now s
    c.answers_go_one_way.ensures c.args.half.now happened c.args.s c.args.self.now c.take_way.new.self p
    (subst (λ w. IsWayTaken c.args.state.now.numbers w c.args.self.now c.take_way.new.self) c.way_back-way.ensures c.in_ok-take_way.ensures))
