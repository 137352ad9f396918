use Rattle.std.proofs.Common.{sym, subst}
use Rattle.kom_record.specs.declared.item.Back.TheVariants.{Plain}
use Rattle.kom_entering.specs.Lists.{IsOneMore, offer_from}
use Rattle.kom_entering.proofs.OneMore.{plain_more}
use Rattle.kom_entering.proofs.lists.Entering.spread.Goals as goal

pub returns-clause-one : goal.returns-clause-one
returns-clause-one c P s p =
    subst (λ z. IsOneMore c.args.system.now.declarations P (offer_from c.args.half.now c.args.event.now Plain) c.args.self.now z) (sym c.count.ensures)
    (plain_more c.goes_out_once.ensures c.channels_are_numbered.ensures c.bodies_know_their_place.ensures c.offers_enter_by_state.ensures c.args.system.now.declarations P c.args.state.now s
    c.args.half.now c.args.event.now c.in_ok-out.out c.in_ok-out.ensures.out c.args.self.now c.into_all.new.self c.go_by.new.self p c.in_ok-out.ensures.noted c.in_ok-go_by.ensures)
