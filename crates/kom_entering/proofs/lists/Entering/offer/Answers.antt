use Rattle.std.proofs.Common.{sym, subst}
use Rattle.std.proofs.lemmas.Result.{on_ok_weaker}
use Rattle.kom_entering.specs.Lists.{IsOneMore, offer_from}
use Rattle.kom_entering.proofs.lists.Entering.offer.Goals as goal

pub returns-in-Plain-clause-one : goal.returns-in-Plain-clause-one
returns-in-Plain-clause-one c =
    on_ok_weaker c.spread.result
    (λ one s p. subst (λ b. IsOneMore c.args.system.now.declarations c.args.kept.now.history (offer_from c.args.half.now c.args.event.now b) c.args.self.now c.spread.new.self) (sym c.in-Plain.is) (one c.args.kept.now.history s p))
    c.spread.ensures.one

pub returns-in-To-clause-one : goal.returns-in-To-clause-one
returns-in-To-clause-one c =
    on_ok_weaker c.send_back.result
    (λ one s p. subst (λ b. IsOneMore c.args.system.now.declarations c.args.kept.now.history (offer_from c.args.half.now c.args.event.now b) c.args.self.now c.send_back.new.self) (sym c.in-To.is) (one c.args.system.now.declarations c.args.event.now s p))
    c.send_back.ensures.one

pub returns-in-Home-clause-one : goal.returns-in-Home-clause-one
returns-in-Home-clause-one c s p =
    subst (λ b. IsOneMore c.args.system.now.declarations c.args.kept.now.history (offer_from c.args.half.now c.args.event.now b) c.args.self.now c.rest.new.self) (sym c.in-Home.is)
    (c.rest.ensures.one c.args.system.now.declarations c.args.kept.now.history c.args.half.now c.args.event.now p)
