use Rattle.std.proofs.Common.{sym, subst}
use Rattle.std.proofs.lemmas.Result.{on_ok_weaker}
use Rattle.kom_base.specs.Numbers.{other_side}
use Rattle.kom_record.specs.Offers.{relayed}
use Rattle.kom_entering.specs.Lists.{AreNoted, IsOneMore, offer_from}
use Rattle.kom_entering.proofs.Whole.{noted_one}
use Rattle.kom_entering.proofs.lists.Entering.relay.Goals as goal

pub returns-in-Arrival-clause-noted : goal.returns-in-Arrival-clause-noted
returns-in-Arrival-clause-noted c =
    let S = c.args.system.now.declarations in
    let P = c.args.kept.now.history in
    let a = c.in-Arrival in
    on_ok_weaker c.offer.result
    (λ one s p. subst (λ i. AreNoted S P (relayed P c.args.c i) c.args.self.now c.offer.new.self) (sym a.is)
    (noted_one S P _ c.args.self.now c.offer.new.self
    (subst (λ b. IsOneMore S P (offer_from (record { comp = c.args.c; port = a.port; side = other_side a.side }) a.event b) c.args.self.now c.offer.new.self) c.passed_on.ensures
    (subst (λ f. IsOneMore S P (offer_from (record { comp = c.args.c; port = a.port; side = f }) a.event c.passed_on.result) c.args.self.now c.offer.new.self) c.other.ensures (one s p)))))
    c.offer.ensures.one
