use Rattle.std.proofs.Common.{sym, subst}
use Rattle.std.proofs.lemmas.Result.{on_ok_weaker}
use Rattle.kom_lang.specs.declared.body.Effect.TheVariants.{Answer}
use Rattle.kom_record.specs.Offers.{offer_of}
use Rattle.kom_entering.specs.Lists.{AreNoted, listed}
use Rattle.kom_entering.proofs.Whole.{noted_one}
use Rattle.kom_entering.proofs.lists.Entering.offer_by.Goals as goal

pub returns-in-Trigger-clause-noted : goal.returns-in-Trigger-clause-noted
returns-in-Trigger-clause-noted c =
    let S = c.args.system.now.declarations in
    let P = c.args.kept.now.history in
    on_ok_weaker c.offer.result
    (λ one s p. subst (λ e. AreNoted S P (listed (offer_of c.args.c c.args.took c.args.item.now e)) c.args.self.now c.offer.new.self) (sym c.in-Trigger.is)
    (noted_one S P _ c.args.self.now c.offer.new.self (one s p)))
    c.offer.ensures.one

pub returns-in-Arrival-clause-noted : goal.returns-in-Arrival-clause-noted
returns-in-Arrival-clause-noted c =
    let S = c.args.system.now.declarations in
    let P = c.args.kept.now.history in
    let a = c.in-Arrival in
    on_ok_weaker c.offer-in-Arrival.result
    (λ one s p. subst (λ e. AreNoted S P (listed (offer_of c.args.c c.args.took c.args.item.now e)) c.args.self.now c.offer-in-Arrival.new.self) (sym c.in-Answer.is)
    (subst (λ i. AreNoted S P (listed (offer_of c.args.c c.args.took i (Answer c.in-Answer.event))) c.args.self.now c.offer-in-Arrival.new.self) (sym a.is)
    (noted_one S P _ c.args.self.now c.offer-in-Arrival.new.self (one s p))))
    c.offer-in-Arrival.ensures.one
