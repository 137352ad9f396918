use Rattle.std.proofs.Common.{◌++◌, subst, length, arith}
use Rattle.std.proofs.lemmas.List.{take_all}
use Rattle.std.specs.List.{filter_map}
use Rattle.kom_record.specs.Offers.{offer_of, relayed}
use Rattle.kom_entering.specs.Lists.{AreNoted}
use Rattle.kom_entering.proofs.Whole.{blank, done_is, noted_next, same_position}
use Rattle.kom_entering.proofs.lists.Entering.of.Goals as goal

pub loop-effect-preserved : goal.loop-effect-preserved
loop-effect-preserved c =
    let S = c.args.system.now.declarations in
    let P = c.args.kept.now.history in
    let was = c.loop-effect.invariant in
    record {
      few = (let a = c.in_ok-offer_by.ensures.few in let b = was.few in omega (arith, a, b));
      noted = λ s.
          noted_next S P c.args.c c.args.took c.args.item.now c.args.effects.now c.effect-item.result c.loop-effect.effect-index (blank S P (length P)) c.loop-effect.out c.offer_by.new.self
          c.loop-effect-test.true c.effect-item.is (was.noted s) (c.in_ok-offer_by.ensures.noted s (same_position S P _ _ _ (was.noted s)));
    }

pub returns : goal.returns
returns c w after to places s e =
    let S = c.args.system.now.declarations in
    let P = c.args.kept.now.history in
    let effects = c.args.effects.now in
    done_is S P w c.args.c c.args.took c.args.item.now after effects to places c.loop-effect.out e
    (subst (λ es. AreNoted S P (relayed P c.args.c c.args.item.now ++ filter_map (offer_of c.args.c c.args.took c.args.item.now) es) (blank S P (length P)) c.loop-effect.out)
    (take_all c.loop-effect.effect-index effects (omega (arith, c.loop-effect-test.false))) (c.loop-effect.invariant.noted s))
