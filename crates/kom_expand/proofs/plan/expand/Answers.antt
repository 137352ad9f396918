use Rattle.std.proofs.Common.{subst}
use Rattle.kom_expand.specs.Expansion.{IsExpansion}
use Rattle.kom_expand.proofs.Fits.{plan_of, made, moved_all, plan_fits}
use Rattle.kom_expand.proofs.plan.expand.Goals as goal

pub returns-clause-plan : goal.returns-clause-plan
returns-clause-plan c =
    let z = c.scene-scene.result.now in
    subst (λ s. IsExpansion s (plan_of z c.from_vec.result)) c.scene-scene.ensures.value
    (made z c.in_ok-raises.raises.items c.sort.new.raises.items c.from_vec.result c.as_slice.result.now c.in_ok-raises.ensures c.as_slice.ensures c.in_ok-sort.ensures.in_time c.from_vec.ensures)

pub returns-clause-fits : goal.returns-clause-fits
returns-clause-fits c =
    let z = c.scene-scene.result.now in
    let raises = c.from_vec.result in
    λ s text formed d. plan_fits s text z (plan_of z raises) formed (rw c.scene-scene.ensures.value d) c.scene-scene.ensures.sound
    (made z c.in_ok-raises.raises.items c.sort.new.raises.items raises c.as_slice.result.now c.in_ok-raises.ensures c.as_slice.ensures c.in_ok-sort.ensures.in_time c.from_vec.ensures)
    (moved_all z c.in_ok-raises.raises.items c.sort.new.raises.items raises c.as_slice.result.now c.in_ok-raises.ensures c.as_slice.ensures c.in_ok-sort.ensures.moved c.from_vec.ensures)
