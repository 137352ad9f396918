use Rattle.kom_state.specs.Parts.{state_of}
use Rattle.std.proofs.Common.{◌≡◌, sym, subst, true}
use Rattle.std.specs.Prelude.{IfSome}
use Rattle.kom_puts.proofs.Living.{receiver_lives}
use Rattle.kom_puts.proofs.Putting.{effect_is}
use Rattle.kom_puts.specs.Puts.{items_for}
use Rattle.kom_refine.specs.Steps.{ArePut}
use Rattle.kom_puts.proofs.effects.put_by_effect.Goals as goal

pub put_one-requires-clause-living : goal.put_one-requires-clause-living
put_one-requires-clause-living c =
    subst (λ o. IfSome o (λ a. (state_of c.args.state.now).living a.0 ≡ true)) (sym c.put_of-to.ensures)
    (receiver_lives c.args.state.now c.holds_together.ensures c.args.c c.args.item.now c.args.told.now c.args.effect.now c.requires.living c.requires.above)

pub returns-clause-step : goal.returns-clause-step
returns-clause-step c S p s t =
    effect_is S p (state_of c.args.state.now) (state_of c.put_one.new.state) s c.args.c c.requires.living c.args.item.now c.args.told.now c.args.effect.now c.requires.structure t
    (subst (λ o. ArePut (items_for o) (state_of c.args.state.now) (state_of c.put_one.new.state)) c.put_of-to.ensures c.put_one.ensures.step)
