use Rattle.std.proofs.Common.{◌∙◌}
use Rattle.kom_rules.specs.Declaring.{Introduced, clashes}
use Rattle.kom_spaces.proofs.Noted.{scope_more, clashes_more}
use Rattle.kom_spaces.proofs.clashes.Space.introduce_all.Goals as goal

pub loop-spot-preserved : goal.loop-spot-preserved
loop-spot-preserved c = (
  scope_more c.args.scope.now c.loop-spot.scope _ c.args.spots.now c.loop-spot.spot-index c.spot-item.result c.loop-spot-test.true c.spot-item.is c.loop-spot.invariant.0 c.in_ok-now.ensures.entered,
  c.earlier-first.ensures ∙ clashes_more (λ (x : Introduced). clashes c.args.self.now.part.now x.scope x.name) c.args.scope.now c.loop-spot.scope c.args.spots.now c.loop-spot.spot-index c.spot-item.result c.loop-spot.first c.in_ok-now.now
      c.loop-spot-test.true c.spot-item.is c.loop-spot.invariant.0 c.loop-spot.invariant.1 c.in_ok-now.ensures.first,
)
