use Rattle.std.proofs.Common.{refl, sym, ap, ◌∙◌}
use Rattle.std.specs.Option.{option_copied}
use Rattle.kom_ready.specs.Lots.{pushed_of}
use Rattle.kom_ready.proofs.Same.{itself, same_again}
use Rattle.kom_crew.proofs.Pushing.{none_put, one_tried}
use Rattle.kom_crew.proofs.worker.Worker.push_all.Goals as goal

pub loop-i-init : goal.loop-i-init
loop-i-init c = record { lot = itself c.args.self.now.lot; seat = refl; left = refl; given = refl; gave = refl; put = none_put c.args.wakes.now (pushed_of c.args.self.now.lot) }

pub loop-i-preserved : goal.loop-i-preserved
loop-i-preserved c =
    let inv = c.loop-i.invariant in
    record { lot = same_again c.args.self.now.lot c.loop-i.self.lot c.push.new.self inv.lot c.push.ensures.same; seat = inv.seat; left = inv.left; given = inv.given; gave = c.push.ensures.given ∙ inv.gave; put = one_tried c.push.result c.args.wakes.now c.loop-i.i _ (pushed_of c.args.self.now.lot) (pushed_of c.loop-i.self.lot) (pushed_of c.push.new.self) (sym c.at.ensures ∙ ap option_copied c.in-Some.is) c.push.ensures.pushed inv.put }
