use Rattle.std.proofs.Common.{◌∙◌, sym}
use Rattle.kom_births.proofs.Children.{found, passed}
use Rattle.kom_births.proofs.linking.child_of.Goals as goal
use Rattle.kom_births.proofs.linking.child_of.Goals.{then-is_seat, else-is_seat}

pub loop-k-preserved : goal.loop-k-preserved
loop-k-preserved c = elim c.if-is_seat.branch [
  | then-is_seat w ↦ found c.args.comp c.args.slot c.args.number c.args.sprouts.now c.loop-k.k c.index-sprouts-k.result c.loop-k-test.true c.index-sprouts-k.is c.if-is_seat.child (sym c.is_seat.ensures ∙ w.if-is_seat.true) w.child-is
  | else-is_seat w ↦ passed c.args.comp c.args.slot c.args.number c.args.sprouts.now c.loop-k.k c.index-sprouts-k.result c.loop-k-test.true c.index-sprouts-k.is c.if-is_seat.child (sym c.is_seat.ensures ∙ w.if-is_seat.false) (w.child-is ∙ c.loop-k.invariant)
]
