use Rattle.std.proofs.Common.{◌∙◌, refl, arith}
use Rattle.kom_changes.proofs.Sowing.{marks_next, marks_none}
use Rattle.kom_changes.proofs.creating.mark_from.Goals as goal

pub loop-c-init : goal.loop-c-init
loop-c-init c = record { each = marks_none c.args.marks.now c.args.first; few = omega arith; bound = refl }

pub loop-c-preserved : goal.loop-c-preserved
loop-c-preserved c = record {
  each = marks_next c.args.marks.now c.loop-c.marks c.mark.new.marks c.args.first c.loop-c.c (omega arith) c.loop-c.invariant.each c.mark.ensures.each;
  few = let a = c.loop-c.invariant.few in let b = c.mark.ensures.few in omega (arith, a, b);
  bound = c.mark.ensures.bound ∙ c.loop-c.invariant.bound;
}
