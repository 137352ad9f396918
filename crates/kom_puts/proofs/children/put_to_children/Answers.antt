use Rattle.std.proofs.Common.{◌≡◌, ◌-◌, ℕ, ap, ◌∙◌, length, Option, arith}
use Rattle.std.specs.Option.{option_map}
use Rattle.kom_record.specs.declared.item.Control.{Control as ControlItem}
use Rattle.kom_state.specs.Parts.{state_of, control_spare}
use Rattle.kom_puts.specs.Puts.{items_for, to_child_in}
use Rattle.kom_puts.specs.Signals.{item_of}
use Rattle.kom_puts.proofs.BySlots.{keeps_again, left_next, put_next, touched_next, unborn_next}
use Rattle.kom_puts.proofs.children.put_to_children.Goals as goal

pub loop-s-preserved : goal.loop-s-preserved
loop-s-preserved c =
    let v = c.args.state.now in
    let w = c.loop-s.state in
    let u = c.put_one.new.state in
    let at = c.args.c in
    let s = c.loop-s.s in
    let k = item_of c.args.signal in
    let same = c.loop-s.invariant.puts.tree.child at s in
    let here : c.to_child-to.result ≡ to_child_in (state_of w) at s k = c.to_child-to.ensures ∙ ap (to_child_in (state_of w) at s) c.item.ensures in
    let first : c.to_child-to.result ≡ to_child_in (state_of v) at s k = here ∙ ap (option_map {U = ℕ × ControlItem} (λ d. (d, k))) same in
    let uses : (d : ℕ) → control_spare u d ≡ control_spare w d - length (items_for (to_child_in (state_of w) at s k) d) = λ d. c.put_one.ensures.controls d ∙ ap (λ (o : Option (ℕ × ControlItem)). control_spare w d - length (items_for o d)) here in
    record {
      puts = put_next (state_of v) (state_of w) (state_of u) at s c.args.slots.now k c.to_child-to.result (omega (arith, c.loop-s-test.true, c.len-s-end.ensures)) first c.loop-s.invariant.puts c.put_one.ensures.step;
      room = keeps_again v w u c.loop-s.invariant.room c.put_one.ensures.room;
      left = left_next v c.holds_together.ensures at s k w u same uses c.loop-s.invariant.left;
      touched = touched_next v c.holds_together.ensures at s k w u same uses c.loop-s.invariant.left c.loop-s.invariant.touched;
      unborn = unborn_next v c.holds_together.ensures at s k w u same uses c.loop-s.invariant.unborn;
      queues = λ x d. c.put_one.ensures.queues x d ∙ c.loop-s.invariant.queues x d;
      marks = c.marks_add_up.ensures s 1 c.args.marks.now c.loop-s.marks c.put_one.new.marks (state_of v) (state_of w) (state_of u) c.loop-s.invariant.marks c.put_one.ensures.marks;
    }
