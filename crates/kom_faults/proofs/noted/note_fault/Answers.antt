use Rattle.std.proofs.Common.{◌≡◌, ◌||◌, ℕ, Bool, true, false, refl, sym, ap, ◌∙◌, subst, Option, Some, None}
use Rattle.std.specs.Prelude.{IfSome, is_none, is_some, not}
use Rattle.std.proofs.lemmas.Bool.{eq-eqb}
use Rattle.kom_comps.specs.Members.{has}
use Rattle.kom_record.specs.declared.entry.Outcome.TheVariants as outcome
use Rattle.kom_record.specs.Bodies.{catches}
use Rattle.kom_refine.specs.Steps.{ArePut, IsEnded}
use Rattle.kom_state.specs.Facts.{HoldsTogether}
use Rattle.kom_state.specs.Parts.{Parts, state_of}
use Rattle.kom_state.specs.Readings.{ancestry_at}
use Rattle.kom_puts.specs.Laws.{fault_to}
use Rattle.kom_puts.specs.Puts.{is_above, items_for}
use Rattle.kom_puts.proofs.Living.{above_lives}
use Rattle.kom_turns.proofs.Taking.{turned}
use Rattle.kom_faults.proofs.noted.note_fault.Goals as goal

told_lives : (v : Parts) (h : HoldsTogether v) (c number : ℕ) (told : Option (ℕ × ℕ)) → (state_of v).living c ≡ true → is_above (state_of v) c told ≡ true → IfSome (fault_to told number) (λ a. (state_of v).living a.0 ≡ true)
told_lives v h c number None l t = tt
told_lives v h c number (Some q) l t = above_lives v h (ancestry_at (state_of v) c) c q.0 l refl t

pub put_one-requires-clause-living : goal.put_one-requires-clause-living
put_one-requires-clause-living c =
    let v = c.args.run.now.state in
    subst (λ o. IfSome o (λ a. (state_of v).living a.0 ≡ true)) (sym c.fault_for.ensures)
    (told_lives v c.holds_together.ensures c.args.c c.args.number c.args.told.now c.requires.living c.requires.above)

none_by : (o : Option (ℕ × ℕ)) (r : Bool) → is_some o ≡ not r → is_none o ≡ r
none_by None true e = refl
none_by None false e = absurd cc
none_by (Some q) true e = absurd cc
none_by (Some q) false e = refl

on_true : (a : Bool) → true ≡ (a || true)
on_true true = refl
on_true false = refl

on_false : (a : Bool) → a ≡ (a || false)
on_false true = refl
on_false false = refl

pub returns-then-is_none-clause-noted : goal.returns-then-is_none-clause-noted
returns-then-is_none-clause-noted c =
    let v = c.args.run.now in
    let m = state_of v.state in
    let k = state_of c.put_one.new.state in
    let n = state_of c.fault.new.self in
    let at = c.args.c in
    let number = c.args.number in
    let ended : IsEnded (catches (c.deref.result.now).declarations) at (outcome.Fault number) k n = c.fault.ensures.step number in
    record {
      system = refl;
      history = refl;
      between = k;
      put = subst (λ o. ArePut (items_for o) m k) c.fault_for.ensures c.put_one.ensures.step;
      ended = subst (λ y. IsEnded (catches y.declarations) at (outcome.Fault number) k n) c.deref.ensures ended;
      outs = ap (λ x. x.outs) (c.fault.ensures.room.numbers ∙ c.put_one.ensures.room.numbers);
      widths = ap (λ x. x.counts) (c.fault.ensures.room.numbers ∙ c.put_one.ensures.room.numbers);
      env = refl;
      jobs = refl;
      busy = refl;
      runnable = refl;
      marks = c.marks_add_up.ensures 1 1 v.marks c.put_one.new.marks c.mark.new.marks m k n c.put_one.ensures.marks
          (c.mark.ensures.marked k n (λ d apart. c.ends_leave.ensures (catches (c.deref.result.now).declarations) at (outcome.Fault number) k n d ended (turned at d ∙ apart)));
      marked = c.mark.ensures.each at ∙ ap (λ b. b || has c.put_one.new.marks at) (eq-eqb at at refl);
      steps = refl;
      instants = refl;
      unhandled = on_true v.counts.unhandled ∙ ap (λ b. v.counts.unhandled || b) (sym (none_by c.args.told.now c.is_none.result c.is_none.ensures ∙ c.if-is_none.true));
      queued = refl;
      out = refl;
    }

pub returns-else-is_none-clause-noted : goal.returns-else-is_none-clause-noted
returns-else-is_none-clause-noted c =
    let v = c.args.run.now in
    let m = state_of v.state in
    let k = state_of c.put_one.new.state in
    let n = state_of c.fault.new.self in
    let at = c.args.c in
    let number = c.args.number in
    let ended : IsEnded (catches (c.deref.result.now).declarations) at (outcome.Fault number) k n = c.fault.ensures.step number in
    record {
      system = refl;
      history = refl;
      between = k;
      put = subst (λ o. ArePut (items_for o) m k) c.fault_for.ensures c.put_one.ensures.step;
      ended = subst (λ y. IsEnded (catches y.declarations) at (outcome.Fault number) k n) c.deref.ensures ended;
      outs = ap (λ x. x.outs) (c.fault.ensures.room.numbers ∙ c.put_one.ensures.room.numbers);
      widths = ap (λ x. x.counts) (c.fault.ensures.room.numbers ∙ c.put_one.ensures.room.numbers);
      env = refl;
      jobs = refl;
      busy = refl;
      runnable = refl;
      marks = c.marks_add_up.ensures 1 1 v.marks c.put_one.new.marks c.mark.new.marks m k n c.put_one.ensures.marks
          (c.mark.ensures.marked k n (λ d apart. c.ends_leave.ensures (catches (c.deref.result.now).declarations) at (outcome.Fault number) k n d ended (turned at d ∙ apart)));
      marked = c.mark.ensures.each at ∙ ap (λ b. b || has c.put_one.new.marks at) (eq-eqb at at refl);
      steps = refl;
      instants = refl;
      unhandled = on_false v.counts.unhandled ∙ ap (λ b. v.counts.unhandled || b) (sym (none_by c.args.told.now c.is_none.result c.is_none.ensures ∙ c.if-is_none.false));
      queued = refl;
      out = refl;
    }
