use Rattle.std.proofs.Common.{◌-◌, length, sym, refl}
use Rattle.std.proofs.Common.{append_assoc}
use Rattle.kom_tables.proofs.Ancestors.{rest_step, rest_past, rest_end, walk_done}
use Rattle.kom_tables.proofs.lines.line_of.Goals as goal
use Rattle.kom_tables.proofs.lines.line_of.Goals.{else-loop-test, then-loop-test+in_default, then-loop-test+in-Some+in_default-at}

pub loop-preserved : goal.loop-preserved
loop-preserved c =
    let e = rest_step (length c.args.parents.now) c.loop.counter c.args.parents.now c.in-Some.number c.in-Some-at.parent.now c.loop-test.true (sym c.in-Some-at.ensures) in
    rw c.in_ok-push.ensures.ok (rw append_assoc (rw (← e) (rw c.in-Some.is at c.loop.invariant)))

pub returns : goal.returns
returns c = walk_done _ _ _ c.loop.invariant (elim c.loop-test.branch [
  | else-loop-test w ↦ rest_end _ _ _ _ w.loop-test.false
  | then-loop-test+in_default w ↦ rw w.in_default.is refl
  | then-loop-test+in-Some+in_default-at w ↦ rw w.in-Some.is (rest_past (length c.args.parents.now - c.loop.counter) c.args.parents.now w.in-Some.number (sym w.in_default-at.ensures))
])
