use Rattle.std.proofs.Common.{◌-◌, length, sym, refl}
use Rattle.std.proofs.Common.{append_assoc}
use Rattle.kom_events.proofs.Walks.{line-step, line-past, line-end, walk-done}
use Rattle.kom_events.proofs.event_types.ancestors_of.Goals as goal
use Rattle.kom_events.proofs.event_types.ancestors_of.Goals.{else-loop-test, then-loop-test+in_default, then-loop-test+in-Some+in_default-at}

pub loop-preserved : goal.loop-preserved
loop-preserved c =
    let e = line-step (length c.args.rows.now) c.loop.counter c.args.rows.now c.in-Some.kind c.in-Some-at.row.now c.loop-test.true (sym c.in-Some-at.ensures) in
    rw c.in_ok-push.ensures.ok (rw append_assoc (rw (← e) (rw c.in-Some.is at c.loop.invariant)))

pub returns : goal.returns
returns c = walk-done _ _ _ c.loop.invariant (elim c.loop-test.branch [
  | else-loop-test w ↦ line-end _ _ _ _ w.loop-test.false
  | then-loop-test+in_default w ↦ rw w.in_default.is refl
  | then-loop-test+in-Some+in_default-at w ↦ rw w.in-Some.is (line-past (length c.args.rows.now - c.loop.counter) c.args.rows.now w.in-Some.kind (sym w.in_default-at.ensures))
])
