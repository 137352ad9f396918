use Rattle.std.proofs.Common.{ap, ◌∙◌, sym, arith}
use Rattle.kom_sim.specs.Line.{at_end}
use Rattle.kom_sim.proofs.Counts.{one_more_at_end, none_within}
use Rattle.kom_sim.proofs.line.Line.push_all.Goals as goal
use Rattle.kom_sim.proofs.line.Line.push_all.Goals.{in-Some+in_ok-push, in_default}

pub loop-i-preserved : goal.loop-i-preserved
loop-i-preserved c =
    elim c.match-at.branch [
      | in-Some+in_ok-push w ↦ w.self-is ∙ w.in_ok-push.ensures.ok ∙ ap (λ l. at_end l w.in-Some.c.now) c.loop-i.invariant ∙ sym (one_more_at_end c.args.self.now c.args.wakes.now c.loop-i.i w.in-Some.c.now w.in-Some.ensures)
      | in_default w ↦ absurd (none_within c.args.wakes.now c.loop-i.i w.in_default.ensures (omega (arith, c.loop-i-test.true, c.len-i-end.ensures)))
    ]
