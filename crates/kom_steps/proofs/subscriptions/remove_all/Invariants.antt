use Rattle.std.proofs.Common.{◌≡◌, ◌==◌, ◌-◌, ◌++◌, length, not, filter, take, drop}
use Rattle.kom_steps.proofs.subscriptions.remove_all.Given as goal

abbrev pub invariant-loop-i : goal.invariant-loop-i
invariant-loop-i l = take l.i l.subs ++ filter (λ x. not (x == l.h)) (drop l.i l.subs) ≡ filter (λ x. not (x == l.h)) l.fn.subs

abbrev pub decreases-loop-i : goal.decreases-loop-i
decreases-loop-i l = length l.subs - l.i
