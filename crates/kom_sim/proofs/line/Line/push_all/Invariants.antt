use Rattle.std.proofs.Common.{◌≡◌, take}
use Rattle.kom_sim.specs.Line.{all_at_end}
use Rattle.kom_sim.proofs.line.Line.push_all.Given as goal

abbrev pub invariant-loop-i : goal.invariant-loop-i
invariant-loop-i l = l.self ≡ all_at_end l.initial.self (take l.i l.wakes)
