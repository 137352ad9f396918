use Rattle.kom_ready.specs.Lots.{AreLent, deques_of}
use Rattle.kom_ready.proofs.lots.ReadySet.make.Given as goal

abbrev pub invariant-loop-j : goal.invariant-loop-j
invariant-loop-j l = record { lent : AreLent (deques_of l.set) l.j 0 0 l.lots.items }
