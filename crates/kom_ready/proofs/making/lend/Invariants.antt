use Rattle.kom_ready.specs.Lots.{AreLent, deques_of}
use Rattle.kom_ready.proofs.making.lend.Given as goal

abbrev pub invariant-loop-i : goal.invariant-loop-i
invariant-loop-i l = record { lent : AreLent (deques_of l.set) l.j l.i l.i l.lots.items }
