use Rattle.std.proofs.Common.{◌≡◌, ◌++◌, length}
use Rattle.kom_make.specs.Texts.{filled}
use Rattle.kom_make.proofs.fill.fill.Given as goal

abbrev pub invariant-loop-rest : goal.invariant-loop-rest
invariant-loop-rest l = l.out.items ++ filled l.place l.rest ≡ l.initial.out.items ++ filled l.place l.text

abbrev pub decreases-loop-rest : goal.decreases-loop-rest
decreases-loop-rest l = length l.rest
