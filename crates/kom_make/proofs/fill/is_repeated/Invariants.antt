use Rattle.std.proofs.Common.{◌≡◌, length}
use Rattle.kom_make.specs.Texts.{is_repeated}
use Rattle.kom_make.proofs.fill.is_repeated.Given as goal

abbrev pub invariant-loop-rest : goal.invariant-loop-rest
invariant-loop-rest l = is_repeated l.line ≡ is_repeated l.rest

abbrev pub decreases-loop-rest : goal.decreases-loop-rest
decreases-loop-rest l = length l.rest
