use Rattle.std.proofs.Common.{◌≡◌, map, take}
use Rattle.kom_system.proofs.birth.declared_values.Given as goal

abbrev pub invariant-loop-var : goal.invariant-loop-var
invariant-loop-var l = l.values ≡ map (λ v. v.first) (take l.var-index l.var-items)
