use Rattle.std.proofs.Common.{◌≡◌, map, take}
use Rattle.kom_containers.proofs.containers.ones.Given as goal

abbrev pub invariant-loop : goal.invariant-loop
invariant-loop l = l.own ≡ map (λ c. 1) (take l.index l.items)
