use Rattle.std.proofs.Common.{◌≡◌, map, take}
use Rattle.std.specs.List.{enumerate_from}
use Rattle.kom_births.specs.Seeds.{seed_in}
use Rattle.kom_births.proofs.seeding.seeds_of.Given as goal

abbrev pub invariant-loop-k : goal.invariant-loop-k
invariant-loop-k l = l.seeds.items ≡ map (seed_in l.number l.sprouts l.system.declarations) (take l.k (enumerate_from l.number l.sprouts))
