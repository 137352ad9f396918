use Rattle.std.proofs.Common.{◌≡◌, take}
use Rattle.std.specs.List.{flat_map, enumerate_from}
use Rattle.kom_rules.specs.Names.{first_place, at_if}
use Rattle.kom_rules.specs.Fitting.{is_too_large}
use Rattle.kom_containers.proofs.containers.too_large.Given as goal

abbrev pub invariant-loop-number : goal.invariant-loop-number
invariant-loop-number l = l.first ≡ first_place (flat_map (λ x. at_if (is_too_large l.parts x.0) x.1.name.at) (enumerate_from 0 (take l.number l.part-items)))
