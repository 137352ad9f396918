use Rattle.std.proofs.Common.{◌≡◌, take}
use Rattle.std.specs.List.{flat_map, enumerate_from}
use Rattle.kom_events.specs.Kin.{is_on_cycle}
use Rattle.kom_rules.specs.Names.{first_place, at_if}
use Rattle.kom_rules.specs.Spaces.{event_rows}
use Rattle.kom_ancestors.proofs.ancestors.own_ancestors.Given as goal

abbrev pub invariant-loop-number : goal.invariant-loop-number
invariant-loop-number l = l.first ≡ first_place (flat_map (λ x. at_if (is_on_cycle (event_rows l.parts) x.0) x.1.name.at) (enumerate_from 4 (take l.number l.part-items)))
