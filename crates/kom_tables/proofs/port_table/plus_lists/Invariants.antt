use Rattle.std.proofs.Common.{◌≡◌, ◌++◌, map, take}
use Rattle.kom_system.specs.Fitting.{built_in_ports}
use Rattle.kom_rules.specs.Spaces.{port_row}
use Rattle.kom_tables.proofs.port_table.plus_lists.Given as goal

abbrev pub invariant-loop-part : goal.invariant-loop-part
invariant-loop-part l = l.lists ≡ map (λ row. row.plus) (built_in_ports ++ map (port_row l.parts) (take l.part-index l.part-items))
