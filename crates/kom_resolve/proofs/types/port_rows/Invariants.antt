use Rattle.std.proofs.Common.{◌≡◌, ◌++◌, take, map}
use Rattle.kom_system.specs.Fitting.{built_in_ports}
use Rattle.kom_rules.specs.Spaces.{port_row}
use Rattle.kom_resolve.proofs.types.port_rows.Given as goal

abbrev pub invariant-loop-part : goal.invariant-loop-part
invariant-loop-part l = l.rows.items ≡ built_in_ports ++ map (port_row l.file.parts.now) (take l.part-index l.file.parts.now.ports)
