use Rattle.std.proofs.Common.{arith}
use Rattle.kom_rules.specs.Spaces.{port_type_names}
use Rattle.kom_resolve.proofs.Numbered.{number_fits}
use Rattle.kom_resolve.proofs.numbers.File.port_type.Goals as goal

pub overflow_cast-result : goal.overflow_cast-result
overflow_cast-result c = omega (arith, c.port_type_number.ensures, number_fits (port_type_names c.args.self.now.parts.now) c.args.spot.now.name, c.args.self.now.counted.port_types)
