use Rattle.std.proofs.Common.{arith}
use Rattle.kom_rules.specs.Spaces.{component_names}
use Rattle.kom_resolve.proofs.Numbered.{number_fits, names_long}
use Rattle.kom_resolve.proofs.numbers.File.component.Goals as goal

pub overflow_cast-result : goal.overflow_cast-result
overflow_cast-result c = omega (arith, c.component_number.ensures, number_fits (component_names c.args.self.now.parts.now) c.args.spot.now.name, c.args.self.now.counted.components, names_long (λ x. x.name) c.args.self.now.parts.now.components)
