use Rattle.std.proofs.Common.{◌∙◌, length, ap}
use Rattle.kom_system.specs.declared.parts.ComponentPart.{ComponentPart}
use Rattle.kom_tables.proofs.Numbered.{declared_alone, undeclared_alone}
use Rattle.kom_tables.proofs.numbers.component_number.Goals as goal

pub returns-in-Some : goal.returns-in-Some
returns-in-Some c = declared_alone (λ (x : ComponentPart). x.name) c.args.parts.now.components c.args.spot.now.name c.in-Some.number ((rw c.bytes.ensures at c.in-Some.ensures) ∙ c.requires c.args.spot.now.name)

pub returns-in-None : goal.returns-in-None
returns-in-None c =
    undeclared_alone (λ (x : ComponentPart). x.name) c.args.parts.now.components c.args.spot.now.name (length c.as_slice-count.result.now)
    ((rw c.bytes.ensures at c.in-None.ensures) ∙ c.requires c.args.spot.now.name) (ap length c.as_slice-count.ensures)
