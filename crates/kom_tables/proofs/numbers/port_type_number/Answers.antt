use Rattle.std.proofs.Common.{◌≡◌, ◌<◌, ◌∙◌, Some, None, arith, length, ap}
use Rattle.kom_system.specs.declared.parts.PortTypePart.{PortTypePart}
use Rattle.kom_rules.specs.Names.{names_of}
use Rattle.kom_rules.specs.Spaces.{port_type_spots, built_in_port_names}
use Rattle.kom_lookups.specs.Numbered.{number_from}
use Rattle.kom_tables.proofs.Numbered.{behind_built_in, behind_all, few}
use Rattle.kom_tables.proofs.numbers.port_type_number.Goals as goal

pub overflow_add-result : goal.overflow_add-result
overflow_add-result c =
    let some : Some c.in-Some-number.number ≡ number_from 0 (names_of (port_type_spots c.args.parts.now)) c.args.spot.now.name = (rw c.bytes-in-None.ensures at c.in-Some-number.ensures) ∙ c.requires c.args.spot.now.name in
    let h : c.in-Some-number.number < length c.args.parts.now.ports = few (λ (x : PortTypePart). x.name) c.args.parts.now.ports c.args.spot.now.name c.in-Some-number.number some in
    let many : length c.as_slice-count.result.now ≡ length c.args.parts.now.ports = ap length c.as_slice-count.ensures in
    omega (arith, h, many)

pub returns-in-Some-number : goal.returns-in-Some-number
returns-in-Some-number c =
    let some : Some c.in-Some-number.number ≡ number_from 0 (names_of (port_type_spots c.args.parts.now)) c.args.spot.now.name = (rw c.bytes-in-None.ensures at c.in-Some-number.ensures) ∙ c.requires c.args.spot.now.name in
    behind_built_in (λ (x : PortTypePart). x.name) built_in_port_names c.args.parts.now.ports c.args.spot.now.name c.in-Some-number.number (rw c.bytes.ensures at c.in-None.ensures) some

pub returns-in-None-number : goal.returns-in-None-number
returns-in-None-number c =
    let none : None ≡ number_from 0 (names_of (port_type_spots c.args.parts.now)) c.args.spot.now.name = (rw c.bytes-in-None.ensures at c.in-None-number.ensures) ∙ c.requires c.args.spot.now.name in
    behind_all (λ (x : PortTypePart). x.name) built_in_port_names c.args.parts.now.ports c.args.spot.now.name (length c.as_slice-count.result.now) (rw c.bytes.ensures at c.in-None.ensures) none (ap length c.as_slice-count.ensures)
