use Rattle.std.proofs.Common.{◌≡◌, Option, Some, None, ◌∙◌, ap, sym, slice_get}
use Rattle.std.specs.Option.{option_and_then}
use Rattle.kom_system.specs.declared.parts.ComponentPart.{ComponentPart}
use Rattle.kom_rules.specs.Names.{first_place, names_of}
use Rattle.kom_rules.specs.Spaces.{component_named, component_names, port_spots}
use Rattle.kom_lookups.specs.Numbered.{number_from}
use Rattle.kom_lookups.proofs.Counted.{part_named}
use Rattle.kom_undeclared.proofs.Either.{in_inside, not_inside, unknown_in}
use Rattle.kom_undeclared.proofs.file.File.port_of.Goals as goal

pub returns-in-Some-at : goal.returns-in-Some-at
returns-in-Some-at c =
    let n : Some c.in-Some.number ≡ number_from 0 (component_names c.args.self.now.parts.now) c.args.kind.now.name = (rw c.bytes.ensures at c.in-Some.ensures) ∙ c.args.self.now.tabled.components c.args.kind.now.name in
    let is : slice_get c.args.self.now.parts.now.components c.in-Some.number ≡ component_named c.args.self.now.parts.now c.args.kind.now =
    ap (option_and_then (slice_get c.args.self.now.parts.now.components)) n ∙ sym (part_named (λ (x : ComponentPart). x.name) c.args.self.now.parts.now.components c.args.kind.now.name) in
    in_inside c.args.self.now.tables.now.inside c.args.self.now.parts.now.components c.in-Some.number c.in-Some-at.names.now c.args.port.now _ c.args.self.now.tabled.inside (rw c.as_slice.ensures at c.in-Some-at.ensures)
    (λ d h. c.unknown.ensures (names_of (port_spots d)) h.ports)
    ∙ ap (λ (o : Option ComponentPart). first_place (unknown_in c.args.port.now o)) is

pub returns-in-None-at : goal.returns-in-None-at
returns-in-None-at c =
    let n : Some c.in-Some.number ≡ number_from 0 (component_names c.args.self.now.parts.now) c.args.kind.now.name = (rw c.bytes.ensures at c.in-Some.ensures) ∙ c.args.self.now.tabled.components c.args.kind.now.name in
    let is : slice_get c.args.self.now.parts.now.components c.in-Some.number ≡ component_named c.args.self.now.parts.now c.args.kind.now =
    ap (option_and_then (slice_get c.args.self.now.parts.now.components)) n ∙ sym (part_named (λ (x : ComponentPart). x.name) c.args.self.now.parts.now.components c.args.kind.now.name) in
    let none : None ≡ component_named c.args.self.now.parts.now c.args.kind.now =
    sym (not_inside c.args.self.now.tables.now.inside c.args.self.now.parts.now.components c.in-Some.number c.args.self.now.tabled.inside (rw c.as_slice.ensures at c.in-None-at.ensures)) ∙ is in
    ap (λ (o : Option ComponentPart). first_place (unknown_in c.args.port.now o)) none

pub returns-in-None : goal.returns-in-None
returns-in-None c =
    let n : None ≡ number_from 0 (component_names c.args.self.now.parts.now) c.args.kind.now.name = (rw c.bytes.ensures at c.in-None.ensures) ∙ c.args.self.now.tabled.components c.args.kind.now.name in
    let none : None ≡ component_named c.args.self.now.parts.now c.args.kind.now =
    ap (option_and_then (slice_get c.args.self.now.parts.now.components)) n ∙ sym (part_named (λ (x : ComponentPart). x.name) c.args.self.now.parts.now.components c.args.kind.now.name) in
    ap (λ (o : Option ComponentPart). first_place (unknown_in c.args.port.now o)) none
