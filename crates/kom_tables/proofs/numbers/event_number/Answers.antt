use Rattle.std.proofs.Common.{◌≡◌, ◌<◌, ◌∙◌, Some, None, arith, length, ap}
use Rattle.kom_system.specs.declared.parts.EventPart.{EventPart}
use Rattle.kom_rules.specs.Names.{names_of}
use Rattle.kom_rules.specs.Spaces.{event_spots, built_in_event_names}
use Rattle.kom_lookups.specs.Numbered.{number_from}
use Rattle.kom_tables.proofs.Numbered.{behind_built_in, behind_all, few}
use Rattle.kom_tables.proofs.numbers.event_number.Goals as goal

pub overflow_add-result : goal.overflow_add-result
overflow_add-result c =
    let some : Some c.in-Some-number.number ≡ number_from 0 (names_of (event_spots c.args.parts.now)) c.args.spot.now.name = (rw c.bytes-in-None.ensures at c.in-Some-number.ensures) ∙ c.requires c.args.spot.now.name in
    let h : c.in-Some-number.number < length c.args.parts.now.events = few (λ (x : EventPart). x.name) c.args.parts.now.events c.args.spot.now.name c.in-Some-number.number some in
    let many : length c.as_slice-count.result.now ≡ length c.args.parts.now.events = ap length c.as_slice-count.ensures in
    omega (arith, h, many)

pub returns-in-Some-number : goal.returns-in-Some-number
returns-in-Some-number c =
    let some : Some c.in-Some-number.number ≡ number_from 0 (names_of (event_spots c.args.parts.now)) c.args.spot.now.name = (rw c.bytes-in-None.ensures at c.in-Some-number.ensures) ∙ c.requires c.args.spot.now.name in
    behind_built_in (λ (x : EventPart). x.name) built_in_event_names c.args.parts.now.events c.args.spot.now.name c.in-Some-number.number (rw c.bytes.ensures at c.in-None.ensures) some

pub returns-in-None-number : goal.returns-in-None-number
returns-in-None-number c =
    let none : None ≡ number_from 0 (names_of (event_spots c.args.parts.now)) c.args.spot.now.name = (rw c.bytes-in-None.ensures at c.in-None-number.ensures) ∙ c.requires c.args.spot.now.name in
    behind_all (λ (x : EventPart). x.name) built_in_event_names c.args.parts.now.events c.args.spot.now.name (length c.as_slice-count.result.now) (rw c.bytes.ensures at c.in-None.ensures) none (ap length c.as_slice-count.ensures)
