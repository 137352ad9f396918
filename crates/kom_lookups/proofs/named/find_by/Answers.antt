use Rattle.std.proofs.Common.{◌≡◌, ◌∙◌, ap, sym, slice_get, map, Some, None}
use Rattle.std.specs.Option.{option_and_then}
use Rattle.kom_rules.specs.Names.{names_of}
use Rattle.kom_lookups.specs.Numbered.{number_from}
use Rattle.kom_lookups.proofs.Counted.{part_named}
use Rattle.kom_lookups.proofs.named.find_by.Goals as goal

pub returns-in-Some : goal.returns-in-Some
returns-in-Some g c has =
    let n : Some c.in-Some.number ≡ number_from 0 (names_of (map g.T.Declares.named c.args.parts.now)) c.args.spot.now.name = (rw c.bytes.ensures at c.in-Some.ensures) ∙ has c.args.spot.now.name in
    c.at.ensures ∙ ap (option_and_then (slice_get c.args.parts.now)) n ∙ sym (part_named g.T.Declares.named c.args.parts.now c.args.spot.now.name)

pub returns-in-None : goal.returns-in-None
returns-in-None g c has =
    let n : None ≡ number_from 0 (names_of (map g.T.Declares.named c.args.parts.now)) c.args.spot.now.name = (rw c.bytes.ensures at c.in-None.ensures) ∙ has c.args.spot.now.name in
    ap (option_and_then (slice_get c.args.parts.now)) n ∙ sym (part_named g.T.Declares.named c.args.parts.now c.args.spot.now.name)
