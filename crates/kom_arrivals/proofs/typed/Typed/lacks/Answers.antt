use Rattle.std.proofs.Common.{◌≡◌, ◌∙◌, ap, Bool, not}
use Rattle.kom_rules.specs.Names.{first_place, at_if, is_among}
use Rattle.kom_rules.specs.Spaces.{attribute_names, event_number}
use Rattle.kom_arrivals.proofs.typed.Typed.lacks.Goals as goal

pub returns : goal.returns
returns c =
    let has : c.has_attribute-has.result ≡ is_among (attribute_names c.args.self.now.parts.now (event_number c.args.self.now.parts.now c.args.kind.now)) c.args.attr.now.name =
    rw (c.number-number.ensures, c.bytes.ensures) at (c.has_attribute-has.ensures c.args.self.now.parts.now c.args.self.now.tabled.events) in
    c.at_if.ensures ∙ ap (λ (b : Bool). first_place (at_if (not b) c.args.attr.now.at)) has
