use Rattle.std.proofs.Common.{◌≡◌, ◌∙◌, ap, ℕ, not, ◌==◌}
use Rattle.kom_events.specs.Kin.{attributes}
use Rattle.kom_rules.specs.Names.{first_place, at_if}
use Rattle.kom_rules.specs.Spaces.{event_rows, event_number}
use Rattle.kom_arrivals.proofs.typed.Typed.wrong_values.Goals as goal

pub returns : goal.returns
returns c =
    let many : c.attribute_count-attributes.result ≡ attributes (event_rows c.args.self.now.parts.now) (event_number c.args.self.now.parts.now c.args.kind.now) =
    rw c.number-number.ensures at (c.attribute_count-attributes.ensures c.args.self.now.parts.now c.args.self.now.tabled.events) in
    c.at_if.ensures ∙ ap (λ (n : ℕ). first_place (at_if (not (c.args.count == n)) c.args.kind.now.at)) many
