use Rattle.std.proofs.Common.{◌≡◌, Bool, not, is_some, ◌∙◌, ap}
use Rattle.kom_rules.specs.Names.{first_place, at_if, is_among}
use Rattle.kom_lookups.proofs.Counted.{number_some}
use Rattle.kom_lookups.proofs.named.unknown.Goals as goal

pub returns : goal.returns
returns c names has =
    let known : c.is_some-known.result ≡ is_among names c.args.spot.now.name =
    c.is_some-known.ensures ∙ ap is_some ((rw c.bytes.ensures at c.number.ensures) ∙ has c.args.spot.now.name) ∙ number_some 0 names c.args.spot.now.name in
    c.at_if.ensures ∙ ap (λ (b : Bool). first_place (at_if (not b) c.args.spot.now.at)) known
