use Rattle.std.proofs.Common.{List, ℕ, ◌∙◌, ap, map}
use Rattle.std.specs.List.{flat_map}
use Rattle.kom_system.specs.declared.parts.Spot.{Spot}
use Rattle.kom_rules.specs.Names.{first_place}
use Rattle.kom_spaces.proofs.Noted.{later_is}
use Rattle.kom_spaces.proofs.twice.first_repeated_of.Goals as goal

pub returns : goal.returns
returns g c =
    let spots : List Spot = map g.T.Declares.named c.args.parts.now in
    c.first_later.ensures ∙ ap (λ (f : Spot → List ℕ). first_place (flat_map f spots)) (later_is c.note_all.new.places spots (rw c.new-places.ensures at c.in_ok-note_all.ensures))
