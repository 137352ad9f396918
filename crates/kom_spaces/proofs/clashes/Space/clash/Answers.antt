use Rattle.std.proofs.Common.{◌∙◌, ap, max}
use Rattle.std.specs.Option.{option_map}
use Rattle.kom_rules.specs.Spaces.{item_spots}
use Rattle.kom_spaces.proofs.Noted.{clash_first}
use Rattle.kom_spaces.proofs.clashes.Space.clash.Goals as goal

pub returns : goal.returns
returns c =
    c.earlier.ensures ∙ clash_first (item_spots c.args.self.now.part.now) c.args.spot.now.name _ c.args.spot.now.at _ _ (rw (c.holds.ensures, c.bytes.ensures) at c.at_if-in_scope.ensures)
    (c.later_of-in_space.ensures ∙ ap (option_map (max c.args.spot.now.at)) ((rw c.bytes-2.ensures at c.place.ensures) ∙ c.args.self.now.noted c.args.spot.now.name))
