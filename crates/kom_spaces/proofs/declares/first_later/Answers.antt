use Rattle.std.proofs.Common.{◌∙◌, sym, ap}
use Rattle.kom_rules.specs.Names.{first_place}
use Rattle.kom_spaces.specs.Tables.{later_in}
use Rattle.kom_spaces.proofs.Noted.{flat_map_over}
use Rattle.kom_spaces.proofs.declares.first_later.Goals as goal

pub returns : goal.returns
returns g c = c.first_of.ensures ∙ ap first_place (sym (flat_map_over (later_in c.args.places.now) g.T.Declares.named c.args.parts.now))
