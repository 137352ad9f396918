use Rattle.std.proofs.Common.{sym, ◌∙◌, ap}
use Rattle.kom_scenario.specs.Names.{found}
use Rattle.kom_scenario.proofs.Looking.{found_lookup}
use Rattle.kom_scenario.proofs.names.Names.find.Goals as goal

pub returns : goal.returns
returns c = c.copied.ensures ∙ c.get.ensures.value ∙ sym (found_lookup c.self.inside.map.entries c.args.name.now) ∙ ap (λ m. found m c.args.name.now) c.self.view_is
