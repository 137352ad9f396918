use Rattle.std.proofs.Common.{◌∙◌}
use Rattle.kom_base.specs.declared.numbers.Dir.TheVariants.{Plus, Minus}
use Rattle.kom_state.specs.Insides.{parts_of}
use Rattle.kom_state.proofs.Conditions.{linked}
use Rattle.kom_state.proofs.Reading.{end_is}
use Rattle.kom_state.proofs.state.RunState.ends.Goals as goal

pub places-requires : goal.places-requires
places-requires c = linked (parts_of c.self.inside) c.args.x (rw (← c.self.view_is) at c.requires)

pub returns-clause-plus : goal.returns-clause-plus
returns-clause-plus c = rw (← c.self.view_is) (c.places.ensures.plus ∙ end_is (parts_of c.self.inside) c.args.x Plus)

pub returns-clause-minus : goal.returns-clause-minus
returns-clause-minus c = rw (← c.self.view_is) (c.places.ensures.minus ∙ end_is (parts_of c.self.inside) c.args.x Minus)
