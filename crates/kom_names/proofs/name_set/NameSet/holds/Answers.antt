use Rattle.kom_names.proofs.Keys.{held}
use Rattle.kom_names.proofs.name_set.NameSet.holds.Goals as goal

pub returns : goal.returns
returns c = rw (← c.self.view_is) (held c.args.name.now c.self.inside.set.keys _ c.contains.ensures)
