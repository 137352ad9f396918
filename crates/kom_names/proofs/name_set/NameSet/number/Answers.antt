use Rattle.kom_names.proofs.Keys.{numbered}
use Rattle.kom_names.proofs.name_set.NameSet.number.Goals as goal

pub returns : goal.returns
returns c = rw (← c.self.view_is) (numbered c.args.name.now c.self.inside.set.keys _ c.get_index_of.ensures.index)
