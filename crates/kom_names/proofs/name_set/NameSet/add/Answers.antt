use Rattle.kom_names.proofs.Keys.{with_name_map}
use Rattle.kom_names.proofs.name_set.NameSet.add.Goals as goal

pub returns-clause-ok : goal.returns-clause-ok
returns-clause-ok c = rw (← c.self.view_is) (with_name_map _ _ _ _ _ c.in_ok-key.ensures.items c.in_ok-insert.ensures.keys)
