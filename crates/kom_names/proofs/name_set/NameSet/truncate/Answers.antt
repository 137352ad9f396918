use Rattle.std.proofs.Common.{sym, ap, ◌∙◌, map}
use Rattle.std.proofs.lemmas.List.{take-map}
use Rattle.kom_names.proofs.name_set.NameSet.truncate.Goals as goal

pub returns : goal.returns
returns c = rw (← c.self.view_is) (ap (map _) c.truncate.ensures.keys ∙ sym (take-map _ _ _))
