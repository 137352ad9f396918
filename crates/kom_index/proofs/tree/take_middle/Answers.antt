use Rattle.std.proofs.Common.{sym, ap, ◌∙◌, subst}
use Rattle.kom_index.specs.Entries.{Rises}
use Rattle.kom_index.specs.Shape.{entries_of}
use Rattle.kom_index.proofs.Order.{sides_rise}
use Rattle.kom_index.proofs.tree.take_middle.Goals as goal

pub joined-rest-requires : goal.joined-rest-requires
joined-rest-requires g c =
    sides_rise g.K.Ord.cmp g.met.K.Ord.total c.in-Fork.l.value (c.in-Fork.key, c.in-Fork.value) c.in-Fork.r.value (subst (Rises g.K.Ord.cmp) (ap entries_of (sym c.replace.ensures.value ∙ c.in-Fork.is)) c.requires)

pub returns-in-Fork-clause-rises : goal.returns-in-Fork-clause-rises
returns-in-Fork-clause-rises g c =
    rw c.joined-rest.ensures (sides_rise g.K.Ord.cmp g.met.K.Ord.total c.in-Fork.l.value (c.in-Fork.key, c.in-Fork.value) c.in-Fork.r.value (subst (Rises g.K.Ord.cmp) (ap entries_of (sym c.replace.ensures.value ∙ c.in-Fork.is)) c.requires))
