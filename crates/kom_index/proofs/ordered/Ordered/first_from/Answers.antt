use Rattle.std.proofs.Common.{sym, subst}
use Rattle.kom_index.specs.Entries.{IsFirstFrom}
use Rattle.kom_index.proofs.Order.{first_is}
use Rattle.kom_index.proofs.ordered.Ordered.first_from.Goals as goal

pub returns-clause-least : goal.returns-clause-least
returns-clause-least g c =
    let here = first_is g.K.Ord.cmp g.met.K.Ord.total c.args.low.now c.self.inside.tree c.first_from.ensures.rises in
    rw (← c.self.view_is) (subst (IsFirstFrom g.K.Ord.cmp c.args.low.now c.self.inside.tree) (sym c.first_from.ensures.key) here)
