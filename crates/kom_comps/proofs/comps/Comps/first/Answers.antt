use Rattle.std.proofs.Common.{◌<◌, sym, subst}
use Rattle.std.specs.Prelude.{IfSome}
use Rattle.std.specs.Ordering.{nat_cmp}
use Rattle.kom_index.specs.Entries.{IsFirstFrom}
use Rattle.kom_comps.specs.Members.{IsLeast}
use Rattle.kom_comps.proofs.Counting.{is_least, is_below}
use Rattle.kom_comps.proofs.comps.Comps.first.Goals as goal

pub returns-clause-least : goal.returns-clause-least
returns-clause-least c =
    subst (λ m. IsLeast m c.copied.result) c.self.view_is
    (is_least c.self.inside.members.0 c.self.inside.bound c.copied.result
    (subst (IsFirstFrom nat_cmp 0 c.self.inside.members.0) (sym c.copied.ensures) c.first_from.ensures.least))

pub returns-clause-below : goal.returns-clause-below
returns-clause-below c =
    subst (λ m. IfSome c.copied.result (λ k. k < m.bound)) c.self.view_is
    (is_below c.self.inside.members.0 c.self.inside.members.1 c.self.inside.count c.self.inside.bound c.copied.result c.self.invariant
    (subst (IsFirstFrom nat_cmp 0 c.self.inside.members.0) (sym c.copied.ensures) c.first_from.ensures.least))
