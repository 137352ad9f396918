use Rattle.std.proofs.Common.{◌∙◌, Some, cond, refl, sym, ap, subst}
use Rattle.std.specs.Option.{IsSome}
use Rattle.std.specs.Ordering.{is_eq}
use Rattle.kom_index.specs.Stock.{entries}
use Rattle.kom_index.specs.Entries.{value_of}
use Rattle.kom_index.proofs.Order.{value-revalued, rises_revalued}
use Rattle.kom_index.proofs.ordered.Ordered.swap.Goals as goal

pub returns-clause-values : goal.returns-clause-values
returns-clause-values g c = λ q.
    ap (value_of g.K.Ord.cmp q) c.swap.ensures.new
    ∙ value-revalued g.K.Ord.cmp g.met.K.Ord.total c.args.key.now c.args.value.now c.self.inside.tree (subst IsSome (sym c.swap.ensures.old) refl) q
    ∙ ap (λ d. cond (is_eq (g.K.Ord.cmp q c.args.key.now)) (Some c.args.value.now) (value_of g.K.Ord.cmp q (entries d))) c.self.view_is

pub returns-clause-rises : goal.returns-clause-rises
returns-clause-rises g c = rw c.swap.ensures.new (rises_revalued g.K.Ord.cmp g.met.K.Ord.total c.args.key.now c.args.value.now c.self.inside.tree c.swap.ensures.rises)
