use Rattle.std.proofs.Common.{◌∙◌, Some, cond, arith, ap, length}
use Rattle.std.specs.Ordering.{is_eq}
use Rattle.kom_index.specs.Stock.{entries}
use Rattle.kom_index.specs.Entries.{value_of}
use Rattle.kom_index.proofs.Order.{length-inserted, value-inserted, rises_inserted, absent}
use Rattle.kom_index.proofs.ordered.Ordered.insert.Goals as goal

pub invariant_of-self : goal.invariant_of-self
invariant_of-self g c =
    let longer = length-inserted g.K.Ord.cmp g.met.K.Ord.total c.args.key c.args.value c.self.inside.tree in
    let s = c.self.invariant in
    record {
      counted = omega (arith, longer, ap length c.insert.ensures.new, s.counted);
      paired = omega (arith, c.take-left.ensures.len, c.take-right.ensures.len, s.paired);
      fits = omega (arith, c.take-left.ensures.room, c.take-right.ensures.room, s.fits, c.take-left.ensures.len, c.take-right.ensures.len, s.paired);
    }

pub returns-clause-values : goal.returns-clause-values
returns-clause-values g c = λ q.
    ap (value_of g.K.Ord.cmp q) c.insert.ensures.new
    ∙ value-inserted g.K.Ord.cmp g.met.K.Ord.total c.args.key c.args.value c.self.inside.tree (absent g.K.Ord.cmp c.args.key c.self.inside.tree (ap (λ d. value_of g.K.Ord.cmp c.args.key (entries d)) c.self.view_is ∙ c.requires.absent)) q
    ∙ ap (λ d. cond (is_eq (g.K.Ord.cmp q c.args.key)) (Some c.args.value) (value_of g.K.Ord.cmp q (entries d))) c.self.view_is

pub returns-clause-rises : goal.returns-clause-rises
returns-clause-rises g c =
    rw c.insert.ensures.new (rises_inserted g.K.Ord.cmp g.met.K.Ord.total c.args.key c.args.value c.self.inside.tree c.insert.ensures.rises (absent g.K.Ord.cmp c.args.key c.self.inside.tree (ap (λ d. value_of g.K.Ord.cmp c.args.key (entries d)) c.self.view_is ∙ c.requires.absent)))
