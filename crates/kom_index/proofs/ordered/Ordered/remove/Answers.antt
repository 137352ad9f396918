use Rattle.std.proofs.Common.{◌∙◌, None, cond, arith, refl, sym, ap, subst, length}
use Rattle.std.specs.Option.{IsSome}
use Rattle.std.specs.Ordering.{is_eq}
use Rattle.kom_index.specs.Stock.{entries}
use Rattle.kom_index.specs.Entries.{value_of}
use Rattle.kom_index.proofs.Order.{length-without, value-without, rises_without}
use Rattle.kom_index.proofs.ordered.Ordered.remove.Goals as goal

pub invariant_of-self : goal.invariant_of-self
invariant_of-self g c =
    let shorter = length-without g.K.Ord.cmp g.met.K.Ord.total c.args.key.now c.self.inside.tree c.remove-key.ensures.rises (subst IsSome (sym c.remove-key.ensures.value) refl) in
    let s = c.self.invariant in
    record {
      counted = omega (arith, shorter, ap length c.remove-key.ensures.rest, s.counted);
      paired = omega (arith, c.put.ensures.len, c.put-2.ensures.len, s.paired);
      fits = omega (arith, shorter, s.counted, c.put.ensures.room, c.put-2.ensures.room, s.fits, c.put.ensures.len, c.put-2.ensures.len, s.paired);
    }

pub returns-clause-values : goal.returns-clause-values
returns-clause-values g c = λ q.
    ap (value_of g.K.Ord.cmp q) c.remove-key.ensures.rest ∙ value-without g.K.Ord.cmp g.met.K.Ord.total c.args.key.now c.self.inside.tree q ∙ ap (λ d. cond (is_eq (g.K.Ord.cmp q c.args.key.now)) None (value_of g.K.Ord.cmp q (entries d))) c.self.view_is

pub returns-clause-rises : goal.returns-clause-rises
returns-clause-rises g c = rw c.remove-key.ensures.rest (rises_without g.K.Ord.cmp g.met.K.Ord.total c.args.key.now c.self.inside.tree c.remove-key.ensures.rises)

pub returns-clause-len : goal.returns-clause-len
returns-clause-len g c =
    let shorter = length-without g.K.Ord.cmp g.met.K.Ord.total c.args.key.now c.self.inside.tree c.remove-key.ensures.rises (subst IsSome (sym c.remove-key.ensures.value) refl) in
    omega (arith, shorter, ap length c.remove-key.ensures.rest, ap (λ d. length (entries d)) c.self.view_is)
