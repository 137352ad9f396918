use Rattle.std.proofs.Common.{sym, ap, ◌∙◌}
use Rattle.kom_index.specs.Entries.{value_of}
use Rattle.kom_index.specs.Shape.{entries_of}
use Rattle.kom_index.proofs.Order.{value_left, value_middle, value_right}
use Rattle.kom_index.proofs.Shapes.{at_fork}
use Rattle.kom_index.proofs.tree.Tree.+get.Goals as goal

pub returns-in-Less-clause-value : goal.returns-in-Less-clause-value
returns-in-Less-clause-value g t c =
    let f = at_fork g.K.Ord.cmp c.args.self.now c.in-Fork.l.value c.in-Fork.k c.in-Fork.v c.in-Fork.r.value _ c.self.view_is c.self.invariant (ap entries_of c.in-Fork.is) in
    c.get.ensures.value ∙ ap (value_of g.K.Ord.cmp c.args.key.now) c.deref.ensures ∙ sym (ap (value_of g.K.Ord.cmp c.args.key.now) f.is ∙ value_left g.K.Ord.cmp g.met.K.Ord.total c.args.key.now c.in-Fork.l.value (c.in-Fork.k, c.in-Fork.v) c.in-Fork.r.value f.rises (sym c.in-Less.ensures))

pub returns-in-Equal-clause-value : goal.returns-in-Equal-clause-value
returns-in-Equal-clause-value g t c =
    let f = at_fork g.K.Ord.cmp c.args.self.now c.in-Fork.l.value c.in-Fork.k c.in-Fork.v c.in-Fork.r.value _ c.self.view_is c.self.invariant (ap entries_of c.in-Fork.is) in
    sym (ap (value_of g.K.Ord.cmp c.args.key.now) f.is ∙ value_middle g.K.Ord.cmp g.met.K.Ord.total c.args.key.now c.in-Fork.l.value (c.in-Fork.k, c.in-Fork.v) c.in-Fork.r.value f.rises (sym c.in-Equal.ensures))

pub returns-in-Greater-clause-value : goal.returns-in-Greater-clause-value
returns-in-Greater-clause-value g t c =
    let f = at_fork g.K.Ord.cmp c.args.self.now c.in-Fork.l.value c.in-Fork.k c.in-Fork.v c.in-Fork.r.value _ c.self.view_is c.self.invariant (ap entries_of c.in-Fork.is) in
    c.get-in-Greater.ensures.value ∙ ap (value_of g.K.Ord.cmp c.args.key.now) c.deref-in-Greater.ensures ∙ sym (ap (value_of g.K.Ord.cmp c.args.key.now) f.is ∙ value_right g.K.Ord.cmp g.met.K.Ord.total c.args.key.now c.in-Fork.l.value (c.in-Fork.k, c.in-Fork.v) c.in-Fork.r.value f.rises (sym c.in-Greater.ensures))
