use Rattle.std.proofs.Common.{◌≡◌, ◌++◌, ◌∷◌, true, false, map, OnOk, sym, ap, ◌∙◌, subst}
use Rattle.std.specs.Ordering.{is_lt}
use Rattle.kom_index.specs.Entries.{between}
use Rattle.kom_index.specs.Shape.{entries_of}
use Rattle.kom_index.proofs.Order.{between_right, between_left, between_both, lt_less}
use Rattle.kom_index.proofs.Shapes.{at_fork}
use Rattle.kom_index.proofs.tree.Tree.+keys_between.Goals as goal

pub returns-then-is_lt-clause-ok : goal.returns-then-is_lt-clause-ok
returns-then-is_lt-clause-ok g t c =
    let f = at_fork g.K.Ord.cmp c.args.self.now c.in-Fork.l.value c.in-Fork.k c.in-Fork.field-2 c.in-Fork.r.value _ c.self.view_is c.self.invariant (ap entries_of c.in-Fork.is) in
    let lt : is_lt (g.K.Ord.cmp c.in-Fork.k c.args.low.now) ≡ true = cc in
    let is = between_right g.K.Ord.cmp g.met.K.Ord.total c.args.low.now c.args.high.now c.in-Fork.l.value (c.in-Fork.k, c.in-Fork.field-2) c.in-Fork.r.value f.rises (lt_less _ lt) in
    let same = ap (between g.K.Ord.cmp c.args.low.now c.args.high.now) c.deref.ensures ∙ sym (ap (between g.K.Ord.cmp c.args.low.now c.args.high.now) f.is ∙ is) in
    subst (λ d. OnOk c.keys_between.result (c.keys_between.new.keys.items ≡ c.args.keys.now.items ++ map (λ e. e.0) d)) same c.keys_between.ensures.ok

pub returns-then-is_lt-2-clause-ok : goal.returns-then-is_lt-2-clause-ok
returns-then-is_lt-2-clause-ok g t c =
    let f = at_fork g.K.Ord.cmp c.args.self.now c.in-Fork.l.value c.in-Fork.k c.in-Fork.field-2 c.in-Fork.r.value _ c.self.view_is c.self.invariant (ap entries_of c.in-Fork.is) in
    let lt : is_lt (g.K.Ord.cmp c.args.high.now c.in-Fork.k) ≡ true = cc in
    let is = between_left g.K.Ord.cmp g.met.K.Ord.total c.args.low.now c.args.high.now c.in-Fork.l.value (c.in-Fork.k, c.in-Fork.field-2) c.in-Fork.r.value f.rises (lt_less _ lt) in
    c.in_ok-keys_between-in-Fork.ensures.ok ∙ ap (λ d. c.args.keys.now.items ++ map (λ e. e.0) (between g.K.Ord.cmp c.args.low.now c.args.high.now d)) c.deref-in-Fork.ensures
    ∙ sym (ap (λ d. c.args.keys.now.items ++ map (λ e. e.0) (between g.K.Ord.cmp c.args.low.now c.args.high.now d)) f.is ∙ ap (λ d. c.args.keys.now.items ++ map (λ e. e.0) d) is)
