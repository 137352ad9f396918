use Rattle.std.proofs.Common.{◌<◌, sym, ap, ◌∙◌, subst, arith, length, rules}
use Rattle.std.specs.Option.{IsSome, is_some}
use Rattle.kom_index.specs.Entries.{value_of}
use Rattle.kom_index.specs.Shape.{entries_of}
use Rattle.kom_index.proofs.Order.{value_left, value_right, value_middle, revalue_less, revalue_more, revalue_tied}
use Rattle.kom_index.proofs.Shapes.{at_fork}
use Rattle.kom_index.proofs.tree.Tree.+swap.Goals as goal
use Rattle.kom_index.proofs.tree.Tree.+swap.Goals.{in-Leaf, in-Fork+in-Less, in-Fork+in-Equal, in-Fork+in-Greater}

pub swap-requires : goal.swap-requires
swap-requires g t c =
    let f = at_fork g.K.Ord.cmp c.args.self.now c.in-Fork.l.value c.in-Fork.k c.in-Fork.v c.in-Fork.r.value _ c.self.view_is c.self.invariant (ap entries_of c.in-Fork.is) in
    let short : length c.deref_mut.result.now < t = omega (arith, ap length c.deref_mut.ensures.value, f.left_shorter, c.decreases) in
    let here : IsSome (value_of g.K.Ord.cmp c.args.key.now c.deref_mut.result.now) =
    subst IsSome (ap (value_of g.K.Ord.cmp c.args.key.now) f.is ∙ value_left g.K.Ord.cmp g.met.K.Ord.total c.args.key.now c.in-Fork.l.value (c.in-Fork.k, c.in-Fork.v) c.in-Fork.r.value f.rises (sym c.in-Less.ensures) ∙ ap (value_of g.K.Ord.cmp c.args.key.now) (sym c.deref_mut.ensures.value)) c.requires in
    search rules

pub swap-requires-in-Greater : goal.swap-requires-in-Greater
swap-requires-in-Greater g t c =
    let f = at_fork g.K.Ord.cmp c.args.self.now c.in-Fork.l.value c.in-Fork.k c.in-Fork.v c.in-Fork.r.value _ c.self.view_is c.self.invariant (ap entries_of c.in-Fork.is) in
    let short : length c.deref_mut-in-Greater.result.now < t = omega (arith, ap length c.deref_mut-in-Greater.ensures.value, f.right_shorter, c.decreases) in
    let here : IsSome (value_of g.K.Ord.cmp c.args.key.now c.deref_mut-in-Greater.result.now) =
    subst IsSome (ap (value_of g.K.Ord.cmp c.args.key.now) f.is ∙ value_right g.K.Ord.cmp g.met.K.Ord.total c.args.key.now c.in-Fork.l.value (c.in-Fork.k, c.in-Fork.v) c.in-Fork.r.value f.rises (sym c.in-Greater.ensures) ∙ ap (value_of g.K.Ord.cmp c.args.key.now) (sym c.deref_mut-in-Greater.ensures.value)) c.requires in
    search rules

pub invariant_of-self : goal.invariant_of-self
invariant_of-self g t c =
    elim c.match-self.branch [
      | in-Leaf w ↦ absurd (cc (c.requires, ap (λ d. is_some (value_of g.K.Ord.cmp c.args.key.now d)) (sym c.self.view_is ∙ ap entries_of w.in-Leaf.is)))
      | in-Fork+in-Less w ↦
          let f = at_fork g.K.Ord.cmp c.args.self.now w.in-Fork.l.value w.in-Fork.k w.in-Fork.v w.in-Fork.r.value _ c.self.view_is c.self.invariant (ap entries_of w.in-Fork.is) in
          let change = revalue_less g.K.Ord.cmp g.met.K.Ord.total c.args.key.now c.args.value.now w.in-Fork.l.value (w.in-Fork.k, w.in-Fork.v) w.in-Fork.r.value f.rises (sym w.in-Less.ensures) in
          rw (w.self-inside-is, w.swap.ensures.new, w.deref_mut.ensures.value) change.rises
      | in-Fork+in-Equal w ↦
          let f = at_fork g.K.Ord.cmp c.args.self.now w.in-Fork.l.value w.in-Fork.k w.in-Fork.v w.in-Fork.r.value _ c.self.view_is c.self.invariant (ap entries_of w.in-Fork.is) in
          let change = revalue_tied g.K.Ord.cmp g.met.K.Ord.total c.args.key.now c.args.value.now w.in-Fork.l.value (w.in-Fork.k, w.in-Fork.v) w.in-Fork.r.value f.rises (sym w.in-Equal.ensures) in
          rw (w.self-inside-is, w.swap-in-Equal.ensures.x_after) change.rises
      | in-Fork+in-Greater w ↦
          let f = at_fork g.K.Ord.cmp c.args.self.now w.in-Fork.l.value w.in-Fork.k w.in-Fork.v w.in-Fork.r.value _ c.self.view_is c.self.invariant (ap entries_of w.in-Fork.is) in
          let change = revalue_more g.K.Ord.cmp g.met.K.Ord.total c.args.key.now c.args.value.now w.in-Fork.l.value (w.in-Fork.k, w.in-Fork.v) w.in-Fork.r.value f.rises (sym w.in-Greater.ensures) in
          rw (w.self-inside-is, w.swap-in-Greater.ensures.new, w.deref_mut-in-Greater.ensures.value) change.rises
    ]

pub returns-clause-old : goal.returns-clause-old
returns-clause-old g t c =
    elim c.match-self.branch [
      | in-Leaf w ↦ absurd (cc (c.requires, ap (λ d. is_some (value_of g.K.Ord.cmp c.args.key.now d)) (sym c.self.view_is ∙ ap entries_of w.in-Leaf.is)))
      | in-Fork+in-Less w ↦
          let f = at_fork g.K.Ord.cmp c.args.self.now w.in-Fork.l.value w.in-Fork.k w.in-Fork.v w.in-Fork.r.value _ c.self.view_is c.self.invariant (ap entries_of w.in-Fork.is) in
          rw w.value-is (ap (value_of g.K.Ord.cmp c.args.key.now) f.is ∙ value_left g.K.Ord.cmp g.met.K.Ord.total c.args.key.now w.in-Fork.l.value (w.in-Fork.k, w.in-Fork.v) w.in-Fork.r.value f.rises (sym w.in-Less.ensures) ∙ ap (value_of g.K.Ord.cmp c.args.key.now) (sym w.deref_mut.ensures.value) ∙ w.swap.ensures.old)
      | in-Fork+in-Equal w ↦
          let f = at_fork g.K.Ord.cmp c.args.self.now w.in-Fork.l.value w.in-Fork.k w.in-Fork.v w.in-Fork.r.value _ c.self.view_is c.self.invariant (ap entries_of w.in-Fork.is) in
          rw (w.value-is, w.swap-in-Equal.ensures.y_after) (ap (value_of g.K.Ord.cmp c.args.key.now) f.is ∙ value_middle g.K.Ord.cmp g.met.K.Ord.total c.args.key.now w.in-Fork.l.value (w.in-Fork.k, w.in-Fork.v) w.in-Fork.r.value f.rises (sym w.in-Equal.ensures))
      | in-Fork+in-Greater w ↦
          let f = at_fork g.K.Ord.cmp c.args.self.now w.in-Fork.l.value w.in-Fork.k w.in-Fork.v w.in-Fork.r.value _ c.self.view_is c.self.invariant (ap entries_of w.in-Fork.is) in
          rw w.value-is (ap (value_of g.K.Ord.cmp c.args.key.now) f.is ∙ value_right g.K.Ord.cmp g.met.K.Ord.total c.args.key.now w.in-Fork.l.value (w.in-Fork.k, w.in-Fork.v) w.in-Fork.r.value f.rises (sym w.in-Greater.ensures) ∙ ap (value_of g.K.Ord.cmp c.args.key.now) (sym w.deref_mut-in-Greater.ensures.value) ∙ w.swap-in-Greater.ensures.old)
    ]

pub returns-clause-new : goal.returns-clause-new
returns-clause-new g t c =
    elim c.match-self.branch [
      | in-Leaf w ↦ absurd (cc (c.requires, ap (λ d. is_some (value_of g.K.Ord.cmp c.args.key.now d)) (sym c.self.view_is ∙ ap entries_of w.in-Leaf.is)))
      | in-Fork+in-Less w ↦
          let f = at_fork g.K.Ord.cmp c.args.self.now w.in-Fork.l.value w.in-Fork.k w.in-Fork.v w.in-Fork.r.value _ c.self.view_is c.self.invariant (ap entries_of w.in-Fork.is) in
          let change = revalue_less g.K.Ord.cmp g.met.K.Ord.total c.args.key.now c.args.value.now w.in-Fork.l.value (w.in-Fork.k, w.in-Fork.v) w.in-Fork.r.value f.rises (sym w.in-Less.ensures) in
          rw (w.self-inside-is, w.swap.ensures.new, w.deref_mut.ensures.value, f.is) change.is
      | in-Fork+in-Equal w ↦
          let f = at_fork g.K.Ord.cmp c.args.self.now w.in-Fork.l.value w.in-Fork.k w.in-Fork.v w.in-Fork.r.value _ c.self.view_is c.self.invariant (ap entries_of w.in-Fork.is) in
          let change = revalue_tied g.K.Ord.cmp g.met.K.Ord.total c.args.key.now c.args.value.now w.in-Fork.l.value (w.in-Fork.k, w.in-Fork.v) w.in-Fork.r.value f.rises (sym w.in-Equal.ensures) in
          rw (w.self-inside-is, w.swap-in-Equal.ensures.x_after, f.is) change.is
      | in-Fork+in-Greater w ↦
          let f = at_fork g.K.Ord.cmp c.args.self.now w.in-Fork.l.value w.in-Fork.k w.in-Fork.v w.in-Fork.r.value _ c.self.view_is c.self.invariant (ap entries_of w.in-Fork.is) in
          let change = revalue_more g.K.Ord.cmp g.met.K.Ord.total c.args.key.now c.args.value.now w.in-Fork.l.value (w.in-Fork.k, w.in-Fork.v) w.in-Fork.r.value f.rises (sym w.in-Greater.ensures) in
          rw (w.self-inside-is, w.swap-in-Greater.ensures.new, w.deref_mut-in-Greater.ensures.value, f.is) change.is
    ]
