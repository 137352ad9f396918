use Rattle.std.proofs.Common.{◌≡◌, ◌<◌, [], sym, ap, ◌∙◌, subst, arith, length, rules}
use Rattle.std.specs.Option.{IsSome, is_some}
use Rattle.kom_index.specs.Entries.{value_of}
use Rattle.kom_index.specs.Shape.{entries_of}
use Rattle.kom_index.proofs.Order.{value_left, value_right, value_middle, remove_less, remove_more, remove_tied}
use Rattle.kom_index.proofs.Shapes.{at_fork, value_left_with}
use Rattle.kom_index.proofs.tree.Tree.+take.Goals as goal

pub unreachable-requires : goal.unreachable-requires
unreachable-requires g t c =
    let empty : c.args.self.now ≡ [] = sym c.self.view_is ∙ ap entries_of c.in-Leaf.is in
    absurd (cc (c.requires, ap (λ d. is_some (value_of g.K.Ord.cmp c.args.key.now d)) empty))

pub unreachable-unreachable : goal.unreachable-unreachable
unreachable-unreachable g t c = c.unreachable.type_inv

pub take-changed-requires : goal.take-changed-requires
take-changed-requires g t c =
    let f = at_fork g.K.Ord.cmp c.args.self.now c.in-Fork.l.value c.in-Fork.k c.in-Fork.field-2 c.in-Fork.r.value _ c.self.view_is c.self.invariant (ap entries_of c.in-Fork.is) in
    let short : length c.deref_mut.result.now < t = omega (arith, ap length c.deref_mut.ensures.value, f.left_shorter, c.decreases) in
    let here : IsSome (value_of g.K.Ord.cmp c.args.key.now c.deref_mut.result.now) =
    subst IsSome (ap (value_of g.K.Ord.cmp c.args.key.now) f.is ∙ value_left g.K.Ord.cmp g.met.K.Ord.total c.args.key.now c.in-Fork.l.value (c.in-Fork.k, c.in-Fork.field-2) c.in-Fork.r.value f.rises (sym c.in-Less.ensures) ∙ ap (value_of g.K.Ord.cmp c.args.key.now) (sym c.deref_mut.ensures.value)) c.requires in
    search rules

pub invariant_of-self : goal.invariant_of-self
invariant_of-self g t c =
    let f = at_fork g.K.Ord.cmp c.args.self.now c.in-Fork.l.value c.in-Fork.k c.in-Fork.field-2 c.in-Fork.r.value _ c.self.view_is c.self.invariant (ap entries_of c.in-Fork.is) in
    let change = remove_less g.K.Ord.cmp g.met.K.Ord.total c.args.key.now c.in-Fork.l.value (c.in-Fork.k, c.in-Fork.field-2) c.in-Fork.r.value f.rises (sym c.in-Less.ensures) in
    rw (c.take-changed.ensures.rest, c.deref_mut.ensures.value) change.rises

pub returns-in-Less-clause-value : goal.returns-in-Less-clause-value
returns-in-Less-clause-value g t c =
    let f = at_fork g.K.Ord.cmp c.args.self.now c.in-Fork.l.value c.in-Fork.k c.in-Fork.field-2 c.in-Fork.r.value _ c.self.view_is c.self.invariant (ap entries_of c.in-Fork.is) in
    ap (value_of g.K.Ord.cmp c.args.key.now) f.is ∙ value_left g.K.Ord.cmp g.met.K.Ord.total c.args.key.now c.in-Fork.l.value (c.in-Fork.k, c.in-Fork.field-2) c.in-Fork.r.value f.rises (sym c.in-Less.ensures) ∙ ap (value_of g.K.Ord.cmp c.args.key.now) (sym c.deref_mut.ensures.value) ∙ c.take-changed.ensures.value

pub returns-in-Less-clause-rest : goal.returns-in-Less-clause-rest
returns-in-Less-clause-rest g t c =
    let f = at_fork g.K.Ord.cmp c.args.self.now c.in-Fork.l.value c.in-Fork.k c.in-Fork.field-2 c.in-Fork.r.value _ c.self.view_is c.self.invariant (ap entries_of c.in-Fork.is) in
    let change = remove_less g.K.Ord.cmp g.met.K.Ord.total c.args.key.now c.in-Fork.l.value (c.in-Fork.k, c.in-Fork.field-2) c.in-Fork.r.value f.rises (sym c.in-Less.ensures) in
    rw (c.balance.ensures.same, c.take-changed.ensures.rest, c.deref_mut.ensures.value, f.is) change.is

pub take-changed-requires-in-Greater : goal.take-changed-requires-in-Greater
take-changed-requires-in-Greater g t c =
    let f = at_fork g.K.Ord.cmp c.args.self.now c.in-Fork.l.value c.in-Fork.k c.in-Fork.field-2 c.in-Fork.r.value _ c.self.view_is c.self.invariant (ap entries_of c.in-Fork.is) in
    let short : length c.deref_mut-in-Greater.result.now < t = omega (arith, ap length c.deref_mut-in-Greater.ensures.value, f.right_shorter, c.decreases) in
    let here : IsSome (value_of g.K.Ord.cmp c.args.key.now c.deref_mut-in-Greater.result.now) =
    subst IsSome (ap (value_of g.K.Ord.cmp c.args.key.now) f.is ∙ value_right g.K.Ord.cmp g.met.K.Ord.total c.args.key.now c.in-Fork.l.value (c.in-Fork.k, c.in-Fork.field-2) c.in-Fork.r.value f.rises (sym c.in-Greater.ensures) ∙ ap (value_of g.K.Ord.cmp c.args.key.now) (sym c.deref_mut-in-Greater.ensures.value)) c.requires in
    search rules

pub invariant_of-self-in-Greater : goal.invariant_of-self-in-Greater
invariant_of-self-in-Greater g t c =
    let f = at_fork g.K.Ord.cmp c.args.self.now c.in-Fork.l.value c.in-Fork.k c.in-Fork.field-2 c.in-Fork.r.value _ c.self.view_is c.self.invariant (ap entries_of c.in-Fork.is) in
    let change = remove_more g.K.Ord.cmp g.met.K.Ord.total c.args.key.now c.in-Fork.l.value (c.in-Fork.k, c.in-Fork.field-2) c.in-Fork.r.value f.rises (sym c.in-Greater.ensures) in
    rw (c.take-changed-in-Greater.ensures.rest, c.deref_mut-in-Greater.ensures.value) change.rises

pub returns-in-Greater-clause-value : goal.returns-in-Greater-clause-value
returns-in-Greater-clause-value g t c =
    let f = at_fork g.K.Ord.cmp c.args.self.now c.in-Fork.l.value c.in-Fork.k c.in-Fork.field-2 c.in-Fork.r.value _ c.self.view_is c.self.invariant (ap entries_of c.in-Fork.is) in
    ap (value_of g.K.Ord.cmp c.args.key.now) f.is ∙ value_right g.K.Ord.cmp g.met.K.Ord.total c.args.key.now c.in-Fork.l.value (c.in-Fork.k, c.in-Fork.field-2) c.in-Fork.r.value f.rises (sym c.in-Greater.ensures) ∙ ap (value_of g.K.Ord.cmp c.args.key.now) (sym c.deref_mut-in-Greater.ensures.value) ∙ c.take-changed-in-Greater.ensures.value

pub returns-in-Greater-clause-rest : goal.returns-in-Greater-clause-rest
returns-in-Greater-clause-rest g t c =
    let f = at_fork g.K.Ord.cmp c.args.self.now c.in-Fork.l.value c.in-Fork.k c.in-Fork.field-2 c.in-Fork.r.value _ c.self.view_is c.self.invariant (ap entries_of c.in-Fork.is) in
    let change = remove_more g.K.Ord.cmp g.met.K.Ord.total c.args.key.now c.in-Fork.l.value (c.in-Fork.k, c.in-Fork.field-2) c.in-Fork.r.value f.rises (sym c.in-Greater.ensures) in
    rw (c.balance-in-Greater.ensures.same, c.take-changed-in-Greater.ensures.rest, c.deref_mut-in-Greater.ensures.value, f.is) change.is

pub take_middle-requires : goal.take_middle-requires
take_middle-requires g t c =
    let f = at_fork g.K.Ord.cmp c.args.self.now c.in-Fork.l.value c.in-Fork.k c.in-Fork.field-2 c.in-Fork.r.value _ c.self.view_is c.self.invariant (ap entries_of c.in-Fork.is) in
    f.rises

pub invariant_of-self-in-Equal : goal.invariant_of-self-in-Equal
invariant_of-self-in-Equal g t c = c.take_middle.ensures.rises

pub returns-in-Equal-clause-value : goal.returns-in-Equal-clause-value
returns-in-Equal-clause-value g t c =
    let f = at_fork g.K.Ord.cmp c.args.self.now c.in-Fork.l.value c.in-Fork.k c.in-Fork.field-2 c.in-Fork.r.value _ c.self.view_is c.self.invariant (ap entries_of c.in-Fork.is) in
    ap (value_of g.K.Ord.cmp c.args.key.now) f.is ∙ value_middle g.K.Ord.cmp g.met.K.Ord.total c.args.key.now c.in-Fork.l.value (c.in-Fork.k, c.in-Fork.field-2) c.in-Fork.r.value f.rises (sym c.in-Equal.ensures) ∙ value_left_with c.take_middle.new.freed (λ f. f.key) (λ f. f.value) c.in-Fork.k c.in-Fork.field-2 c.take_middle.ensures.freed

pub returns-in-Equal-clause-rest : goal.returns-in-Equal-clause-rest
returns-in-Equal-clause-rest g t c =
    let f = at_fork g.K.Ord.cmp c.args.self.now c.in-Fork.l.value c.in-Fork.k c.in-Fork.field-2 c.in-Fork.r.value _ c.self.view_is c.self.invariant (ap entries_of c.in-Fork.is) in
    let change = remove_tied g.K.Ord.cmp g.met.K.Ord.total c.args.key.now c.in-Fork.l.value (c.in-Fork.k, c.in-Fork.field-2) c.in-Fork.r.value f.rises (sym c.in-Equal.ensures) in
    rw (c.take_middle.ensures.rest, f.is) change.is
