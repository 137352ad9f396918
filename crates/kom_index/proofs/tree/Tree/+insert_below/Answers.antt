use Rattle.std.proofs.Common.{◌≡◌, ◌<◌, true, false, None, sym, ap, ◌∙◌, arith, length, rules}
use Rattle.std.specs.Ordering.{is_lt}
use Rattle.kom_index.specs.Entries.{value_of}
use Rattle.kom_index.specs.Shape.{entries_of}
use Rattle.kom_index.proofs.Order.{lt_less, value_left, value_right, insert_less, insert_more, above_by_absence}
use Rattle.kom_index.proofs.Shapes.{at_fork}
use Rattle.kom_index.proofs.tree.Tree.+insert_below.Goals as goal

pub insert_below-changed-requires : goal.insert_below-changed-requires
insert_below-changed-requires g t c =
    let f = at_fork g.K.Ord.cmp c.args.self.now c.in-Fork.l.value c.in-Fork.k c.in-Fork.field-2 c.in-Fork.r.value _ c.self.view_is c.self.invariant (ap entries_of c.in-Fork.is) in
    let short : length c.deref_mut.result.now < t = omega (arith, ap length c.deref_mut.ensures.value, f.left_shorter, c.decreases) in
    let lt : is_lt (g.K.Ord.cmp c.args.key c.in-Fork.k) ≡ true = cc in
    let none : value_of g.K.Ord.cmp c.args.key c.deref_mut.result.now ≡ None =
    ap (value_of g.K.Ord.cmp c.args.key) c.deref_mut.ensures.value ∙ sym (value_left g.K.Ord.cmp g.met.K.Ord.total c.args.key c.in-Fork.l.value (c.in-Fork.k, c.in-Fork.field-2) c.in-Fork.r.value f.rises (lt_less _ lt)) ∙ sym (ap (value_of g.K.Ord.cmp c.args.key) f.is) ∙ c.requires in
    search rules

pub invariant_of-self-then-is_lt : goal.invariant_of-self-then-is_lt
invariant_of-self-then-is_lt g t c =
    let f = at_fork g.K.Ord.cmp c.args.self.now c.in-Fork.l.value c.in-Fork.k c.in-Fork.field-2 c.in-Fork.r.value _ c.self.view_is c.self.invariant (ap entries_of c.in-Fork.is) in
    let lt : is_lt (g.K.Ord.cmp c.args.key c.in-Fork.k) ≡ true = cc in
    let change = insert_less g.K.Ord.cmp g.met.K.Ord.total c.args.key c.args.value c.in-Fork.l.value (c.in-Fork.k, c.in-Fork.field-2) c.in-Fork.r.value f.rises (sym (ap (value_of g.K.Ord.cmp c.args.key) f.is) ∙ c.requires) (lt_less _ lt) in
    rw (c.insert_below-changed.ensures.new, c.deref_mut.ensures.value) change.rises

pub returns-then-is_lt-clause-new : goal.returns-then-is_lt-clause-new
returns-then-is_lt-clause-new g t c =
    let f = at_fork g.K.Ord.cmp c.args.self.now c.in-Fork.l.value c.in-Fork.k c.in-Fork.field-2 c.in-Fork.r.value _ c.self.view_is c.self.invariant (ap entries_of c.in-Fork.is) in
    let lt : is_lt (g.K.Ord.cmp c.args.key c.in-Fork.k) ≡ true = cc in
    let change = insert_less g.K.Ord.cmp g.met.K.Ord.total c.args.key c.args.value c.in-Fork.l.value (c.in-Fork.k, c.in-Fork.field-2) c.in-Fork.r.value f.rises (sym (ap (value_of g.K.Ord.cmp c.args.key) f.is) ∙ c.requires) (lt_less _ lt) in
    rw (c.balance.ensures.same, c.insert_below-changed.ensures.new, c.deref_mut.ensures.value, f.is) change.is

pub insert_below-changed-requires-else-is_lt : goal.insert_below-changed-requires-else-is_lt
insert_below-changed-requires-else-is_lt g t c =
    let f = at_fork g.K.Ord.cmp c.args.self.now c.in-Fork.l.value c.in-Fork.k c.in-Fork.field-2 c.in-Fork.r.value _ c.self.view_is c.self.invariant (ap entries_of c.in-Fork.is) in
    let short : length c.deref_mut-else-is_lt.result.now < t = omega (arith, ap length c.deref_mut-else-is_lt.ensures.value, f.right_shorter, c.decreases) in
    let past : is_lt (g.K.Ord.cmp c.args.key c.in-Fork.k) ≡ false = cc in
    let whole = sym (ap (value_of g.K.Ord.cmp c.args.key) f.is) ∙ c.requires in
    let more = above_by_absence g.K.Ord.cmp g.met.K.Ord.total c.args.key c.in-Fork.l.value (c.in-Fork.k, c.in-Fork.field-2) c.in-Fork.r.value whole past in
    let none : value_of g.K.Ord.cmp c.args.key c.deref_mut-else-is_lt.result.now ≡ None =
    ap (value_of g.K.Ord.cmp c.args.key) c.deref_mut-else-is_lt.ensures.value ∙ sym (value_right g.K.Ord.cmp g.met.K.Ord.total c.args.key c.in-Fork.l.value (c.in-Fork.k, c.in-Fork.field-2) c.in-Fork.r.value f.rises more) ∙ whole in
    search rules

pub invariant_of-self-else-is_lt : goal.invariant_of-self-else-is_lt
invariant_of-self-else-is_lt g t c =
    let f = at_fork g.K.Ord.cmp c.args.self.now c.in-Fork.l.value c.in-Fork.k c.in-Fork.field-2 c.in-Fork.r.value _ c.self.view_is c.self.invariant (ap entries_of c.in-Fork.is) in
    let past : is_lt (g.K.Ord.cmp c.args.key c.in-Fork.k) ≡ false = cc in
    let change = insert_more g.K.Ord.cmp g.met.K.Ord.total c.args.key c.args.value c.in-Fork.l.value (c.in-Fork.k, c.in-Fork.field-2) c.in-Fork.r.value f.rises (sym (ap (value_of g.K.Ord.cmp c.args.key) f.is) ∙ c.requires) past in
    rw (c.insert_below-changed-else-is_lt.ensures.new, c.deref_mut-else-is_lt.ensures.value) change.rises

pub returns-else-is_lt-clause-new : goal.returns-else-is_lt-clause-new
returns-else-is_lt-clause-new g t c =
    let f = at_fork g.K.Ord.cmp c.args.self.now c.in-Fork.l.value c.in-Fork.k c.in-Fork.field-2 c.in-Fork.r.value _ c.self.view_is c.self.invariant (ap entries_of c.in-Fork.is) in
    let past : is_lt (g.K.Ord.cmp c.args.key c.in-Fork.k) ≡ false = cc in
    let change = insert_more g.K.Ord.cmp g.met.K.Ord.total c.args.key c.args.value c.in-Fork.l.value (c.in-Fork.k, c.in-Fork.field-2) c.in-Fork.r.value f.rises (sym (ap (value_of g.K.Ord.cmp c.args.key) f.is) ∙ c.requires) past in
    rw (c.balance-else-is_lt.ensures.same, c.insert_below-changed-else-is_lt.ensures.new, c.deref_mut-else-is_lt.ensures.value, f.is) change.is
