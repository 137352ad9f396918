use Rattle.std.proofs.Common.{◌≡◌, ◌+◌, ◌<◌, ◌^◌, ◌++◌, ◌∷◌, true, false, length, sym, ap, ◌∙◌, arith, rules, length-append}
use Rattle.std.specs.Ordering.{is_lt}
use Rattle.kom_index.specs.Entries.{is_between, between}
use Rattle.kom_index.specs.Shape.{entries_of}
use Rattle.kom_index.proofs.Order.{between_right, between_left, between_both, between_fewer, lt_less}
use Rattle.kom_index.proofs.Shapes.{at_fork}
use Rattle.kom_index.proofs.tree.Tree.+count_between.Goals as goal

pub returns-then-is_lt-clause-count : goal.returns-then-is_lt-clause-count
returns-then-is_lt-clause-count g t c =
    let f = at_fork g.K.Ord.cmp c.args.self.now c.in-Fork.l.value c.in-Fork.k c.in-Fork.field-2 c.in-Fork.r.value _ c.self.view_is c.self.invariant (ap entries_of c.in-Fork.is) in
    let lt : is_lt (g.K.Ord.cmp c.in-Fork.k c.args.low.now) ≡ true = cc in
    let is = between_right g.K.Ord.cmp g.met.K.Ord.total c.args.low.now c.args.high.now c.in-Fork.l.value (c.in-Fork.k, c.in-Fork.field-2) c.in-Fork.r.value f.rises (lt_less _ lt) in
    c.count_between.ensures.count ∙ ap (λ d. c.args.so_far + length (between g.K.Ord.cmp c.args.low.now c.args.high.now d)) c.deref.ensures
    ∙ sym (ap (λ d. c.args.so_far + length (between g.K.Ord.cmp c.args.low.now c.args.high.now d)) f.is ∙ ap (λ d. c.args.so_far + length d) is)

pub returns-then-is_lt-2-clause-count : goal.returns-then-is_lt-2-clause-count
returns-then-is_lt-2-clause-count g t c =
    let f = at_fork g.K.Ord.cmp c.args.self.now c.in-Fork.l.value c.in-Fork.k c.in-Fork.field-2 c.in-Fork.r.value _ c.self.view_is c.self.invariant (ap entries_of c.in-Fork.is) in
    let lt : is_lt (g.K.Ord.cmp c.args.high.now c.in-Fork.k) ≡ true = cc in
    let is = between_left g.K.Ord.cmp g.met.K.Ord.total c.args.low.now c.args.high.now c.in-Fork.l.value (c.in-Fork.k, c.in-Fork.field-2) c.in-Fork.r.value f.rises (lt_less _ lt) in
    c.count_between-before.ensures.count ∙ ap (λ d. c.args.so_far + length (between g.K.Ord.cmp c.args.low.now c.args.high.now d)) c.deref-in-Fork.ensures
    ∙ sym (ap (λ d. c.args.so_far + length (between g.K.Ord.cmp c.args.low.now c.args.high.now d)) f.is ∙ ap (λ d. c.args.so_far + length d) is)

pub overflow_add-before : goal.overflow_add-before
overflow_add-before g t c =
    let f = at_fork g.K.Ord.cmp c.args.self.now c.in-Fork.l.value c.in-Fork.k c.in-Fork.field-2 c.in-Fork.r.value _ c.self.view_is c.self.invariant (ap entries_of c.in-Fork.is) in
    let fewer = between_fewer g.K.Ord.cmp c.args.low.now c.args.high.now c.deref-in-Fork.result.now in
    omega (arith, fewer, c.count_between-before.ensures.count, ap length c.deref-in-Fork.ensures, ap length f.is, length-append c.in-Fork.l.value ((c.in-Fork.k, c.in-Fork.field-2) ∷ c.in-Fork.r.value), c.requires)

pub count_between-requires-in-Fork : goal.count_between-requires-in-Fork
count_between-requires-in-Fork g t c =
    let f = at_fork g.K.Ord.cmp c.args.self.now c.in-Fork.l.value c.in-Fork.k c.in-Fork.field-2 c.in-Fork.r.value _ c.self.view_is c.self.invariant (ap entries_of c.in-Fork.is) in
    let fewer = between_fewer g.K.Ord.cmp c.args.low.now c.args.high.now c.deref-in-Fork.result.now in
    let fits : c.count_between-before.result + 1 + length c.deref-in-Fork-2.result.now < 2 ^ 64 =
    omega (arith, fewer, c.count_between-before.ensures.count, ap length c.deref-in-Fork.ensures, ap length c.deref-in-Fork-2.ensures, ap length f.is, length-append c.in-Fork.l.value ((c.in-Fork.k, c.in-Fork.field-2) ∷ c.in-Fork.r.value), c.requires) in
    let shorter : length c.deref-in-Fork-2.result.now < t = omega (arith, ap length c.deref-in-Fork-2.ensures, f.right_shorter, c.decreases) in
    search rules
