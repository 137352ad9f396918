use Rattle.std.proofs.Common.{Some, ◌∷◌, ap, ◌∙◌, arith, length, rules, ◌<◌}
use Rattle.kom_index.specs.Shape.{entries_of}
use Rattle.kom_index.proofs.Shapes.{at_fork, rises_behind}
use Rattle.kom_index.proofs.tree.Tree.+pop_first.Goals as goal

pub invariant_of-self : goal.invariant_of-self
invariant_of-self g t c = c.self.invariant

pub take_first-requires : goal.take_first-requires
take_first-requires g t c =
    let f = at_fork g.K.Ord.cmp c.args.self.now c.in-Fork.l.value c.in-Fork.field-1 c.in-Fork.field-2 c.in-Fork.field-4.value _ c.self.view_is c.self.invariant (ap entries_of c.in-Fork.is) in
    f.rises

pub invariant_of-self-then-is_empty : goal.invariant_of-self-then-is_empty
invariant_of-self-then-is_empty g t c = c.take_first.ensures.rises

pub pop_first-changed-requires : goal.pop_first-changed-requires
pop_first-changed-requires g t c =
    let f = at_fork g.K.Ord.cmp c.args.self.now c.in-Fork.l.value c.in-Fork.field-1 c.in-Fork.field-2 c.in-Fork.field-4.value _ c.self.view_is c.self.invariant (ap entries_of c.in-Fork.is) in
    let short : length c.deref_mut.result.now < t = omega (arith, ap length c.deref_mut.ensures.value, f.left_shorter, c.decreases) in
    let some : 0 < length c.deref_mut.result.now = grind (arith, c.if-is_empty.ensures, ap length c.deref.ensures, ap length c.deref_mut.ensures.value) in
    search rules

pub invariant_of-self-else-is_empty : goal.invariant_of-self-else-is_empty
invariant_of-self-else-is_empty g t c =
    let f = at_fork g.K.Ord.cmp c.args.self.now c.in-Fork.l.value c.in-Fork.field-1 c.in-Fork.field-2 c.in-Fork.field-4.value _ c.self.view_is c.self.invariant (ap entries_of c.in-Fork.is) in
    rises_behind g.K.Ord.cmp c.pop_first-changed.new.freed (λ f. (f.key, f.value)) c.pop_first-changed.new.self c.in-Fork.l.value ((c.in-Fork.field-1, c.in-Fork.field-2) ∷ c.in-Fork.field-4.value) (c.pop_first-changed.ensures ∙ ap Some c.deref_mut.ensures.value) f.rises
