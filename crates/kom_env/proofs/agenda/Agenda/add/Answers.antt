use Rattle.std.proofs.Common.{◌≡◌, ℕ, None, refl, sym, ap, ◌∙◌, arith}
use Rattle.kom_index.specs.Stock.{entries}
use Rattle.kom_index.specs.Entries.{value_of}
use Rattle.kom_env.specs.Keys.{number_cmp, due_cmp, due_total, tag_cmp, tag_total}
use Rattle.kom_env.specs.Waiting.{due_key, tag_key}
use Rattle.kom_env.specs.Sound.{due_no, tag_no}
use Rattle.kom_env.proofs.Ties.{due_tied, tag_tied}
use Rattle.kom_env.proofs.Indexing.{absent_key, added, bounded_more}
use Rattle.kom_env.proofs.agenda.Agenda.add.Goals as goal

pub insert-requires-clause-absent : goal.insert-requires-clause-absent
insert-requires-clause-absent c =
    let i = c.self.inside in
    let none : value_of number_cmp c.args.no i.waits.0 ≡ None = ap (λ m. value_of number_cmp c.args.no (entries m)) c.self.view_is ∙ c.requires.absent in
    rw c.due_of.ensures (absent_key due_cmp due_total due_tied due_no due_key (λ n w. refl) i.waits.0 i.dues.0 c.args.no c.args.wait c.self.invariant.by_due none)

pub insert-requires-2-clause-absent : goal.insert-requires-2-clause-absent
insert-requires-2-clause-absent c =
    let i = c.self.inside in
    let none : value_of number_cmp c.args.no i.waits.0 ≡ None = ap (λ m. value_of number_cmp c.args.no (entries m)) c.self.view_is ∙ c.requires.absent in
    rw c.tag_of.ensures (absent_key tag_cmp tag_total tag_tied tag_no tag_key (λ n w. refl) i.waits.0 i.tags.0 c.args.no c.args.wait c.self.invariant.by_tag none)

pub invariant_of-self : goal.invariant_of-self
invariant_of-self c =
    let i = c.self.inside in
    let none : value_of number_cmp c.args.no i.waits.0 ≡ None = ap (λ m. value_of number_cmp c.args.no (entries m)) c.self.view_is ∙ c.requires.absent in
    record {
      rises = c.insert-3.ensures.rises;
      bounded = bounded_more i.waits.0 c.insert-3.new.self.0 c.args.no c.args.wait c.self.invariant.bounded c.insert-3.ensures.values (omega (arith, ap (λ (p : ℕ × ℕ). p.0) c.parts_of-parts.ensures, c.parts_of-parts.type_inv), omega (arith, ap (λ (p : ℕ × ℕ). p.1) c.parts_of-parts.ensures, c.parts_of-parts.type_inv));
      by_due = added due_cmp due_total due_tied due_no due_key (λ n w. refl) i.waits.0 c.insert-3.new.self.0 i.dues.0 c.insert.new.self.0 c.args.no c.args.wait c.self.invariant.by_due none c.insert-3.ensures.values (rw c.due_of.ensures at c.insert.ensures.values) c.insert.ensures.rises;
      by_tag = added tag_cmp tag_total tag_tied tag_no tag_key (λ n w. refl) i.waits.0 c.insert-3.new.self.0 i.tags.0 c.insert-2.new.self.0 c.args.no c.args.wait c.self.invariant.by_tag none c.insert-3.ensures.values (rw c.tag_of.ensures at c.insert-2.ensures.values) c.insert-2.ensures.rises;
      due_fits = omega (arith, c.self.invariant.due_fits, c.insert.ensures.spare, c.insert-3.ensures.spare);
      tag_fits = omega (arith, c.self.invariant.tag_fits, c.insert-2.ensures.spare, c.insert-3.ensures.spare);
    }
