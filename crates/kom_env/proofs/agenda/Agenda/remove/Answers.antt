use Rattle.std.proofs.Common.{◌≡◌, Some, refl, sym, ap, ◌∙◌, arith}
use Rattle.kom_index.specs.Stock.{entries}
use Rattle.kom_env.specs.Keys.{number_cmp, due_cmp, due_total, tag_cmp, tag_total}
use Rattle.kom_env.specs.Waiting.{due_key, tag_key}
use Rattle.kom_env.specs.Sound.{due_no, tag_no}
use Rattle.kom_env.proofs.Ties.{due_tied, tag_tied}
use Rattle.kom_env.proofs.Indexing.{has_key_of, dropped, bounded_less}
use Rattle.kom_env.proofs.agenda.Agenda.remove.Goals as goal

pub remove-requires : goal.remove-requires
remove-requires c =
    let i = c.self.inside in
    rw c.due_of.ensures (has_key_of due_cmp due_total due_tied due_no due_key (λ n w. refl) i.waits.0 i.dues.0 c.args.no c.remove-wait.result c.self.invariant.by_due c.remove-wait.ensures.value)

pub remove-requires-2 : goal.remove-requires-2
remove-requires-2 c =
    let i = c.self.inside in
    rw c.tag_of.ensures (has_key_of tag_cmp tag_total tag_tied tag_no tag_key (λ n w. refl) i.waits.0 i.tags.0 c.args.no c.remove-wait.result c.self.invariant.by_tag c.remove-wait.ensures.value)

pub invariant_of-self : goal.invariant_of-self
invariant_of-self c =
    let i = c.self.inside in
    record {
      rises = c.remove-wait.ensures.rises;
      bounded = bounded_less i.waits.0 c.remove-wait.new.self.0 c.args.no c.self.invariant.bounded c.remove-wait.ensures.values;
      by_due = dropped due_cmp due_total due_tied due_no due_key (λ n w. refl) i.waits.0 c.remove-wait.new.self.0 i.dues.0 c.remove.new.self.0 c.args.no c.remove-wait.result c.self.invariant.by_due c.remove-wait.ensures.value c.remove-wait.ensures.values (rw c.due_of.ensures at c.remove.ensures.values) c.remove.ensures.rises;
      by_tag = dropped tag_cmp tag_total tag_tied tag_no tag_key (λ n w. refl) i.waits.0 c.remove-wait.new.self.0 i.tags.0 c.remove-2.new.self.0 c.args.no c.remove-wait.result c.self.invariant.by_tag c.remove-wait.ensures.value c.remove-wait.ensures.values (rw c.tag_of.ensures at c.remove-2.ensures.values) c.remove-2.ensures.rises;
      due_fits = omega (arith, c.self.invariant.due_fits, c.remove.ensures.spare, c.remove-wait.ensures.spare);
      tag_fits = omega (arith, c.self.invariant.tag_fits, c.remove-2.ensures.spare, c.remove-wait.ensures.spare);
    }
