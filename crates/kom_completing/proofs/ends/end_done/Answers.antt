use Rattle.std.proofs.Common.{sym, ◌∙◌}
use Rattle.kom_record.specs.declared.entry.Outcome.TheVariants as outcome
use Rattle.kom_completing.proofs.ends.end_done.Goals as goal

pub complete-requires-clause-done : goal.complete-requires-clause-done
complete-requires-clause-done c = c.in-Done.is ∙ (λ i. outcome.Done (sym c.in_ok-after-in-Done.ensures i) (sym c.as_slice.ensures i))

pub complete-requires-clause-kept : goal.complete-requires-clause-kept
complete-requires-clause-kept c = λ i. outcome.Done ((c.in_ok-copy-in-Done.ensures ∙ sym c.in_ok-after-in-Done.ensures) i) ((c.in_ok-copy-in-Done-2.ensures ∙ sym c.as_slice.ensures) i)
