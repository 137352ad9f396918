use Rattle.std.proofs.Common.{◌+◌, ◌++◌, ◌∷◌, [], ap, ◌∙◌, arith}
use Rattle.std.specs.Prelude.{min}
use Rattle.kom_base.specs.Lists.{either}
use Rattle.kom_trace.proofs.Counted.{counted_more}
use Rattle.kom_trace.proofs.counts.Counts.note.Goals as goal

pub returns : goal.returns
returns c S Z P h l =
    let n = c.args.self.now in
    counted_more S Z n _ P c.args.entry.now h l (omega (arith, c.requires, n.faults.small))
    (c.in-Ok.ensures.items ∙ ap (λ x. n.faults.items ++ x ∷ []) c.fault_taken.ensures)
    (c.saturating_add-self.ensures ∙ ap (λ k. min (n.took + k) 18446744073709551615) c.took_in.ensures)
    (c.saturating_add-self-2.ensures ∙ ap (λ k. min (n.did + k) 18446744073709551615) c.did_in.ensures)
    (c.saturating_add-self-3.ensures ∙ ap (λ k. min (n.moved + k) 18446744073709551615) c.moved_in.ensures)
    (c.first_of-self.ensures ∙ ap (either n.unhandled) c.unhandled_by.ensures)
