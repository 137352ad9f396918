use Rattle.std.proofs.Common.{sym, ap, ◌∙◌, reverse}
use Rattle.std.specs.Prelude.{slice_get}
use Rattle.std.proofs.lemmas.List.{reverse-reverse}
use Rattle.kom_record.specs.Entries.{entry_at}
use Rattle.kom_record.proofs.Positions.{entry_at-reverse}
use Rattle.kom_record.proofs.record.Record.at.Goals as goal

pub returns : goal.returns
returns c =
    c.at.ensures
    ∙ ap (λ xs. slice_get xs c.args.i) (c.as_slice.ensures.value ∙ sym (reverse-reverse c.self.inside.entries.items))
    ∙ entry_at-reverse (reverse c.self.inside.entries.items) c.args.i
    ∙ ap (λ K. entry_at K.history c.args.i) c.self.view_is
