use Rattle.std.proofs.Common.{◌≡◌, ◌∙◌, ap, ℕ, [], length, slice_index_or}
use Rattle.std.proofs.lemmas.List.{length-map}
use Rattle.kom_tables.specs.Ancestry.{names_along}
use Rattle.kom_events.specs.Kin.{ancestors}
use Rattle.kom_rules.specs.Spaces.{event_rows}
use Rattle.kom_tables.proofs.Attributed.{names_at}
use Rattle.kom_tables.proofs.Ancestors.{line_at}
use Rattle.kom_tables.proofs.event_table.EventTable.of.Goals as goal

pub returns : goal.returns
returns c =
    let lines : ((k : ℕ) → slice_index_or c.in_ok-lines.lines k [] ≡ ancestors (length (event_rows c.args.parts.now)) (event_rows c.args.parts.now) k) =
    line_at (event_rows c.args.parts.now) c.in_ok-parents.parents c.in_ok-lines.lines c.in_ok-parents.ensures (rw c.as_slice-2.ensures at c.in_ok-lines.ensures) in
    record {
      declared = rw c.as_slice.ensures at c.in_ok-declared.ensures;
      lines = lines;
      attributes = λ k. names_at c.args.parts.now c.in_ok-own.own c.in_ok-lines.lines c.in_ok-attributes.attributes k c.in_ok-own.ensures (lines k) (rw (c.as_slice-3.ensures, c.as_slice-4.ensures) at c.in_ok-attributes.ensures);
      count = ap length (rw (c.as_slice-3.ensures, c.as_slice-4.ensures) at c.in_ok-attributes.ensures) ∙ length-map c.in_ok-lines.lines (names_along c.in_ok-own.own) ∙ (rw c.as_slice-2.ensures at c.in_ok-lines.ensures).count
          ∙ ap length c.in_ok-parents.ensures ∙ length-map (event_rows c.args.parts.now) (λ row. row.parent);
    }
