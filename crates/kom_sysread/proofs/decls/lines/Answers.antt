use Rattle.std.proofs.Common.{sym, ◌∙◌, ap}
use Rattle.kom_sysread.specs.Reading as spec
use Rattle.kom_sysread.proofs.RowSteps.{lines_go}
use Rattle.kom_sysread.proofs.decls.lines.Goals as goal

pub loop-reader-preserved : goal.loop-reader-preserved
loop-reader-preserved c =
    c.loop-reader.invariant ∙ lines_go _ _ _ _ (sym c.sees.ensures ∙ c.loop-reader-test.true) c.in_ok-direction.ensures
    ∙ ap (λ p. spec.lines p c.line.new.reader) (sym c.in_ok-add_line.ensures)
