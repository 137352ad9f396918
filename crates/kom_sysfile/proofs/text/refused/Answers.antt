use Rattle.std.proofs.Common.{refl, ◌∙◌, ap}
use Rattle.kom_text.specs.Places.{line_of, column_of}
use Rattle.kom_sysfile.proofs.Exact.{line_within, column_within}
use Rattle.kom_sysfile.proofs.text.refused.Goals as goal

pub returns : goal.returns
returns c =
    let text = c.args.text.now in
    let line = c.place_of-line.ensures.line ∙ ap (line_of text) c.min-place.ensures ∙ line_within text c.args.at in
    let column = c.place_of-line.ensures.column ∙ ap (column_of text) c.min-place.ensures ∙ column_within text c.args.at in
    rw (line, column) refl
