use Rattle.std.proofs.Common.{◌∷◌, [], ◌++◌, ap, ◌∙◌, codes}
use Rattle.kom_record.specs.Trace.{number}
use Rattle.kom_lines.proofs.Texts.{joined_words}
use Rattle.kom_lines.proofs.lines.add_unreached_place.Goals as goal

pub returns : goal.returns
returns c =
    let front = c.in_ok-add-2.ensures ∙ ap (λ t. t ++ codes "unreached") c.in_ok-add.ensures in
    let numbered = c.in_ok-add_number.ensures ∙ ap (λ k. c.add-2.new.self ++ number k) c.from.ensures ∙ ap (λ t. t ++ number c.args.place) front in
    c.in_ok-add-3.ensures ∙ ap (λ t. t ++ 10 ∷ []) numbered
    ∙ joined_words c.args.text.now (codes "  ") (codes "unreached") (number c.args.place) (10 ∷ [])
