use Rattle.std.proofs.Common.{◌≡◌, ◌+◌, ◌∙◌, ap, ℕ, Bool}
use Rattle.kom_system.specs.declared.parts.EventPart.{EventPart}
use Rattle.kom_rules.specs.Names.{at_if, first_place}
use Rattle.kom_rules.specs.Spaces.{attribute_names}
use Rattle.kom_rules.specs.Declaring.{has_wrong_attributes}
use Rattle.kom_tables.proofs.Entries.{numbered_push}
use Rattle.kom_ancestors.proofs.Passing.{wrong_by_nine}
use Rattle.kom_ancestors.proofs.attributes.wrong_attributes.Goals as goal

pub loop-number-preserved : goal.loop-number-preserved
loop-number-preserved c =
    let wrong : c.is_wrong-wrong.result ≡ has_wrong_attributes (attribute_names c.args.parts.now (4 + c.loop-number.number)) =
    c.is_wrong-wrong.ensures ∙ ap has_wrong_attributes (c.in_ok-steps.ensures (4 + c.loop-number.number)) ∙ wrong_by_nine (attribute_names c.args.parts.now (4 + c.loop-number.number)) in
    c.earlier-first.ensures
    ∙ numbered_push 4 (λ (x : ℕ × EventPart). at_if (has_wrong_attributes (attribute_names c.args.parts.now x.0)) x.1.name.at) c.as_slice-part-items.result.now c.loop-number.number c.part-item.result _ c.at_if.result
    c.loop-number-test.true c.part-item.is c.loop-number.invariant (c.at_if.ensures ∙ ap (λ (b : Bool). first_place (at_if b c.part-item.result.name.at)) wrong)
