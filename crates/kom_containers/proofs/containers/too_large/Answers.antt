use Rattle.std.proofs.Common.{◌≡◌, ◌<◌, ◌∙◌, ap, ℕ, Bool, length, arith}
use Rattle.kom_system.specs.declared.parts.ComponentPart.{ComponentPart}
use Rattle.kom_rules.specs.Names.{at_if, first_place}
use Rattle.kom_rules.specs.Fitting.{is_too_large}
use Rattle.kom_containers.proofs.Levels.{numbered_from_zero}
use Rattle.kom_containers.proofs.Trees.{exceeds_is_too_large}
use Rattle.kom_containers.proofs.containers.too_large.Goals as goal

pub loop-number-preserved : goal.loop-number-preserved
loop-number-preserved c =
    let many : length c.as_slice-part-items.result.now ≡ length c.args.parts.now.components = ap length c.as_slice-part-items.ensures in
    let inside : c.loop-number.number < length c.args.parts.now.components = omega (arith, c.loop-number-test.true) in
    let large : c.exceeds-large.result ≡ is_too_large c.args.parts.now c.loop-number.number = c.exceeds-large.ensures ∙ exceeds_is_too_large c.in_ok-sizes.sizes c.args.parts.now c.loop-number.number c.in_ok-sizes.ensures inside in
    c.earlier-first.ensures
    ∙ numbered_from_zero (λ (x : ℕ × ComponentPart). at_if (is_too_large c.args.parts.now x.0) x.1.name.at) c.as_slice-part-items.result.now c.loop-number.number c.part-item.result _ c.at_if.result
    c.loop-number-test.true c.part-item.is c.loop-number.invariant (c.at_if.ensures ∙ ap (λ (b : Bool). first_place (at_if b c.part-item.result.name.at)) large)
