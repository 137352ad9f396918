use Rattle.std.proofs.Common.{◌∙◌, ℕ, length}
use Rattle.kom_system.specs.declared.parts.ComponentPart.{ComponentPart}
use Rattle.kom_rules.specs.Names.{at_if}
use Rattle.kom_rules.specs.Fitting.{is_below}
use Rattle.kom_containers.proofs.Levels.{numbered_from_zero}
use Rattle.kom_containers.proofs.containers.own_containers.Goals as goal

pub loop-number-preserved : goal.loop-number-preserved
loop-number-preserved c =
    c.earlier-first.ensures
    ∙ numbered_from_zero (λ (x : ℕ × ComponentPart). at_if (is_below (length c.args.parts.now.components) c.args.parts.now x.0 x.0) x.1.name.at) c.as_slice-part-items.result.now c.loop-number.number c.part-item.result _ c.at_if.result
    c.loop-number-test.true c.part-item.is c.loop-number.invariant (rw c.in_ok-holds.ensures at c.at_if.ensures)
