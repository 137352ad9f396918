use Rattle.std.proofs.Common.{◌≡◌, ◌<◌, ◌+◌, ◌∙◌, ap, ℕ, Bool, length, arith}
use Rattle.kom_events.specs.Kin.{is_on_cycle}
use Rattle.kom_system.specs.declared.parts.EventPart.{EventPart}
use Rattle.kom_rules.specs.Names.{at_if, first_place}
use Rattle.kom_rules.specs.Spaces.{event_rows}
use Rattle.kom_tables.proofs.Entries.{numbered_push}
use Rattle.kom_ancestors.proofs.Rounds.{is_declared}
use Rattle.kom_ancestors.proofs.ancestors.own_ancestors.Goals as goal

pub loop-number-preserved : goal.loop-number-preserved
loop-number-preserved c =
    let many : length c.as_slice-part-items.result.now ≡ length c.args.parts.now.events = ap length c.as_slice-part-items.ensures in
    let inside : c.loop-number.number < length c.args.parts.now.events = omega (arith, c.loop-number-test.true) in
    let own : c.is_marked-own.result ≡ is_on_cycle (event_rows c.args.parts.now) (4 + c.loop-number.number) =
    c.is_marked-own.ensures ∙ c.in_ok-marks.ensures (4 + c.loop-number.number) (is_declared c.args.parts.now c.loop-number.number inside) in
    c.earlier-first.ensures
    ∙ numbered_push 4 (λ (x : ℕ × EventPart). at_if (is_on_cycle (event_rows c.args.parts.now) x.0) x.1.name.at) c.as_slice-part-items.result.now c.loop-number.number c.part-item.result _ c.at_if.result
    c.loop-number-test.true c.part-item.is c.loop-number.invariant (c.at_if.ensures ∙ ap (λ (b : Bool). first_place (at_if b c.part-item.result.name.at)) own)
