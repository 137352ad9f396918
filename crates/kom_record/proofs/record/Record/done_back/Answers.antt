use Rattle.std.proofs.Common.{refl, sym, ◌∙◌}
use Rattle.kom_record.proofs.OffersAt.{back_after_arrival, back_of_control}
use Rattle.kom_record.proofs.record.Record.done_back.Goals as goal

pub returns-else-place-eq0 : goal.returns-else-place-eq0
returns-else-place-eq0 c k =
    c.effect_back.ensures
    ∙ sym (back_after_arrival _ k c.args.took c.args.effects.now _ _ c.args.place (rw c.in-Some-Arrival.field-0-is at c.in-Some-Arrival.ensures) refl c.if-place-eq0.false)

pub returns-in-Some-Control : goal.returns-in-Some-Control
returns-in-Some-Control c k =
    c.effect_back-in-Some-Control.ensures ∙ sym (back_of_control _ k c.args.took c.args.effects.now _ _ c.args.place (rw c.in-Some-Control.field-0-is at c.in-Some-Control.ensures))
