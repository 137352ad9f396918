use Rattle.std.specs.Prelude.{◌≡◌, true}
use Rattle.std.proofs.Common.{refl}
use Rattle.kom_lang.specs.Compute.{computing}
use Rattle.kom_record.specs.declared.item.Control.TheVariants.{Start, Fault}
use Rattle.kom_record.specs.declared.item.Item.TheVariants.{Control}
use Rattle.kom_record.specs.Ready.{is_finished}
use Rattle.kom_record.specs.Legal.{IsLegal, IsAllowed}
use Rattle.kom_record.specs.Simulated.{IsInOrder}
use Rattle.kom_record.specs.Trace.{trace_lines, tracing}
use Rattle.kom_record.specs.Model.{model}
use Rattle.kom_rows.specs.Escalation.{S, Z, names, text, Escalation, h0, h1, h2, h3, h4, h5, h6, h7, h8, h9, h10, e0, e1, e2, e3, e4, e5, e6, e7, e8, e9}

allowed_0 : IsAllowed S Z h0 e0
unfolding model
allowed_0 = record { free = refl; ready = refl; next = refl }

allowed_1 : IsAllowed S Z h1 e1
unfolding model computing
allowed_1 = record { job = record { took = 0; w = 0; c = 0; item = Control Start }; body = _; in_hand = refl; worker = refl; component = refl; body_is = refl; outcome = (40, refl); told = refl; unreached = refl }

allowed_2 : IsAllowed S Z h2 e2
unfolding model
allowed_2 = record { free = refl; ready = refl; next = refl }

allowed_3 : IsAllowed S Z h3 e3
unfolding model computing
allowed_3 = record { job = record { took = 2; w = 0; c = 1; item = Control Start }; body = _; in_hand = refl; worker = refl; component = refl; body_is = refl; outcome = (40, refl); told = refl; unreached = refl }

allowed_4 : IsAllowed S Z h4 e4
unfolding model
allowed_4 = record { free = refl; ready = refl; next = refl }

allowed_5 : IsAllowed S Z h5 e5
unfolding model computing
allowed_5 = record { job = record { took = 4; w = 0; c = 2; item = Control Start }; body = _; in_hand = refl; worker = refl; component = refl; body_is = refl; outcome = (40, refl); told = refl; unreached = refl }

allowed_6 : IsAllowed S Z h6 e6
unfolding model
allowed_6 = record { free = refl; ready = refl; next = refl }

allowed_7 : IsAllowed S Z h7 e7
unfolding model computing
allowed_7 = record { job = record { took = 6; w = 0; c = 1; item = Control (Fault 0 107) }; body = _; in_hand = refl; worker = refl; component = refl; body_is = refl; outcome = (40, refl); told = refl; unreached = refl }

allowed_8 : IsAllowed S Z h8 e8
unfolding model
allowed_8 = record { free = refl; ready = refl; next = refl }

allowed_9 : IsAllowed S Z h9 e9
unfolding model computing
allowed_9 = record { job = record { took = 8; w = 0; c = 0; item = Control (Fault 0 107) }; body = _; in_hand = refl; worker = refl; component = refl; body_is = refl; outcome = (40, refl); told = refl; unreached = refl }

legal : IsLegal S Z h10
unfolding model
legal = ((((((((((tt, allowed_0), allowed_1), allowed_2), allowed_3), allowed_4), allowed_5), allowed_6), allowed_7), allowed_8), allowed_9)

finished : is_finished S Z h10 ≡ true
unfolding model
finished = refl

text_is : trace_lines names S Z h10 ≡ text
unfolding model tracing
text_is = refl

in_order : IsInOrder S Z h10
unfolding model
in_order = ((((((((((tt, (refl, refl, refl)), (refl, refl)), (refl, refl, refl)), (refl, refl)), (refl, refl, refl)), (refl, refl)), (refl, refl, refl)), (refl, refl)), (refl, refl, refl)), (refl, refl))

pub worked : Escalation
worked = record { legal = legal; finished = finished; text = text_is; in_order = in_order }
