use Rattle.std.specs.Prelude.{◌≡◌, true}
use Rattle.std.proofs.Common.{refl}
use Rattle.kom_lang.specs.Compute.{computing}
use Rattle.kom_record.specs.declared.item.Control.TheVariants.{Start}
use Rattle.kom_record.specs.declared.item.Item.TheVariants.{Control}
use Rattle.kom_record.specs.Ready.{is_finished}
use Rattle.kom_record.specs.Legal.{IsLegal, IsAllowed}
use Rattle.kom_record.specs.Simulated.{IsInOrder}
use Rattle.kom_record.specs.Trace.{trace_lines, tracing}
use Rattle.kom_record.specs.Model.{model}
use Rattle.kom_rows.specs.UnhandledFault.{S, Z, names, text, UnhandledFault, h0, h1, h2, e0, e1}

allowed_0 : IsAllowed S Z h0 e0
unfolding model
allowed_0 = record { free = refl; ready = refl; next = refl }

allowed_1 : IsAllowed S Z h1 e1
unfolding model computing
allowed_1 = record { job = record { took = 0; w = 0; c = 0; item = Control Start }; body = _; in_hand = refl; worker = refl; component = refl; body_is = refl; outcome = (40, refl); told = refl; unreached = refl }

legal : IsLegal S Z h2
unfolding model
legal = ((tt, allowed_0), allowed_1)

finished : is_finished S Z h2 ≡ true
unfolding model
finished = refl

text_is : trace_lines names S Z h2 ≡ text
unfolding model tracing
text_is = refl

in_order : IsInOrder S Z h2
unfolding model
in_order = ((tt, (refl, refl, refl)), (refl, refl))

pub worked : UnhandledFault
worked = record { legal = legal; finished = finished; text = text_is; in_order = in_order }
