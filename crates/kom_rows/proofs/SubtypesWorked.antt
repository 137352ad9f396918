use Rattle.std.specs.Prelude.{◌≡◌, pos, true, [], ◌∷◌}
use Rattle.std.proofs.Common.{refl}
use Rattle.kom_base.specs.declared.numbers.Dir.TheVariants.{Minus}
use Rattle.kom_base.specs.declared.numbers.Side.TheVariants.{Outside}
use Rattle.kom_lang.specs.Compute.{computing}
use Rattle.kom_record.specs.declared.item.Control.TheVariants.{Start}
use Rattle.kom_record.specs.declared.item.Item.TheVariants.{Control, Arrival}
use Rattle.kom_record.specs.declared.item.Back.TheVariants.{Plain}
use Rattle.kom_record.specs.Ready.{is_finished}
use Rattle.kom_record.specs.Legal.{IsLegal, IsAllowed}
use Rattle.kom_record.specs.Simulated.{IsInOrder}
use Rattle.kom_record.specs.Trace.{trace_lines, tracing}
use Rattle.kom_record.specs.Model.{model}
use Rattle.kom_rows.specs.Subtypes.{S, Z, names, text, Subtypes, h0, h1, h2, h3, h4, h5, e0, e1, e2, e3, e4}

allowed_0 : IsAllowed S Z h0 e0
unfolding model
allowed_0 = record { free = refl; ready = refl; next = refl }

allowed_1 : IsAllowed S Z h1 e1
unfolding model computing
allowed_1 = record { job = record { took = 0; w = 0; c = 0; item = Control Start }; body = _; in_hand = refl; worker = refl; component = refl; body_is = refl; outcome = (40, refl); told = refl; unreached = refl }

allowed_2 : IsAllowed S Z h2 e2
unfolding model
allowed_2 = record { not_closed = refl; no_job = refl; none_ready = refl; due = refl; all_released = refl }

allowed_3 : IsAllowed S Z h3 e3
unfolding model
allowed_3 = record { free = refl; ready = refl; next = refl }

allowed_4 : IsAllowed S Z h4 e4
unfolding model computing
allowed_4 = record { job = record { took = 3; w = 0; c = 0; item = Arrival 0 Minus (record { position = 2; place = 0 }) 0 Outside (record { kind = 5; values = ((pos 7) ∷ (pos 8) ∷ []) }) Plain }; body = _; in_hand = refl; worker = refl; component = refl; body_is = refl; outcome = (40, refl); told = refl; unreached = refl }

legal : IsLegal S Z h5
unfolding model
legal = (((((tt, allowed_0), allowed_1), allowed_2), allowed_3), allowed_4)

finished : is_finished S Z h5 ≡ true
unfolding model
finished = refl

text_is : trace_lines names S Z h5 ≡ text
unfolding model tracing
text_is = refl

in_order : IsInOrder S Z h5
unfolding model
in_order = (((((tt, (refl, refl, refl)), (refl, refl)), refl), (refl, refl, refl)), (refl, refl))

pub worked : Subtypes
worked = record { legal = legal; finished = finished; text = text_is; in_order = in_order }
