use Rattle.std.specs.Prelude.{◌≡◌, pos, true, [], ◌∷◌}
use Rattle.std.proofs.Common.{refl}
use Rattle.kom_base.specs.declared.numbers.Dir.TheVariants.{Plus, Minus}
use Rattle.kom_base.specs.declared.numbers.Side.TheVariants.{Outside}
use Rattle.kom_lang.specs.Compute.{computing}
use Rattle.kom_record.specs.declared.item.Control.TheVariants.{Start}
use Rattle.kom_record.specs.declared.item.Item.TheVariants.{Control, Arrival}
use Rattle.kom_record.specs.declared.item.Back.TheVariants.{Plain}
use Rattle.kom_record.specs.Ready.{is_finished}
use Rattle.kom_record.specs.Legal.{IsLegal, IsAllowed}
use Rattle.kom_record.specs.Trace.{trace_lines, tracing}
use Rattle.kom_record.specs.Model.{model}
use Rattle.kom_rows.specs.DestroyedAtWork.{S, Z, names, text, DestroyedAtWork, h0, h1, h2, h3, h4, h5, h6, h7, h8, h9, h10, h11, h12, h13, e0, e1, e2, e3, e4, e5, e6, e7, e8, e9, e10, e11, e12}

allowed_0 : IsAllowed S Z h0 e0
unfolding model
allowed_0 = record { free = refl; ready = refl; next = refl }

allowed_1 : IsAllowed S Z h1 e1
unfolding model computing
allowed_1 = record { job = record { took = 0; w = 0; c = 0; item = Control Start }; body = _; in_hand = refl; worker = refl; component = refl; body_is = refl; outcome = (40, refl); told = refl; unreached = refl }

allowed_2 : IsAllowed S Z h2 e2
unfolding model
allowed_2 = record { free = refl; ready = refl; next = refl }

allowed_3 : IsAllowed S Z h3 e3
unfolding model computing
allowed_3 = record { job = record { took = 2; w = 0; c = 1; item = Control Start }; body = _; in_hand = refl; worker = refl; component = refl; body_is = refl; outcome = (40, refl); told = refl; unreached = refl }

allowed_4 : IsAllowed S Z h4 e4
unfolding model
allowed_4 = record { not_closed = refl; no_job = refl; none_ready = refl; due = refl; all_released = refl }

allowed_5 : IsAllowed S Z h5 e5
unfolding model
allowed_5 = record { free = refl; ready = refl; next = refl }

allowed_6 : IsAllowed S Z h6 e6
unfolding model computing
allowed_6 = record { job = record { took = 5; w = 0; c = 0; item = Arrival 0 Plus (record { position = 4; place = 0 }) 0 Outside (record { kind = 4; values = ((pos 1) ∷ []) }) Plain }; body = _; in_hand = refl; worker = refl; component = refl; body_is = refl; outcome = (40, refl); told = refl; unreached = refl }

allowed_7 : IsAllowed S Z h7 e7
unfolding model
allowed_7 = record { free = refl; ready = refl; next = refl }

allowed_8 : IsAllowed S Z h8 e8
unfolding model
allowed_8 = record { free = refl; ready = refl; next = refl }

allowed_9 : IsAllowed S Z h9 e9
unfolding model computing
allowed_9 = record { job = record { took = 8; w = 1; c = 0; item = Arrival 1 Minus (record { position = 4; place = 1 }) 1 Outside (record { kind = 5; values = ([]) }) Plain }; body = _; in_hand = refl; worker = refl; component = refl; body_is = refl; outcome = (40, refl); told = refl; unreached = refl }

allowed_10 : IsAllowed S Z h10 e10
unfolding model computing
allowed_10 = record { job = record { took = 7; w = 0; c = 1; item = Arrival 2 Plus (record { position = 6; place = 0 }) 0 Outside (record { kind = 4; values = ((pos 1) ∷ []) }) Plain }; body = _; in_hand = refl; worker = refl; component = refl; body_is = refl; outcome = refl; told = refl; unreached = refl }

allowed_11 : IsAllowed S Z h11 e11
unfolding model
allowed_11 = record { free = refl; ready = refl; next = refl }

allowed_12 : IsAllowed S Z h12 e12
unfolding model computing
allowed_12 = record { job = record { took = 11; w = 1; c = 0; item = Arrival 0 Plus (record { position = 4; place = 2 }) 0 Outside (record { kind = 4; values = ((pos 2) ∷ []) }) Plain }; body = _; in_hand = refl; worker = refl; component = refl; body_is = refl; outcome = (40, refl); told = refl; unreached = refl }

legal : IsLegal S Z h13
unfolding model
legal = (((((((((((((tt, allowed_0), allowed_1), allowed_2), allowed_3), allowed_4), allowed_5), allowed_6), allowed_7), allowed_8), allowed_9), allowed_10), allowed_11), allowed_12)

finished : is_finished S Z h13 ≡ true
unfolding model
finished = refl

text_is : trace_lines names S Z h13 ≡ text
unfolding model tracing
text_is = refl

pub worked : DestroyedAtWork
worked = record { legal = legal; finished = finished; text = text_is }
