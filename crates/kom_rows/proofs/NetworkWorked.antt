use Rattle.std.specs.Prelude.{◌≡◌, pos, true, [], ◌∷◌}
use Rattle.std.proofs.Common.{refl}
use Rattle.kom_base.specs.declared.numbers.Dir.TheVariants.{Plus, Minus}
use Rattle.kom_base.specs.declared.numbers.Side.TheVariants.{Outside, Inside}
use Rattle.kom_lang.specs.Compute.{computing}
use Rattle.kom_record.specs.declared.item.Control.TheVariants.{Init, Start}
use Rattle.kom_record.specs.declared.item.Item.TheVariants.{Control, Arrival}
use Rattle.kom_record.specs.declared.item.Back.TheVariants.{Plain}
use Rattle.kom_record.specs.Ready.{is_finished}
use Rattle.kom_record.specs.Legal.{IsLegal, IsAllowed}
use Rattle.kom_record.specs.Simulated.{IsInOrder}
use Rattle.kom_record.specs.Trace.{trace_lines, tracing}
use Rattle.kom_record.specs.Model.{model}
use Rattle.kom_rows.specs.Network.{S, Z, names, text, Network, h0, h1, h2, h3, h4, h5, h6, h7, h8, h9, h10, h11, h12, h13, h14, h15, h16, h17, h18, h19, h20, h21, h22, h23, e0, e1, e2, e3, e4, e5, e6, e7, e8, e9, e10, e11, e12, e13, e14, e15, e16, e17, e18, e19, e20, e21, e22}

allowed_0 : IsAllowed S Z h0 e0
unfolding model
allowed_0 = record { free = refl; ready = refl; next = refl }

allowed_1 : IsAllowed S Z h1 e1
unfolding model computing
allowed_1 = record { job = record { took = 0; w = 0; c = 0; item = Control Start }; body = _; in_hand = refl; worker = refl; component = refl; body_is = refl; outcome = (40, refl); told = refl; unreached = refl }

allowed_2 : IsAllowed S Z h2 e2
unfolding model
allowed_2 = record { free = refl; ready = refl; next = refl }

allowed_3 : IsAllowed S Z h3 e3
unfolding model computing
allowed_3 = record { job = record { took = 2; w = 0; c = 1; item = Control (Init ((pos 1) ∷ [])) }; body = _; in_hand = refl; worker = refl; component = refl; body_is = refl; outcome = (40, refl); told = refl; unreached = refl }

allowed_4 : IsAllowed S Z h4 e4
unfolding model
allowed_4 = record { free = refl; ready = refl; next = refl }

allowed_5 : IsAllowed S Z h5 e5
unfolding model computing
allowed_5 = record { job = record { took = 4; w = 0; c = 2; item = Control (Init ((pos 2) ∷ [])) }; body = _; in_hand = refl; worker = refl; component = refl; body_is = refl; outcome = (40, refl); told = refl; unreached = refl }

allowed_6 : IsAllowed S Z h6 e6
unfolding model
allowed_6 = record { free = refl; ready = refl; next = refl }

allowed_7 : IsAllowed S Z h7 e7
unfolding model computing
allowed_7 = record { job = record { took = 6; w = 0; c = 1; item = Control Start }; body = _; in_hand = refl; worker = refl; component = refl; body_is = refl; outcome = (40, refl); told = refl; unreached = refl }

allowed_8 : IsAllowed S Z h8 e8
unfolding model
allowed_8 = record { free = refl; ready = refl; next = refl }

allowed_9 : IsAllowed S Z h9 e9
unfolding model computing
allowed_9 = record { job = record { took = 8; w = 0; c = 2; item = Control Start }; body = _; in_hand = refl; worker = refl; component = refl; body_is = refl; outcome = (40, refl); told = refl; unreached = refl }

allowed_10 : IsAllowed S Z h10 e10
unfolding model
allowed_10 = record { free = refl; ready = refl; next = refl }

allowed_11 : IsAllowed S Z h11 e11
unfolding model computing
allowed_11 = record { job = record { took = 10; w = 0; c = 0; item = Arrival 1 Minus (record { position = 7; place = 0 }) 0 Inside (record { kind = 4; values = ((pos 1) ∷ (pos 2) ∷ (pos 1) ∷ []) }) Plain }; body = _; in_hand = refl; worker = refl; component = refl; body_is = refl; outcome = (40, refl); told = refl; unreached = refl }

allowed_12 : IsAllowed S Z h12 e12
unfolding model
allowed_12 = record { free = refl; ready = refl; next = refl }

allowed_13 : IsAllowed S Z h13 e13
unfolding model computing
allowed_13 = record { job = record { took = 12; w = 0; c = 0; item = Arrival 2 Minus (record { position = 9; place = 0 }) 0 Inside (record { kind = 4; values = ((pos 2) ∷ (pos 1) ∷ (pos 2) ∷ []) }) Plain }; body = _; in_hand = refl; worker = refl; component = refl; body_is = refl; outcome = (40, refl); told = refl; unreached = refl }

allowed_14 : IsAllowed S Z h14 e14
unfolding model
allowed_14 = record { not_closed = refl; no_job = refl; none_ready = refl; due = refl; all_released = refl }

allowed_15 : IsAllowed S Z h15 e15
unfolding model
allowed_15 = record { free = refl; ready = refl; next = refl }

allowed_16 : IsAllowed S Z h16 e16
unfolding model computing
allowed_16 = record { job = record { took = 15; w = 0; c = 0; item = Arrival 0 Plus (record { position = 14; place = 0 }) 0 Outside (record { kind = 4; values = ((pos 1) ∷ (pos 2) ∷ (pos 1) ∷ []) }) Plain }; body = _; in_hand = refl; worker = refl; component = refl; body_is = refl; outcome = (40, refl); told = refl; unreached = refl }

allowed_17 : IsAllowed S Z h17 e17
unfolding model
allowed_17 = record { free = refl; ready = refl; next = refl }

allowed_18 : IsAllowed S Z h18 e18
unfolding model computing
allowed_18 = record { job = record { took = 17; w = 0; c = 0; item = Arrival 0 Plus (record { position = 14; place = 1 }) 0 Outside (record { kind = 4; values = ((pos 2) ∷ (pos 1) ∷ (pos 2) ∷ []) }) Plain }; body = _; in_hand = refl; worker = refl; component = refl; body_is = refl; outcome = (40, refl); told = refl; unreached = refl }

allowed_19 : IsAllowed S Z h19 e19
unfolding model
allowed_19 = record { free = refl; ready = refl; next = refl }

allowed_20 : IsAllowed S Z h20 e20
unfolding model computing
allowed_20 = record { job = record { took = 19; w = 0; c = 2; item = Arrival 2 Plus (record { position = 16; place = 0 }) 0 Outside (record { kind = 4; values = ((pos 1) ∷ (pos 2) ∷ (pos 1) ∷ []) }) Plain }; body = _; in_hand = refl; worker = refl; component = refl; body_is = refl; outcome = (40, refl); told = refl; unreached = refl }

allowed_21 : IsAllowed S Z h21 e21
unfolding model
allowed_21 = record { free = refl; ready = refl; next = refl }

allowed_22 : IsAllowed S Z h22 e22
unfolding model computing
allowed_22 = record { job = record { took = 21; w = 0; c = 1; item = Arrival 1 Plus (record { position = 18; place = 0 }) 0 Outside (record { kind = 4; values = ((pos 2) ∷ (pos 1) ∷ (pos 2) ∷ []) }) Plain }; body = _; in_hand = refl; worker = refl; component = refl; body_is = refl; outcome = (40, refl); told = refl; unreached = refl }

legal : IsLegal S Z h23
unfolding model
legal = (((((((((((((((((((((((tt, allowed_0), allowed_1), allowed_2), allowed_3), allowed_4), allowed_5), allowed_6), allowed_7), allowed_8), allowed_9), allowed_10), allowed_11), allowed_12), allowed_13), allowed_14), allowed_15), allowed_16), allowed_17), allowed_18), allowed_19), allowed_20), allowed_21), allowed_22)

finished : is_finished S Z h23 ≡ true
unfolding model
finished = refl

text_is : trace_lines names S Z h23 ≡ text
unfolding model tracing
text_is = refl

in_order : IsInOrder S Z h23
unfolding model
in_order = (((((((((((((((((((((((tt, (refl, refl, refl)), (refl, refl)), (refl, refl, refl)), (refl, refl)), (refl, refl, refl)), (refl, refl)), (refl, refl, refl)), (refl, refl)), (refl, refl, refl)), (refl, refl)), (refl, refl, refl)), (refl, refl)), (refl, refl, refl)), (refl, refl)), refl), (refl, refl, refl)), (refl, refl)), (refl, refl, refl)), (refl, refl)), (refl, refl, refl)), (refl, refl)), (refl, refl, refl)), (refl, refl))

pub worked : Network
worked = record { legal = legal; finished = finished; text = text_is; in_order = in_order }
