-- The offers of effects, by their places.
use Rattle.std.proofs.Common.{◌≡◌, ℕ, zero, suc, true, false, ◌-◌, refl, List, [], ◌∷◌, filter, Option, Some, arith}
use Rattle.std.specs.Prelude.{slice_get}
use Rattle.std.specs.List.{filter_map}
use Rattle.std.specs.Option.{option_map, option_and_then}
use Rattle.kom_lang.specs.declared.body.Effect.{Effect}
use Rattle.kom_lang.specs.declared.body.Effect.TheVariants as effect
use Rattle.kom_record.specs.declared.item.Control.{Control as ControlItem}
use Rattle.kom_record.specs.declared.item.Item.{Item}
use Rattle.kom_record.specs.declared.item.Item.TheVariants.{Control, Arrival}
use Rattle.kom_record.specs.Offers.{offer_of, offers_for, offers_event, event_of, back_by, is_arrival}
use Rattle.kom_record.specs.Entries.{History}

module _ (c took : ℕ) where
  pub event_at : (item : Item) (es : List Effect) (n : ℕ)
      → option_map (λ o. o.event) (slice_get (filter_map (offer_of c took item) es) n) ≡ option_and_then event_of (slice_get (filter (offers_event (is_arrival item)) es) n)
  event_at item [] n = refl
  event_at item (effect.Trigger port event ∷ es) zero = refl
  event_at item (effect.Trigger port event ∷ es) (suc n) = event_at item es n
  event_at (Control k) (effect.Answer event ∷ es) n = event_at (Control k) es n
  event_at (Arrival x d m port side arrived back) (effect.Answer event ∷ es) zero = refl
  event_at (Arrival x d m port side arrived back) (effect.Answer event ∷ es) (suc n) = event_at (Arrival x d m port side arrived back) es n
  event_at item (e ∷ es) n = event_at item es n

  pub back_at : (item : Item) (es : List Effect) (n : ℕ)
      → option_map (λ o. o.back) (slice_get (filter_map (offer_of c took item) es) n) ≡ option_and_then (back_by took) (slice_get (filter (offers_event (is_arrival item)) es) n)
  back_at item [] n = refl
  back_at item (effect.Trigger port event ∷ es) zero = refl
  back_at item (effect.Trigger port event ∷ es) (suc n) = back_at item es n
  back_at (Control k) (effect.Answer event ∷ es) n = back_at (Control k) es n
  back_at (Arrival x d m port side arrived back) (effect.Answer event ∷ es) zero = refl
  back_at (Arrival x d m port side arrived back) (effect.Answer event ∷ es) (suc n) = back_at (Arrival x d m port side arrived back) es n
  back_at item (e ∷ es) n = back_at item es n

less-one : (n : ℕ) → suc n - 1 ≡ n
less-one n = omega arith

module _ (P : History) (c took : ℕ) (es : List Effect) where
  event_past : (item : Item) (n : ℕ) → is_arrival item ≡ true → (n ≡ 0 → ⊥) → option_map (λ o. o.event) (slice_get (offers_for P c took es (Some item)) n) ≡ option_and_then event_of (slice_get (filter (offers_event true) es) (n - 1))
  event_past (Control k) n a h = absurd cc
  event_past (Arrival x d m port side event back) zero a h = absurd (h refl)
  event_past (Arrival x d m port side event back) (suc n) a h = rw (less-one n) (event_at c took (Arrival x d m port side event back) es n)

  -- after the event that is passed on come those of the effects
  pub event_after_arrival : (o : Option Item) (item : Item) (n : ℕ) → Some item ≡ o → is_arrival item ≡ true → (n ≡ 0 → ⊥)
      → option_map (λ o. o.event) (slice_get (offers_for P c took es o) n) ≡ option_and_then event_of (slice_get (filter (offers_event true) es) (n - 1))
  event_after_arrival o item n e a h = rw (← e) (event_past item n a h)

  pub event_of_control : (o : Option Item) (k : ControlItem) (n : ℕ) → Some (Control k) ≡ o
      → option_map (λ o. o.event) (slice_get (offers_for P c took es o) n) ≡ option_and_then event_of (slice_get (filter (offers_event false) es) n)
  event_of_control o k n e = rw (← e) (event_at c took (Control k) es n)

  back_past : (item : Item) (n : ℕ) → is_arrival item ≡ true → (n ≡ 0 → ⊥) → option_map (λ o. o.back) (slice_get (offers_for P c took es (Some item)) n) ≡ option_and_then (back_by took) (slice_get (filter (offers_event true) es) (n - 1))
  back_past (Control k) n a h = absurd cc
  back_past (Arrival x d m port side event back) zero a h = absurd (h refl)
  back_past (Arrival x d m port side event back) (suc n) a h = rw (less-one n) (back_at c took (Arrival x d m port side event back) es n)

  pub back_after_arrival : (o : Option Item) (item : Item) (n : ℕ) → Some item ≡ o → is_arrival item ≡ true → (n ≡ 0 → ⊥)
      → option_map (λ o. o.back) (slice_get (offers_for P c took es o) n) ≡ option_and_then (back_by took) (slice_get (filter (offers_event true) es) (n - 1))
  back_after_arrival o item n e a h = rw (← e) (back_past item n a h)

  pub back_of_control : (o : Option Item) (k : ControlItem) (n : ℕ) → Some (Control k) ≡ o
      → option_map (λ o. o.back) (slice_get (offers_for P c took es o) n) ≡ option_and_then (back_by took) (slice_get (filter (offers_event false) es) n)
  back_of_control o k n e = rw (← e) (back_at c took (Control k) es n)
