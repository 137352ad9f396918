-- A lot that is the same.
use Rattle.std.proofs.Common.{◌≡◌, ◌≢◌, ℕ, ◌<◌, List, length, set, get_or, refl, sym, ap, ◌∙◌, subst, ⊎_elim, arith}
use Rattle.std.specs.Prelude.{Some, slice_get}
use Rattle.kom_ready.specs.declared.lots.Lot.{Lot}
use Rattle.kom_ready.specs.declared.lots.ReadySet.{ReadySet}
use Rattle.kom_ready.specs.Guests.{guest_deque}
use Rattle.kom_ready.specs.Lots.{AreLotsOf, IsLotOf, IsSameLot, deques_of}
use Rattle.kom_ready.proofs.Guested.{long_map, stands_at}
use Rattle.kom_ready.proofs.Lending.{at_place_of, length_set}

pub same_again : (a b c : Lot) → IsSameLot a b → IsSameLot b c → IsSameLot a c
same_again a b c s t = record { number = t.number ∙ s.number; own = t.own ∙ s.own; guests = t.guests ∙ s.guests; parts = t.parts ∙ s.parts }

pub itself : (a : Lot) → IsSameLot a a
itself a = record { number = refl; own = refl; guests = refl; parts = refl }

pub still_of : (set : ReadySet) (a b : Lot) → IsLotOf set a → IsSameLot a b → IsLotOf set b
still_of set a b o s = record {
  own = ap (slice_get (deques_of set)) s.number ∙ o.own ∙ ap Some (sym s.own);
  guests = s.guests ∙ o.guests;
  parts = let p = o.parts in let q = s.parts in omega (arith, p, q);
}

pub as_many : (a b : Lot) → IsSameLot a b → length b.guests.items ≡ length a.guests.items
as_many a b s = sym (long_map guest_deque b.guests.items) ∙ ap length s.guests ∙ long_map guest_deque a.guests.items

-- so they are where one of them is the same
pub still_lots : (rs : ReadySet) (lots : List Lot) (i : ℕ) (old new : Lot) → AreLotsOf rs lots → i < length lots → old ≡ get_or lots i old → IsSameLot old new → AreLotsOf rs (set lots i new)
still_lots rs lots i old new are lt at s = record {
  count = length_set lots i new ∙ are.count;
  numbers = λ m lot e. ⊎_elim (λ (h : (m ≡ i) × (new ≡ lot)). ap (λ (l : Lot). l.number) (sym h.1) ∙ s.number ∙ are.numbers i old (stands_at lots i old lt at) ∙ sym h.0)
      (λ (h : (m ≢ i) × (slice_get lots m ≡ Some lot)). are.numbers m lot h.1) (at_place_of lots i m new lot e);
  each = λ m lot e. ⊎_elim (λ (h : (m ≡ i) × (new ≡ lot)). subst (IsLotOf rs) h.1 (still_of rs old new (are.each i old (stands_at lots i old lt at)) s))
      (λ (h : (m ≢ i) × (slice_get lots m ≡ Some lot)). are.each m lot h.1) (at_place_of lots i m new lot e);
}
