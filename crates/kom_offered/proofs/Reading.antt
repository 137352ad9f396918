-- What waits in a channel is read from the record by its number.
use Rattle.std.proofs.Common.{◌≡◌, ℕ, ◌<◌, Bool, true, false, if◌then◌else◌, not, refl, ap, ◌∙◌, subst, List, [], ◌∷◌, ◌++◌, length, Option, Some, None, inl, inr, arith, nat_eq}
use Rattle.std.specs.Prelude.{slice_get}
use Rattle.std.specs.List.{enumerate_from, filter_map, cons_option, Contains}
use Rattle.std.specs.Option.{option_and_then, option_map}
use Rattle.kom_base.specs.declared.numbers.Dir.{Dir}
use Rattle.kom_base.specs.declared.numbers.EntryNo.{EntryNo}
use Rattle.kom_lang.specs.Declarations.{Declarations}
use Rattle.kom_record.specs.declared.entry.Entry.{Entry}
use Rattle.kom_record.specs.declared.entry.Entry.TheVariants.{Took, Did, Moved}
use Rattle.kom_record.specs.Entries.{History, entry_at, before}
use Rattle.kom_record.specs.Offers.{Offer, offers, offer_at}
use Rattle.kom_record.specs.Queues.{Envelope, enters, entered, entering, is_among, received, waiting}
use Rattle.kom_record.proofs.Positions.{equal_self, not_equal}
use Rattle.kom_laws.proofs.ActLaws.{in_filter}
use Rattle.kom_laws.proofs.DumpsAlone.{contains_in}
use Rattle.kom_laws.proofs.ListFacts.{numbered}
use Rattle.kom_laws.proofs.Members.{IsIn, here, there}
use Rattle.kom_laws.proofs.Rising.{in_append}
use Rattle.kom_offered.specs.Laws.{IsOfItsOffer}

made_from_or : {X Y : Type 0} (f : X → Option Y) (x : X) (xs : List X) (y : Y) (o : Option Y) → f x ≡ o → (IsIn y (filter_map f xs) → (z : X) × IsIn z xs × (f z ≡ Some y)) → IsIn y (cons_option o (filter_map f xs)) → (z : X) × IsIn z (x ∷ xs) × (f z ≡ Some y)
made_from_or f x xs y None e rest h = let r = rest h in (r.0, there r.1, r.2)
made_from_or f x xs y' (Some y) e rest here = (x, here, e)
made_from_or f x xs y (Some z) e rest (there h) = let r = rest h in (r.0, there r.1, r.2)

made_from : {X Y : Type 0} (f : X → Option Y) (xs : List X) (y : Y) → IsIn y (filter_map f xs) → (x : X) × IsIn x xs × (f x ≡ Some y)
made_from f [] y h = elim h [ ]
made_from f (x ∷ xs) y h = made_from_or f x xs y (f x) refl (made_from f xs y) h

-- the number of what is offered by an entry that is there
record IsRead (P : History) (q : Envelope) : Type 0 where
  offered : IsOfItsOffer P q
  past : q.no.position < length P

-- an offer of the newest entry
offer_newest : (e : Entry) (P : History) (i : ℕ) → offer_at (e ∷ P) (record { position = length P; place = i }) ≡ slice_get (offers P e) i
unfolding offer_at entry_at before
offer_newest e P i = ap (λ b. option_and_then (λ x. slice_get (offers (if b then P else before P (length P)) x) i) (if b then Some e else entry_at P (length P))) (equal_self (length P))

-- one of an earlier entry
offer_earlier : (e : Entry) (P : History) (n : EntryNo) → n.position < length P → offer_at (e ∷ P) n ≡ offer_at P n
unfolding offer_at entry_at before
offer_earlier e P n h =
    let apart : nat_eq (length P) n.position ≡ false = not_equal (length P) n.position (λ s. omega (arith, h, s)) in
    ap (λ b. option_and_then (λ x. slice_get (offers (if b then P else before P n.position) x) n.place) (if b then Some e else entry_at P n.position)) apart

read_later : (e : Entry) (P : History) (q : Envelope) → IsRead P q → IsRead (e ∷ P) q
read_later e P q r = record {
  offered = record {
    event = ap (option_map (λ (o : Offer). o.event)) (offer_earlier e P q.no r.past) ∙ r.offered.event;
    back = ap (option_map (λ (o : Offer). o.back)) (offer_earlier e P q.no r.past) ∙ r.offered.back;
  };
  past = let h : q.no.position < length P = r.past in omega (arith, h);
}

module _ (S : Declarations) (x : ℕ) (d : Dir) where
  one_read : (e : Entry) (P : History) (r : ℕ × Offer) (q : Envelope) (b : Bool) → IsIn r (enumerate_from 0 (offers P e))
      → (if b then Some (record { no = record { position = length P; place = r.0 }; event = r.1.event; back = r.1.back }) else None) ≡ Some q → IsRead (e ∷ P) q
  one_read e P r q false h f = absurd (cc)
  one_read e P r q true h f =
      let n = numbered 0 (offers P e) r h in
      let place : r.0 ≡ n.0 = omega (arith, n.1) in
      let got : slice_get (offers P e) r.0 ≡ Some r.1 = ap (slice_get (offers P e)) place ∙ n.2 in
      let is : record { no = record { position = length P; place = r.0 }; event = r.1.event; back = r.1.back } ≡ q = cc in
      subst (IsRead (e ∷ P)) is (record {
        offered = record {
          event = ap (option_map (λ (o : Offer). o.event)) (offer_newest e P r.0 ∙ got);
          back = ap (option_map (λ (o : Offer). o.back)) (offer_newest e P r.0 ∙ got);
        };
        past = omega arith;
      })

  entering_read : (e : Entry) (P : History) (q : Envelope) → IsIn q (entering S P e x d) → IsRead (e ∷ P) q
  unfolding entering
  entering_read e P q h =
      let m = made_from (λ (r : ℕ × Offer). if enters S P x d r.1 then Some (record { no = record { position = length P; place = r.0 }; event = r.1.event; back = r.1.back }) else None) (enumerate_from 0 (offers P e)) q h in
      one_read e P m.0 q (enters S P x d m.0.1) m.1 m.2

  more_read : (e : Entry) (P : History) (q : Envelope) → (IsIn q (entered S P x d) → IsRead P q) → IsIn q (entered S P x d ++ entering S P e x d) → IsRead (e ∷ P) q
  more_read e P q rest h = elim (in_append q (entered S P x d) (entering S P e x d) h) [ inl a ↦ read_later e P q (rest a) | inr b ↦ entering_read e P q b ]

  entered_read : (P : History) (q : Envelope) → IsIn q (entered S P x d) → IsRead P q
  unfolding entered
  entered_read [] q h = elim h [ ]
  entered_read (Took w c item ∷ P) q h = read_later (Took w c item) P q (entered_read P q h)
  entered_read (Did w c took o to places ∷ P) q h = more_read (Did w c took o to places) P q (λ k. entered_read P q k) h
  entered_read (Moved w t rs ∷ P) q h = more_read (Moved w t rs) P q (λ k. entered_read P q k) h

  pub waiting_read : (P : History) (q : Envelope) → Contains (waiting S P x d) q → IsOfItsOffer P q
  unfolding waiting
  waiting_read P q h = (entered_read P q (in_filter (λ p. not (is_among S (received S P x d) p)) (entered S P x d) q (contains_in q _ h)).0).offered
