-- What a Moved brings into the channels.
use Rattle.std.proofs.Common.{◌≡◌, ℕ, ◌+◌, Bool, true, false, if◌then◌else◌, ◌&&◌, ◌==◌, refl, ap, List, [], ◌∷◌, length, map, Some, None}
use Rattle.std.specs.Prelude.{nat_lt}
use Rattle.std.specs.List.{cons_option, enumerate_from, filter_map}
use Rattle.std.proofs.lemmas.Bool.{and_parts, ltb-true}
use Rattle.kom_base.specs.declared.numbers.Dir.{Dir}
use Rattle.kom_base.specs.declared.numbers.EntryNo.{EntryNo}
use Rattle.kom_lang.specs.Declarations.{Declarations, kind_of}
use Rattle.kom_record.specs.declared.item.Back.TheVariants.{Plain}
use Rattle.kom_record.specs.declared.entry.Release.{Release}
use Rattle.kom_record.specs.declared.entry.Entry.TheVariants.{Moved}
use Rattle.kom_record.specs.Entries.{History}
use Rattle.kom_record.specs.Channels.{comes_in}
use Rattle.kom_record.specs.Offers.{FromOutside, Offer, offers}
use Rattle.kom_record.specs.Queues.{Envelope, enters, entering}
use Rattle.kom_offered.specs.Laws.{are_at_ports, number_into}
use Rattle.kom_offered.proofs.Entering.{releases_enter}

taken_up : (b c : Bool) (e : Envelope) (rest : List Envelope) (numbers : List EntryNo) → b ≡ c → map (λ q. q.no) rest ≡ numbers
    → map (λ q. q.no) (cons_option (if b then Some e else None) rest) ≡ cons_option (if c then Some e.no else None) numbers
taken_up true true e rest numbers s h = ap (λ ns. e.no ∷ ns) h
taken_up true false e rest numbers s h = absurd cc
taken_up false true e rest numbers s h = absurd cc
taken_up false false e rest numbers s h = h

module _ (S : Declarations) (P : History) (x : ℕ) (d : Dir) where
  abbrev offer_of : Release → Offer
  offer_of r = record { origin = FromOutside r.chan; event = r.event; back = Plain }

  from_number : (n : ℕ) (released : List Release) → are_at_ports S released ≡ true
      → map (λ (q : Envelope). q.no) (filter_map (λ (q : ℕ × Offer). if enters S P x d q.1 then Some (record { no = record { position = length P; place = q.0 }; event = q.1.event; back = q.1.back }) else None) (enumerate_from n (map offer_of released)))
      ≡ filter_map (number_into S (length P) x d) (enumerate_from n released)
  from_number n [] h = refl
  from_number n (r ∷ released) h =
      let all = and_parts (nat_lt r.chan (length (kind_of S S.root.kind).ports)) (are_at_ports S released) h in
      taken_up (enters S P x d (offer_of r)) (r.chan == x && comes_in S x d) (record { no = record { position = length P; place = n }; event = r.event; back = Plain }) _ _
      (releases_enter S P x r.chan d r.event (ltb-true r.chan (length (kind_of S S.root.kind).ports) all.0)) (from_number (n + 1) released all.1)

  pub come_in : (w t : ℕ) (released : List Release) → are_at_ports S released ≡ true
      → map (λ q. q.no) (entering S P (Moved w t released) x d) ≡ filter_map (number_into S (length P) x d) (enumerate_from 0 released)
  unfolding entering offers
  come_in w t released h = from_number 0 released h
