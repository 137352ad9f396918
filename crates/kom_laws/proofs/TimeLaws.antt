-- What is pending, entry by entry.
use Rattle.std.proofs.Common.{◌≡◌, ℕ, suc, ◌+◌, ◌<◌, ◌≤◌, Bool, true, false, cond, not, ◌&&◌, ◌||◌, refl, sym, ap, ◌∙◌, List, [], ◌∷◌, ◌++◌, length, map, filter, Option, Some, None, if◌then◌else◌, ◌⊎◌, inl, inr, arith}
use Rattle.std.specs.Prelude.{nat_lt, slice_get, ◌==◌}
use Rattle.std.specs.List.{count_by, flat_map, filter_map, enumerate_from, cons_option, list_all}
use Rattle.std.specs.Option.{option_map_or}
use Rattle.std.proofs.lemmas.List.Folds.{list_any-append}
use Rattle.std.proofs.lemmas.List.{append_assoc, append-nil}
use Rattle.std.proofs.lemmas.List.Sums.{sum_by-cons}
use Rattle.std.proofs.lemmas.Bool.{le-ltb, lt-ltb}
use Rattle.std.proofs.lemmas.List.Elements.{filter-append}
use Rattle.kom_base.specs.declared.numbers.Dir.TheVariants.{Plus, Minus}
use Rattle.kom_base.specs.Numbers.{agree, is_plus, is_earlier}
use Rattle.kom_base.specs.Lists.{if_so}
use Rattle.kom_lang.specs.Declarations.{Declarations, kind_of}
use Rattle.kom_lang.specs.declared.kind.PortDecl.{PortDecl}
use Rattle.kom_record.specs.Model.{model}
use Rattle.kom_record.specs.declared.plan.Plan.{Plan}
use Rattle.kom_record.specs.declared.item.Item.{Item}
use Rattle.kom_record.specs.declared.entry.Outcome.{Outcome}
use Rattle.kom_record.specs.declared.entry.Release.{Release}
use Rattle.kom_record.specs.declared.entry.Entry.{Entry}
use Rattle.kom_record.specs.declared.entry.Entry.TheVariants.{Took, Did, Moved}
use Rattle.kom_record.specs.Entries.{History, acts}
use Rattle.kom_record.specs.Time.{Outgoing, Scheduled, outgoing, outgoing_of, scheduled, is_still_due, is_unraised, pending, clock, is_message, is_set_timer, is_cancelled, timer, message, is_cancel_timer, same_timer, outward, root_ports, times_after}
use Rattle.kom_record.specs.declared.item.Back.TheVariants.{Plain}
use Rattle.kom_record.specs.Channels.{comes_in, is_living}
use Rattle.kom_record.specs.Offers.{Offer, FromOutside, offers}
use Rattle.kom_record.specs.Queues.{fits, enters}
use Rattle.kom_record.specs.declared.plan.Raise.{Raise}
use Rattle.kom_laws.proofs.Members.{IsIn, here, there, made_by, Some-injective}
use Rattle.kom_laws.proofs.NextItem.{chosen}
use Rattle.kom_laws.proofs.Rising.{in_append}
use Rattle.kom_laws.proofs.ListFacts.{in_flat, numbered, nothing_made}

module _ (S : Declarations) (Z : Plan) where
  -- a Took leaves what is pending and the clock; a Did leaves the clock, and a Moved sets it
  pub pending_took : (P : History) (w c : ℕ) (item : Item) → pending S Z (Took w c item ∷ P) ≡ pending S Z P
  unfolding model
  pending_took P w c item = refl

  pub clock_did : (P : History) (w c took : ℕ) (o : Outcome) (to : Option ℕ) (places : List ℕ) → clock (Did w c took o to places ∷ P) ≡ clock P
  unfolding model
  clock_did P w c took o to places = refl

  pub clock_moved : (P : History) (w t : ℕ) (rs : List Release) → clock (Moved w t rs ∷ P) ≡ t
  unfolding model
  clock_moved P w t rs = refl

  agree_self : (b : Bool) → agree b (is_plus (if b then Plus else Minus)) ≡ true
  unfolding model
  agree_self true = refl
  agree_self false = refl

  not_in : (x : ℕ × PortDecl) → IsIn x (root_ports S) → comes_in S x.0 (outward x.1) ≡ false
  unfolding model
  not_in x h =
      let n = numbered 0 (kind_of S S.root.kind).ports x h in
      let at : slice_get (kind_of S S.root.kind).ports x.0 ≡ Some x.1 = ap (slice_get (kind_of S S.root.kind).ports) (let e : x.0 ≡ n.0 = omega (arith, n.1) in e) ∙ n.2 in
      ap (λ o. option_map_or (λ p. not (agree p.provided (is_plus (outward x.1)))) o false) at ∙ ap not (agree_self x.1.provided)

  off : (a b c d : Bool) → b ≡ false → ((a && b) && c && d) ≡ false
  unfolding model
  off true b c d e = ap (λ v. v && c && d) e
  off false b c d e = refl

  none_leave : (P : History) (rs : List Release) (n : ℕ)
      → flat_map {A = Outgoing} (λ q. filter_map {Y = Outgoing} (λ x. if enters S P x.0 (outward x.1) q.1 then Some (record { no = record { position = length P; place = q.0 }; chan = x.0; event = q.1.event; at = clock P }) else None) (root_ports S))
      (enumerate_from {X = Offer} n (map {B = Offer} (λ r. record { origin = FromOutside r.chan; event = r.event; back = Plain }) rs)) ≡ []
  unfolding model
  none_leave P [] n = refl
  none_leave P (r ∷ rs) n =
      ap (λ ys. ys ++ flat_map {A = Outgoing} (λ q. filter_map {Y = Outgoing} (λ x. if enters S P x.0 (outward x.1) q.1 then Some (record { no = record { position = length P; place = q.0 }; chan = x.0; event = q.1.event; at = clock P }) else None) (root_ports S))
      (enumerate_from {X = Offer} (n + 1) (map {B = Offer} (λ r. record { origin = FromOutside r.chan; event = r.event; back = Plain }) rs)))
      (nothing_made {Y = Outgoing} _ (root_ports S) (λ x m. ap (λ b. if◌then◌else◌ {A = Option Outgoing} b (Some (record { no = record { position = length P; place = n }; chan = x.0; event = r.event; at = clock P })) None)
      (off (r.chan == x.0) (comes_in S x.0 (outward x.1)) (is_living S (acts P) x.0) (fits S P x.0 (outward x.1) (record { origin = FromOutside r.chan; event = r.event; back = Plain })) (not_in x m))))
      ∙ none_leave P rs (n + 1)

  -- nothing that is released goes out
  pub outgoing_moved : (P : History) (w t : ℕ) (rs : List Release) → outgoing_of S P (Moved w t rs) ≡ []
  unfolding model
  outgoing_moved P w t rs = none_leave P rs 0

  -- what went out has a position below the length
  at_length : (P : History) (e : Entry) (o : Outgoing) → IsIn o (outgoing_of S P e) → o.no.position ≡ length P
  unfolding model
  at_length P e o h =
      let f = in_flat (λ q. filter_map (λ x. if enters S P x.0 (outward x.1) q.1 then Some (record { no = record { position = length P; place = q.0 }; chan = x.0; event = q.1.event; at = clock P }) else None) (root_ports S)) (enumerate_from 0 (offers P e)) o h in
      let m = made_by _ (root_ports S) o f.2 in
      let s = chosen _ _ o m.1 in
      ap (λ q. q.no.position) (sym (Some-injective s))

  new_below : (P : History) (e : Entry) (o : Outgoing) → (IsIn o (outgoing S P) → o.no.position < length P) → IsIn o (outgoing S P ++ outgoing_of S P e) → o.no.position < suc (length P)
  unfolding model
  new_below P e o rest h = elim (in_append o (outgoing S P) (outgoing_of S P e) h) [ inl a ↦ let r = rest a in omega (arith, r) | inr b ↦ let r = at_length P e o b in omega (arith, r) ]

  pub out_below : (P : History) (o : Outgoing) → IsIn o (outgoing S P) → o.no.position < length P
  unfolding model
  out_below [] o h = elim h [ ]
  out_below (Took w c item ∷ P) o h = let r = out_below P o h in omega (arith, r)
  out_below (Did w c took q to places ∷ P) o h = new_below P (Did w c took q to places) o (out_below P o) h
  out_below (Moved w t rs ∷ P) o h = new_below P (Moved w t rs) o (out_below P o) h

  -- what is scheduled by one outgoing event more
  abbrev pub after_out : List Scheduled → ℕ → List Outgoing → Outgoing → List Scheduled
  after_out old k all o = old ++ scheduled S Z all k (o ∷ [])

  counted : (b : Bool) (k n m : ℕ) → m ≡ cond b 1 0 + n → (if b then suc k else k) + n ≡ k + m
  unfolding model
  counted true k n m e = omega (arith, e)
  counted false k n m e = omega (arith, e)

  pub scheduled_more : (all os : List Outgoing) (k : ℕ) (o : Outgoing) → scheduled S Z all k (os ++ o ∷ []) ≡ scheduled S Z all k os ++ scheduled S Z all (k + count_by (is_message S) os) (o ∷ [])
  unfolding model
  scheduled_more all [] k o = ap (λ n. scheduled S Z all n (o ∷ [])) (let e : k ≡ k + 0 = omega arith in e)
  scheduled_more all (p ∷ os) k o =
      ap (λ r. if_so (is_set_timer S p && not (is_cancelled S all p)) (timer S p ∷ []) ++ (if_so (is_message S p) (message S Z k p ∷ []) ++ r))
      (scheduled_more all os (if is_message S p then suc k else k) o
      ∙ ap (λ n. scheduled S Z all (if is_message S p then suc k else k) os ++ scheduled S Z all n (o ∷ [])) (counted (is_message S p) k (count_by (is_message S) os) (count_by (is_message S) (p ∷ os)) (sum_by-cons (λ x. cond (is_message S x) 1 0) p os)))
      ∙ ap (λ r. if_so (is_set_timer S p && not (is_cancelled S all p)) (timer S p ∷ []) ++ r) (sym (append_assoc (if_so (is_message S p) (message S Z k p ∷ [])) _ _))
      ∙ sym (append_assoc (if_so (is_set_timer S p && not (is_cancelled S all p)) (timer S p ∷ [])) _ _)

  -- an event that is no CancelTimer cancels nothing
  or_off : (b : Bool) → (b || (false || false)) ≡ b
  unfolding model
  or_off true = refl
  or_off false = refl

  cancels_same : (all : List Outgoing) (o p : Outgoing) → is_cancel_timer S o ≡ false → is_cancelled S (all ++ o ∷ []) p ≡ is_cancelled S all p
  unfolding model
  cancels_same all o p h =
      list_any-append (λ c. is_cancel_timer S c && same_timer p c && is_earlier p.no c.no) all (o ∷ [])
      ∙ ap (λ b. is_cancelled S all p || (b && same_timer p o && is_earlier p.no o.no || false)) h
      ∙ or_off (is_cancelled S all p)

  pub scheduled_all : (all os : List Outgoing) (k : ℕ) (o : Outgoing) → is_cancel_timer S o ≡ false → scheduled S Z (all ++ o ∷ []) k os ≡ scheduled S Z all k os
  unfolding model
  scheduled_all all [] k o h = refl
  scheduled_all all (p ∷ os) k o h =
      ap (λ b. if_so (is_set_timer S p && not b) (timer S p ∷ []) ++ (if_so (is_message S p) (message S Z k p ∷ []) ++ scheduled S Z (all ++ o ∷ []) (if is_message S p then suc k else k) os)) (cancels_same all o p h)
      ∙ ap (λ r. if_so (is_set_timer S p && not (is_cancelled S all p)) (timer S p ∷ []) ++ (if_so (is_message S p) (message S Z k p ∷ []) ++ r)) (scheduled_all all os (if is_message S p then suc k else k) o h)

  none_after : (P : History) (i : ℕ) → length P ≤ i → times_after P i ≡ []
  unfolding model
  none_after [] i h = refl
  none_after (Took w c item ∷ P) i h = none_after P i (omega (arith, h))
  none_after (Did w c took o to places ∷ P) i h = none_after P i (omega (arith, h))
  none_after (Moved w t rs ∷ P) i h = ap (λ b. if b then t ∷ times_after P i else times_after P i) (le-ltb i (length P) (omega (arith, h))) ∙ none_after P i (omega (arith, h))

  none_after_new : (P : History) (e : Entry) → times_after (e ∷ P) (length P) ≡ []
  unfolding model
  none_after_new P (Took w c item) = none_after P (length P) (omega arith)
  none_after_new P (Did w c took o to places) = none_after P (length P) (omega arith)
  none_after_new P (Moved w t rs) = ap (λ b. if b then t ∷ times_after P (length P) else times_after P (length P)) (le-ltb (length P) (length P) (omega arith)) ∙ none_after P (length P) (omega arith)

  -- what is scheduled by the latest entry is still due: no Moved came after it
  pub new_still : (P : History) (e : Entry) (q : Scheduled) → q.no.position ≡ length P → is_still_due S (e ∷ P) q ≡ true
  unfolding model
  new_still P e q h = ap (λ i. list_all (λ t. nat_lt t q.due) (times_after (e ∷ P) i)) h ∙ ap (list_all (λ t. nat_lt t q.due)) (none_after_new P e)

  raise_of : (a b : Bool) (q : ℕ × Release) (t : ℕ) (xs : List (ℕ × Release)) → nat_lt t q.0 ≡ a
      → cons_option (if a && b then Some q else None) (filter (λ p. nat_lt t p.0) xs) ≡ filter (λ p. nat_lt t p.0) (cons_option (if b then Some q else None) xs)
  unfolding model
  raise_of true true q t xs e = ap (λ v. cond v (q ∷ filter (λ p. nat_lt t p.0) xs) (filter (λ p. nat_lt t p.0) xs)) (sym e)
  raise_of false true q t xs e = ap (λ v. cond v (q ∷ filter (λ p. nat_lt t p.0) xs) (filter (λ p. nat_lt t p.0) xs)) (sym e)
  raise_of true false q t xs e = refl
  raise_of false false q t xs e = refl

  raises_moved : (P : History) (w t : ℕ) (rs : List Release) (zs : List Raise)
      → filter_map (λ r. if is_unraised S (Moved w t rs ∷ P) r then Some (r.time, record { chan = r.chan; event = r.event }) else None) zs
      ≡ filter {X = ℕ × Release} (λ p. nat_lt t p.0) (filter_map {Y = ℕ × Release} (λ r. if is_unraised S P r then Some (r.time, record { chan = r.chan; event = r.event }) else None) zs)
  unfolding model
  raises_moved P w t rs [] = refl
  raises_moved P w t rs (r ∷ zs) =
      ap (cons_option (if is_unraised S (Moved w t rs ∷ P) r then Some (r.time, record { chan = r.chan; event = r.event }) else None)) (raises_moved P w t rs zs)
      ∙ raise_of (nat_lt t r.time) (is_unraised S P r) (r.time, record { chan = r.chan; event = r.event }) t _ refl

  wait_of : (a b : Bool) (q : Scheduled) (t : ℕ) (xs : List Scheduled) (ys : List (ℕ × Release)) → nat_lt t q.due ≡ a → map {B = ℕ × Release} (λ w. (w.due, w.release)) xs ≡ filter (λ p. nat_lt t p.0) ys
      → map {B = ℕ × Release} (λ w. (w.due, w.release)) (cond (a && b) (q ∷ xs) xs) ≡ filter {X = ℕ × Release} (λ p. nat_lt t p.0) (cond b ((q.due, q.release) ∷ ys) ys)
  unfolding model
  wait_of true true q t xs ys e h = ap (λ r. (q.due, q.release) ∷ r) h ∙ ap (λ v. cond v ((q.due, q.release) ∷ filter (λ p. nat_lt t p.0) ys) (filter (λ p. nat_lt t p.0) ys)) (sym e)
  wait_of false true q t xs ys e h = h ∙ ap (λ v. cond v ((q.due, q.release) ∷ filter (λ p. nat_lt t p.0) ys) (filter (λ p. nat_lt t p.0) ys)) (sym e)
  wait_of true false q t xs ys e h = h
  wait_of false false q t xs ys e h = h

  map_kept : (b : Bool) (q : Scheduled) (xs : List Scheduled) → map {B = ℕ × Release} (λ w. (w.due, w.release)) (cond b (q ∷ xs) xs) ≡ cond b ((q.due, q.release) ∷ map {B = ℕ × Release} (λ w. (w.due, w.release)) xs) (map {B = ℕ × Release} (λ w. (w.due, w.release)) xs)
  unfolding model
  map_kept true q xs = refl
  map_kept false q xs = refl

  waits_moved : (P : History) (w t : ℕ) (rs : List Release) (ws : List Scheduled) → ((q : Scheduled) → IsIn q ws → q.no.position < length P)
      → map {B = ℕ × Release} (λ w. (w.due, w.release)) (filter (is_still_due S (Moved w t rs ∷ P)) ws) ≡ filter {X = ℕ × Release} (λ p. nat_lt t p.0) (map {B = ℕ × Release} (λ w. (w.due, w.release)) (filter (is_still_due S P) ws))
  unfolding model
  waits_moved P w t rs [] h = refl
  waits_moved P w t rs (q ∷ ws) h =
      ap (λ v. map {B = ℕ × Release} (λ w. (w.due, w.release)) (cond (list_all (λ u. nat_lt u q.due) (if v then t ∷ times_after P q.no.position else times_after P q.no.position)) (q ∷ filter (is_still_due S (Moved w t rs ∷ P)) ws) (filter (is_still_due S (Moved w t rs ∷ P)) ws))) (lt-ltb q.no.position (length P) (h q here))
      ∙ wait_of (nat_lt t q.due) (is_still_due S P q) q t (filter (is_still_due S (Moved w t rs ∷ P)) ws) (map {B = ℕ × Release} (λ w. (w.due, w.release)) (filter (is_still_due S P) ws)) refl (waits_moved P w t rs ws (λ r m. h r (there m)))
      ∙ ap (filter {X = ℕ × Release} (λ p. nat_lt t p.0)) (sym (map_kept (is_still_due S P q) q (filter (is_still_due S P) ws)))

  in_so : {X : Type 0} (b : Bool) (x y : X) → IsIn x (if_so b (y ∷ [])) → x ≡ y
  unfolding model
  in_so true x x' here = refl
  in_so true x y (there h) = elim h [ ]
  in_so false x y h = elim h [ ]

  scheduled_at : (all os : List Outgoing) (k : ℕ) (q : Scheduled) (o : Outgoing) → (IsIn q (scheduled S Z all (if is_message S o then suc k else k) os) → (p : Outgoing) × IsIn p os × (q.no ≡ p.no))
      → IsIn q (if_so (is_set_timer S o && not (is_cancelled S all o)) (timer S o ∷ [])) ⊎ IsIn q (if_so (is_message S o) (message S Z k o ∷ []) ++ scheduled S Z all (if is_message S o then suc k else k) os)
      → (p : Outgoing) × IsIn p (o ∷ os) × (q.no ≡ p.no)
  unfolding model
  scheduled_at all os k q o rest (inl a) = (o, here, ap (λ w. w.no) (in_so (is_set_timer S o && not (is_cancelled S all o)) q (timer S o) a))
  scheduled_at all os k q o rest (inr b) = elim (in_append q (if_so (is_message S o) (message S Z k o ∷ [])) (scheduled S Z all (if is_message S o then suc k else k) os) b) [
    | inl c ↦ (o, here, ap (λ w. w.no) (in_so (is_message S o) q (message S Z k o) c))
    | inr d ↦ let r = rest d in (r.0, there r.1, r.2)
  ]

  -- what is scheduled has the number of what went out
  scheduled_from : (all os : List Outgoing) (k : ℕ) (q : Scheduled) → IsIn q (scheduled S Z all k os) → (o : Outgoing) × IsIn o os × (q.no ≡ o.no)
  unfolding model
  scheduled_from all [] k q h = elim h [ ]
  scheduled_from all (o ∷ os) k q h = scheduled_at all os k q o (scheduled_from all os (if is_message S o then suc k else k) q) (in_append q (if_so (is_set_timer S o && not (is_cancelled S all o)) (timer S o ∷ [])) _ h)

  -- a Moved takes away what was due till its time
  pub pending_moved : (P : History) (w t : ℕ) (rs : List Release) → pending S Z (Moved w t rs ∷ P) ≡ filter (λ p. nat_lt t p.0) (pending S Z P)
  unfolding model
  pending_moved P w t rs =
      ap (λ outs. filter_map (λ r. if is_unraised S (Moved w t rs ∷ P) r then Some (r.time, record { chan = r.chan; event = r.event }) else None) Z.raises
      ++ map {B = ℕ × Release} (λ w. (w.due, w.release)) (filter (is_still_due S (Moved w t rs ∷ P)) (scheduled S Z outs 0 outs))) (ap (λ ys. outgoing S P ++ ys) (outgoing_moved P w t rs) ∙ append-nil (outgoing S P))
      ∙ ap (λ xs. xs ++ map {B = ℕ × Release} (λ w. (w.due, w.release)) (filter (is_still_due S (Moved w t rs ∷ P)) (scheduled S Z (outgoing S P) 0 (outgoing S P)))) (raises_moved P w t rs Z.raises)
      ∙ ap (λ ys. filter {X = ℕ × Release} (λ p. nat_lt t p.0) (filter_map {Y = ℕ × Release} (λ r. if is_unraised S P r then Some (r.time, record { chan = r.chan; event = r.event }) else None) Z.raises) ++ ys)
      (waits_moved P w t rs (scheduled S Z (outgoing S P) 0 (outgoing S P)) (λ q m. let f = scheduled_from (outgoing S P) (outgoing S P) 0 q m in let g = out_below P f.0 f.1 in let e = ap (λ n. n.position) f.2 in omega (arith, g, e)))
      ∙ sym (filter-append _ (filter_map {Y = ℕ × Release} (λ r. if is_unraised S P r then Some (r.time, record { chan = r.chan; event = r.event }) else None) Z.raises) (map {B = ℕ × Release} (λ w. (w.due, w.release)) (filter (is_still_due S P) (scheduled S Z (outgoing S P) 0 (outgoing S P)))))
