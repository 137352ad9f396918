-- How many releases there can be at a time.
use Rattle.std.proofs.Common.{◌≡◌, ℕ, suc, ◌+◌, ◌*◌, ◌≤◌, Bool, true, false, if◌then◌else◌, not, ◌&&◌, ◌==◌, refl, sym, ap, ◌∙◌, subst, List, [], ◌∷◌, ◌++◌, length, map, filter, Option, Some, None, arith}
use Rattle.std.specs.List.{cons_option, enumerate_from, filter_map, flat_map}
use Rattle.std.proofs.lemmas.List.{length-reverse, length-append}
use Rattle.std.proofs.lemmas.List.FromFn.{length-enumerate_from}
use Rattle.kom_base.specs.Lists.{if_so}
use Rattle.kom_lang.specs.Declarations.{Declarations}
use Rattle.kom_lang.specs.declared.kind.PortDecl.{PortDecl}
use Rattle.kom_lang.specs.declared.body.Effect.{Effect}
use Rattle.kom_laws.proofs.Members.{IsIn, here}
use Rattle.kom_laws.proofs.TimeLaws.{outgoing_moved}
use Rattle.kom_limits.specs.Laws.{ActsAreBounded, RecordsAreShort}
use Rattle.kom_record.specs.declared.item.Item.{Item}
use Rattle.kom_record.specs.declared.item.Item.TheVariants.{Control, Arrival}
use Rattle.kom_record.specs.declared.plan.Plan.{Plan}
use Rattle.kom_record.specs.declared.entry.Release.{Release}
use Rattle.kom_record.specs.declared.entry.Outcome.{Outcome}
use Rattle.kom_record.specs.declared.entry.Outcome.TheVariants as outcome
use Rattle.kom_record.specs.declared.entry.Entry.{Entry}
use Rattle.kom_record.specs.declared.entry.Entry.TheVariants.{Took, Did, Moved}
use Rattle.kom_record.specs.Entries.{Act, History, acts, acts_for, acts_of, item_at}
use Rattle.kom_record.specs.Legal.{IsLegal}
use Rattle.kom_record.specs.Offers.{Offer, offers, offers_for, offer_of, relayed}
use Rattle.kom_record.specs.Plans.{PlanFits}
use Rattle.kom_record.specs.Queues.{enters}
use Rattle.kom_record.specs.Time.{Outgoing, batch, clock, is_cancelled, is_message, is_set_timer, is_still_due, is_unraised, message, outgoing, outgoing_by, outgoing_of, outward, pending, root_ports, scheduled, timer}
use Rattle.kom_times.proofs.Outward.{by_port, goes_out, made_from, port_at}

pub few_made : {X Y : Type 0} (f : X → Option Y) (xs : List X) → length (filter_map f xs) ≤ length xs
few_made f [] = omega arith
few_made f (x ∷ xs) = go (f x) (few_made f xs)
  where
    go : (o : Option _) → length (filter_map f xs) ≤ length xs → length (cons_option o (filter_map f xs)) ≤ suc (length xs)
    go None r = omega (arith, r)
    go (Some y) r = omega (arith, r)

pub few_kept : {X : Type 0} (p : X → Bool) (xs : List X) → length (filter p xs) ≤ length xs
few_kept p [] = omega arith
few_kept p (x ∷ xs) = go (p x) (few_kept p xs)
  where
    go : (b : Bool) → length (filter p xs) ≤ length xs → length (if b then x ∷ filter p xs else filter p xs) ≤ suc (length xs)
    go true r = omega (arith, r)
    go false r = omega (arith, r)

few_if : {X : Type 0} (b : Bool) (x : X) → length (if_so b (x ∷ [])) ≤ 1
few_if true x = omega arith
few_if false x = omega arith

long_map : {X Y : Type 0} (f : X → Y) (xs : List X) → length (map f xs) ≡ length xs
long_map f [] = refl
long_map f (x ∷ xs) = ap suc (long_map f xs)

one_each : {X Y : Type 0} (f : X → List Y) → ((x : X) → length (f x) ≤ 1) → (xs : List X) → length (flat_map f xs) ≤ length xs
one_each f h [] = omega arith
one_each f h (x ∷ xs) = let a = h x in let r = one_each f h xs in let e = length-append (f x) (flat_map f xs) in omega (arith, a, r, e)

module _ (S : Declarations) (Z : Plan) where
  -- ---- what goes out

  entering : (P : History) (q : ℕ × Offer) (x : ℕ × PortDecl) (o : Outgoing) (b : Bool) → enters S P x.0 (outward x.1) q.1 ≡ b → by_port S P q x ≡ Some o → enters S P x.0 (outward x.1) q.1 ≡ true
  entering P q x o true e h = e
  entering P q x o false e h = absurd (let f = sym (ap (λ b. if◌then◌else◌ {A = Option Outgoing} b (Some (record { no = record { position = length P; place = q.0 }; chan = x.0; event = q.1.event; at = clock P })) None) e) ∙ h in cc)

  one_by : (P : History) (q : ℕ × Offer) → length (outgoing_by S P q) ≤ 1
  one_by P q = go (outgoing_by S P q) refl
    where
      go : (os : List Outgoing) → outgoing_by S P q ≡ os → length (outgoing_by S P q) ≤ 1
      go [] e = let a = ap length e in omega (arith, a)
      go (o ∷ os) e =
          let m = made_from (by_port S P q) (root_ports S) o (subst (IsIn o) (sym e) here) in
          let a = ap length (goes_out S P q m.0.0 m.0.1 (port_at S m.0 m.1) (entering P q m.0 o _ refl m.2)) in
          omega (arith, a)

  few_out : (P : History) (e : Entry) → length (outgoing_of S P e) ≤ length (offers P e)
  unfolding outgoing_of
  few_out P e =
      let a = one_each (outgoing_by S P) (one_by P) (enumerate_from 0 (offers P e)) in
      let b = length-enumerate_from 0 (offers P e) in
      omega (arith, a, b)

  passed_on : (P : History) (c : ℕ) (item : Item) → length (relayed P c item) ≤ 1
  passed_on P c (Control k) = omega arith
  passed_on P c (Arrival x d n port side event back) = omega arith

  by_item : (P : History) (c took : ℕ) (effects : List Effect) (o : Option Item) → length (offers_for P c took effects o) ≤ 1 + length (acts_for c o effects)
  by_item P c took effects None = omega arith
  by_item P c took effects (Some item) =
      let a = passed_on P c item in
      let b = few_made (offer_of c took item) effects in
      let e = length-append (relayed P c item) (filter_map (offer_of c took item) effects) in
      let d = length-reverse {A = Act} (map (λ f. record { by = c; item = item; effect = f }) effects) in
      let m = long_map {Y = Act} (λ f. record { by = c; item = item; effect = f }) effects in
      omega (arith, a, b, e, d, m)

  pub few_offers : (P : History) (w c took : ℕ) (o : Outcome) (to : Option ℕ) (places : List ℕ) → length (offers P (Did w c took o to places)) ≤ 1 + length (acts_of P (Did w c took o to places))
  unfolding offers acts_of
  few_offers P w c took outcome.Void to places = omega arith
  few_offers P w c took (outcome.Fault n) to places = omega arith
  few_offers P w c took (outcome.Done body effects) to places = by_item P c took effects (item_at P took)

  -- as many as there are effects, and one for each entry more
  few_outgoing : (P : History) → length (outgoing S P) ≤ length (acts P) + length P
  unfolding outgoing acts
  few_outgoing [] = omega arith
  few_outgoing (Took w c item ∷ P) =
      let r = few_outgoing P in
      let e = length-append (acts_of P (Took w c item)) (acts P) in
      omega (arith, r, e)
  few_outgoing (Did w c took o to places ∷ P) =
      let r = few_outgoing P in
      let a = few_out P (Did w c took o to places) in
      let b = few_offers P w c took o to places in
      let d = length-append (outgoing S P) (outgoing_of S P (Did w c took o to places)) in
      let e = length-append (acts_of P (Did w c took o to places)) (acts P) in
      omega (arith, r, a, b, d, e)
  few_outgoing (Moved w t released ∷ P) =
      let r = few_outgoing P in
      let a = ap length (outgoing_moved S Z P w t released) in
      let d = length-append (outgoing S P) (outgoing_of S P (Moved w t released)) in
      let e = length-append (acts_of P (Moved w t released)) (acts P) in
      omega (arith, r, a, d, e)

  -- ---- what is pending

  few_scheduled : (all : List Outgoing) (k : ℕ) (os : List Outgoing) → length (scheduled S Z all k os) ≤ 2 * length os
  unfolding scheduled
  few_scheduled all k [] = omega arith
  few_scheduled all k (o ∷ os) =
      let r = few_scheduled all (if is_message S o then suc k else k) os in
      let a = few_if (is_set_timer S o && not (is_cancelled S all o)) (timer S o) in
      let b = few_if (is_message S o) (message S Z k o) in
      let d = length-append (if_so (is_message S o) (message S Z k o ∷ [])) (scheduled S Z all (if is_message S o then suc k else k) os) in
      let e = length-append (if_so (is_set_timer S o && not (is_cancelled S all o)) (timer S o ∷ [])) (if_so (is_message S o) (message S Z k o ∷ []) ++ scheduled S Z all (if is_message S o then suc k else k) os) in
      omega (arith, r, a, b, d, e)

  few_pending : (P : History) → length (pending S Z P) ≤ length Z.raises + 2 * length (outgoing S P)
  unfolding pending
  few_pending P =
      let waits = filter (is_still_due S P) (scheduled S Z (outgoing S P) 0 (outgoing S P)) in
      let a = few_made {Y = ℕ × Release} (λ r. if is_unraised S P r then Some (r.time, record { chan = r.chan; event = r.event }) else None) Z.raises in
      let b = few_scheduled (outgoing S P) 0 (outgoing S P) in
      let k = few_kept (is_still_due S P) (scheduled S Z (outgoing S P) 0 (outgoing S P)) in
      let m = long_map {Y = ℕ × Release} (λ s. (s.due, s.release)) waits in
      let e = length-append (filter_map {Y = ℕ × Release} (λ r. if is_unraised S P r then Some (r.time, record { chan = r.chan; event = r.event }) else None) Z.raises) (map (λ s. (s.due, s.release)) waits) in
      omega (arith, a, b, k, m, e)

  pub short : ActsAreBounded → RecordsAreShort → (P : History) (t : ℕ) → PlanFits S Z → IsLegal S Z P → length (batch S Z P t) ≤ 2007000000
  unfolding batch
  short bounded record_short P t f l =
      let a = few_made (λ p. if p.0 == t then Some p.1 else None) (pending S Z P) in
      let b = few_pending P in
      let d = few_outgoing P in
      let e = bounded S Z P l in
      let g = record_short S Z P l in
      let r = f.raises in
      let s = f.steps in
      let i = f.instants in
      omega (arith, a, b, d, e, g, r, s, i)
