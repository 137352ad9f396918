-- Each release is at a port of the root.
use Rattle.std.proofs.Common.{◌≡◌, ℕ, suc, Bool, true, false, if◌then◌else◌, not, ◌&&◌, ◌==◌, refl, sym, ap, ◌∙◌, List, [], ◌∷◌, ◌++◌, length, filter, Option, Some, None, arith}
use Rattle.std.specs.Prelude.{nat_lt, slice_get}
use Rattle.std.specs.List.{cons_option, enumerate_from, filter_map, flat_map, list_all}
use Rattle.std.specs.Option.{option_map_or}
use Rattle.std.proofs.lemmas.Bool.{lt-ltb}
use Rattle.std.proofs.lemmas.List.Folds.{list_all-append, list_all-map}
use Rattle.std.proofs.lemmas.Option.{slice_get_within}
use Rattle.kom_base.specs.Lists.{if_so}
use Rattle.kom_lang.specs.Declarations.{Declarations, kind_of}
use Rattle.kom_lang.specs.declared.kind.PortDecl.{PortDecl}
use Rattle.kom_laws.proofs.ListFacts.{numbered}
use Rattle.kom_laws.proofs.Members.{IsIn, Some-injective, here, there}
use Rattle.kom_laws.proofs.Unaffected.{and_both}
use Rattle.kom_offered.specs.Laws.{are_at_ports}
use Rattle.kom_record.specs.declared.plan.Plan.{Plan}
use Rattle.kom_record.specs.declared.plan.Raise.{Raise}
use Rattle.kom_record.specs.declared.entry.Release.{Release}
use Rattle.kom_record.specs.declared.entry.Entry.{Entry}
use Rattle.kom_record.specs.declared.entry.Entry.TheVariants.{Took, Did, Moved}
use Rattle.kom_record.specs.Entries.{History}
use Rattle.kom_record.specs.Offers.{Offer, offers}
use Rattle.kom_record.specs.Plans.{PlanFits, comes_in_at}
use Rattle.kom_record.specs.Queues.{enters}
use Rattle.kom_record.specs.Time.{Outgoing, Scheduled, batch, clock, is_cancelled, is_message, is_set_timer, is_still_due, is_unraised, message, outgoing, outgoing_by, outgoing_of, outward, pending, root_ports, scheduled, timer}

-- ---- lists

all_in : {X : Type 0} (p : X → Bool) (xs : List X) → ((x : X) → IsIn x xs → p x ≡ true) → list_all p xs ≡ true
all_in p [] h = refl
all_in p (x ∷ xs) h = ap (λ b. b && list_all p xs) (h x here) ∙ all_in p xs (λ y m. h y (there m))

both_true : (a b : Bool) → a ≡ true → b ≡ true → (a && b) ≡ true
both_true a b e f = ap (λ t. t && b) e ∙ f

all_on : {X : Type 0} (p : X → Bool) (xs ys : List X) → list_all p xs ≡ true → list_all p ys ≡ true → list_all p (xs ++ ys) ≡ true
all_on p xs ys a b = list_all-append p xs ys ∙ both_true _ _ a b

-- what is made of what passes
all_made : {X Y : Type 0} (q : X → Bool) (p : Y → Bool) (f : X → Option Y) → ((x : X) (y : Y) → f x ≡ Some y → q x ≡ true → p y ≡ true) → (xs : List X) → list_all q xs ≡ true → list_all p (filter_map f xs) ≡ true
all_made q p f h [] e = refl
all_made q p f h (x ∷ xs) e = go (f x) refl (all_made q p f h xs (and_both _ _ e).1)
  where
    go : (o : Option _) → f x ≡ o → list_all p (filter_map f xs) ≡ true → list_all p (filter_map f (x ∷ xs)) ≡ true
    go None t rest = ap (λ o. list_all p (cons_option o (filter_map f xs))) t ∙ rest
    go (Some y) t rest = ap (λ o. list_all p (cons_option o (filter_map f xs))) t ∙ both_true _ _ (h x y t (and_both _ _ e).0) rest

all_kept : {X : Type 0} (p q : X → Bool) (xs : List X) → list_all p xs ≡ true → list_all p (filter q xs) ≡ true
all_kept p q [] e = refl
all_kept p q (x ∷ xs) e = go (q x) (all_kept p q xs (and_both _ _ e).1)
  where
    go : (b : Bool) → list_all p (filter q xs) ≡ true → list_all p (if b then x ∷ filter q xs else filter q xs) ≡ true
    go true rest = both_true _ _ (and_both _ _ e).0 rest
    go false rest = rest

all_if : {X : Type 0} (p : X → Bool) (b : Bool) (xs : List X) → list_all p xs ≡ true → list_all p (if_so b xs) ≡ true
all_if p true xs e = e
all_if p false xs e = refl

all_pieces : {X Y : Type 0} (p : Y → Bool) (f : X → List Y) → ((x : X) → list_all p (f x) ≡ true) → (xs : List X) → list_all p (flat_map f xs) ≡ true
all_pieces p f h [] = refl
all_pieces p f h (x ∷ xs) = all_on p (f x) (flat_map f xs) (h x) (all_pieces p f h xs)

chosen : {X : Type 0} (b : Bool) (x y : X) → (if b then Some x else None) ≡ Some y → x ≡ y
chosen true x y e = Some-injective e
chosen false x y e = absurd (cc)

module _ (S : Declarations) (Z : Plan) where
  abbrev ports : List PortDecl
  ports = (kind_of S S.root.kind).ports

  abbrev is_port : ℕ → Bool
  is_port x = nat_lt x (length ports)

  there_is : (f : PortDecl → Bool) (x : ℕ) → option_map_or f (slice_get ports x) false ≡ true → is_port x ≡ true
  there_is f x e = go (slice_get ports x) refl e
    where
      go : (o : Option PortDecl) → slice_get ports x ≡ o → option_map_or f o false ≡ true → is_port x ≡ true
      go None t h = absurd (cc)
      go (Some p) t h = lt-ltb x (length ports) (slice_get_within ports x p t)

  -- ---- what goes out

  root_port : (x : ℕ × PortDecl) → IsIn x (root_ports S) → is_port x.0 ≡ true
  root_port x m =
      let n = numbered 0 ports x m in
      let at : slice_get ports x.0 ≡ Some x.1 = ap (slice_get ports) (let e : x.0 ≡ n.0 = omega (arith, n.1) in e) ∙ n.2 in
      lt-ltb x.0 (length ports) (slice_get_within ports x.0 x.1 at)

  out_at : (P : History) (q : ℕ × Offer) → list_all (λ o. is_port o.chan) (outgoing_by S P q) ≡ true
  out_at P q = all_made (λ x. is_port x.0) (λ o. is_port o.chan) _
      (λ x o e t. ap (λ o. is_port o.chan) (sym (chosen (enters S P x.0 (outward x.1) q.1) (record { no = record { position = length P; place = q.0 }; chan = x.0; event = q.1.event; at = clock P }) o e)) ∙ t)
      (root_ports S) (all_in (λ x. is_port x.0) (root_ports S) root_port)

  out_of_entry : (P : History) (e : Entry) → list_all (λ o. is_port o.chan) (outgoing_of S P e) ≡ true
  unfolding outgoing_of
  out_of_entry P e = all_pieces (λ o. is_port o.chan) (outgoing_by S P) (out_at P) (enumerate_from 0 (offers P e))

  out_of_all : (P : History) → list_all (λ o. is_port o.chan) (outgoing S P) ≡ true
  unfolding outgoing
  out_of_all [] = refl
  out_of_all (Took w c item ∷ P) = out_of_all P
  out_of_all (Did w c took o to places ∷ P) = all_on (λ o. is_port o.chan) (outgoing S P) (outgoing_of S P (Did w c took o to places)) (out_of_all P) (out_of_entry P (Did w c took o to places))
  out_of_all (Moved w t released ∷ P) = all_on (λ o. is_port o.chan) (outgoing S P) (outgoing_of S P (Moved w t released)) (out_of_all P) (out_of_entry P (Moved w t released))

  -- ---- what is pending

  waits_at : (all : List Outgoing) (k : ℕ) (os : List Outgoing) → list_all (λ o. is_port o.chan) os ≡ true → list_all (λ s. is_port s.release.chan) (scheduled S Z all k os) ≡ true
  unfolding scheduled timer message
  waits_at all k [] e = refl
  waits_at all k (o ∷ os) e =
      let a = and_both (is_port o.chan) _ e in
      all_on (λ s. is_port s.release.chan) (if_so (is_set_timer S o && not (is_cancelled S all o)) (timer S o ∷ [])) _
      (all_if (λ s. is_port s.release.chan) (is_set_timer S o && not (is_cancelled S all o)) (timer S o ∷ []) (both_true _ _ a.0 refl))
      (all_on (λ s. is_port s.release.chan) (if_so (is_message S o) (message S Z k o ∷ [])) _
      (all_if (λ s. is_port s.release.chan) (is_message S o) (message S Z k o ∷ []) (both_true _ _ a.0 refl))
      (waits_at all (if is_message S o then suc k else k) os a.1))

  raise_at : (r : Raise) → comes_in_at S r.chan r.event ≡ true → is_port r.chan ≡ true
  unfolding comes_in_at
  raise_at r e = there_is _ r.chan (and_both _ _ e).0

  pending_at : (P : History) → PlanFits S Z → list_all (λ (p : ℕ × Release). is_port p.1.chan) (pending S Z P) ≡ true
  unfolding pending
  pending_at P f =
      all_on (λ (p : ℕ × Release). is_port p.1.chan) _ _
      (all_made (λ r. comes_in_at S r.chan r.event) (λ (p : ℕ × Release). is_port p.1.chan) _
      (λ r p e t. ap (λ (p : ℕ × Release). is_port p.1.chan) (sym (chosen (is_unraised S P r) (r.time, record { chan = r.chan; event = r.event }) p e)) ∙ raise_at r t)
      Z.raises f.come_in)
      (list_all-map (λ (p : ℕ × Release). is_port p.1.chan) (λ (s : Scheduled). (s.due, s.release)) (filter (is_still_due S P) (scheduled S Z (outgoing S P) 0 (outgoing S P)))
      ∙ all_kept (λ s. is_port s.release.chan) (is_still_due S P) (scheduled S Z (outgoing S P) 0 (outgoing S P)) (waits_at (outgoing S P) 0 (outgoing S P) (out_of_all P)))

  pub at_ports : (P : History) (t : ℕ) → PlanFits S Z → are_at_ports S (batch S Z P t) ≡ true
  unfolding batch
  at_ports P t f = all_made (λ (p : ℕ × Release). is_port p.1.chan) (λ r. is_port r.chan) _
      (λ p r e h. ap (λ r. is_port r.chan) (sym (chosen (p.0 == t) p.1 r e)) ∙ h)
      (pending S Z P) (pending_at P f)
