-- Each direction is received in order.
use Rattle.std.proofs.Common.{◌≡◌, ℕ, suc, ◌+◌, ◌<◌, ◌≤◌, Bool, true, false, not, ◌&&◌, ◌==◌, refl, sym, ap, ◌∙◌, subst, List, [], ◌∷◌, ◌++◌, length, filter, Some, None, if◌then◌else◌, ◌⊎◌, inl, inr, arith}
use Rattle.std.specs.List.{filter_map, cons_option, enumerate_from}
use Rattle.std.proofs.lemmas.List.{append_assoc, append-nil}
use Rattle.std.proofs.lemmas.Bool.{eqb-true}
use Rattle.std.proofs.Math.Logic.{∥∥₁_elim}
use Rattle.std.specs.Coded.{Coded, codes, Coded-set}
use Rattle.kom_base.specs.declared.numbers.Dir.{Dir}
use Rattle.kom_base.specs.declared.numbers.Dir.TheVariants.{Plus, Minus}
use Rattle.kom_base.specs.Numbers.{same_dir}
use Rattle.kom_base.specs.Lists.{first}
use Rattle.kom_lang.specs.Declarations.{Declarations}
use Rattle.kom_record.specs.Model.{model}
use Rattle.kom_record.specs.declared.plan.Plan.{Plan}
use Rattle.kom_record.specs.declared.item.Item.TheVariants.{Control, Arrival}
use Rattle.kom_record.specs.declared.entry.Entry.{Entry}
use Rattle.kom_record.specs.declared.entry.Entry.TheVariants.{Took, Did, Moved}
use Rattle.kom_record.specs.Entries.{History}
use Rattle.kom_record.specs.Channels.{goes_out}
use Rattle.kom_record.specs.Offers.{Offer, offers}
use Rattle.kom_record.specs.Queues.{Envelope, enters, entering, entered, taken, taken_from, received, waiting}
use Rattle.kom_record.specs.Legal.{IsLegal}
use Rattle.kom_laws.proofs.Members.{IsIn, here, there}
use Rattle.kom_laws.proofs.Rising.{Rising, Earlier, rising_append, in_append, second_part}
use Rattle.kom_laws.proofs.NextItem.{first_waits}

abbrev envelope : ℕ → ℕ → Offer → Envelope
envelope k n o = record { no = record { position = k; place = n }; event = o.event; back = o.back }

-- the envelopes of the offers that pass a test; the first offer has the place n
abbrev passing : (Offer → Bool) → ℕ → ℕ → List Offer → List Envelope
passing test k n os = filter_map (λ q. if test q.1 then Some (envelope k q.0 q.1) else None) (enumerate_from n os)

abbrev IsFrom : ℕ → ℕ → Envelope → Type 0
IsFrom k n p = (p.no.position ≡ k) × (n ≤ p.no.place)

-- p is the new one, or among the others
added : {X : Type 0} (b : Bool) (x p : X) (xs : List X) → IsIn p (cons_option (if b then Some x else None) xs) → (p ≡ x) ⊎ IsIn p xs
unfolding model
added true x p xs here = inl refl
added true x p xs (there h) = inr h
added false x p xs h = inr h

rising_add : (b : Bool) (x : Envelope) (xs : List Envelope) → ((q : Envelope) → IsIn q xs → Earlier x q) → Rising xs → Rising (cons_option (if b then Some x else None) xs)
unfolding model
rising_add true x xs e h = (e, h)
rising_add false x xs e h = h

module _ (test : Offer → Bool) (k : ℕ) where
  passing_from : (n : ℕ) (os : List Offer) (p : Envelope) → IsIn p (passing test k n os) → IsFrom k n p
  unfolding model
  passing_from n [] p h = elim h [ ]
  passing_from n (o ∷ os) p h = go (added (test o) (envelope k n o) p (passing test k (n + 1) os) h) (passing_from (n + 1) os p)
    where
      go : (p ≡ envelope k n o) ⊎ IsIn p (passing test k (n + 1) os) → (IsIn p (passing test k (n + 1) os) → IsFrom k (n + 1) p) → IsFrom k n p
      go (inl e) rest = (ap (λ q. q.no.position) e, subst (λ q. n ≤ q.no.place) (sym e) (omega arith))
      go (inr h) rest = let r = rest h in (r.0, omega (arith, r.1))

  passing_rises : (n : ℕ) (os : List Offer) → Rising (passing test k n os)
  unfolding model
  passing_rises n [] = tt
  passing_rises n (o ∷ os) =
      rising_add (test o) (envelope k n o) (passing test k (n + 1) os)
      (λ q m. let f = passing_from (n + 1) os q m in inr (sym f.0, omega (arith, f.1)))
      (passing_rises (n + 1) os)

both_true : (a b : Bool) → (a && b) ≡ true → (a ≡ true) × (b ≡ true)
unfolding model
both_true true true e = (refl, refl)
both_true true false e = absurd cc
both_true false b e = absurd cc

same_dirs : (e d : Dir) → same_dir e d ≡ true → e ≡ d
unfolding model
same_dirs Plus Plus h = refl
same_dirs Plus Minus h = absurd cc
same_dirs Minus Plus h = absurd cc
same_dirs Minus Minus h = refl

pub same_way : (y x : ℕ) (e d : Dir) → (y == x && same_dir e d) ≡ true → ◌≡◌ {A = ℕ × Dir} (y, e) (x, d)
unfolding model
same_way y x e d t =
    let b = both_true (y == x) (same_dir e d) t in
    ap (λ n. (n, e)) (eqb-true y x b.0) ∙ ap (λ f. (x, f)) (same_dirs e d b.1)

module _ (S : Declarations) (x : ℕ) (d : Dir) where
  newly : (P : History) (e : Entry) (p : Envelope) → (IsIn p (entered S P x d) → p.no.position < length P) → IsIn p (entered S P x d) ⊎ IsIn p (entering S P e x d) → p.no.position < suc (length P)
  unfolding model
  newly P e p rest (inl h) = let r = rest h in omega (arith, r)
  newly P e p rest (inr h) = let f = passing_from (λ o. enters S P x d o) (length P) 0 (offers P e) p h in omega (arith, f.0)

  -- what entered so far has positions below the length
  entered_below : (P : History) (p : Envelope) → IsIn p (entered S P x d) → p.no.position < length P
  unfolding model
  entered_below [] p h = elim h [ ]
  entered_below (Took w c item ∷ P) p h = let r = entered_below P p h in omega (arith, r)
  entered_below (Did w c took o to places ∷ P) p h = newly P (Did w c took o to places) p (entered_below P p) (in_append p (entered S P x d) (entering S P (Did w c took o to places) x d) h)
  entered_below (Moved w t released ∷ P) p h = newly P (Moved w t released) p (entered_below P p) (in_append p (entered S P x d) (entering S P (Moved w t released) x d) h)

  rises_on : (P : History) (e : Entry) → Rising (entered S P x d) → Rising (entered S P x d ++ entering S P e x d)
  unfolding model
  rises_on P e h =
      rising_append (entered S P x d) (entering S P e x d) h (passing_rises (λ o. enters S P x d o) (length P) 0 (offers P e))
      (λ p q a b. let f = passing_from (λ o. enters S P x d o) (length P) 0 (offers P e) q b in let g = entered_below P p a in inl (omega (arith, f.0, g)))

  pub entered_rises : (P : History) → Rising (entered S P x d)
  unfolding model
  entered_rises [] = tt
  entered_rises (Took w c item ∷ P) = entered_rises P
  entered_rises (Did w c took o to places ∷ P) = rises_on P (Did w c took o to places) (entered_rises P)
  entered_rises (Moved w t released ∷ P) = rises_on P (Moved w t released) (entered_rises P)

  -- the received ones of a direction that does not go out
  received_is : (P : History) → goes_out S x d ≡ false → received S P x d ≡ taken_from S P x d
  unfolding model
  received_is P h = ap (λ b. if b then entered S (Rattle.kom_record.specs.Queues.before_moved S P) x d else taken_from S P x d) h

  pub waiting_is : (P : History) (rest : List Envelope) → goes_out S x d ≡ false → entered S P x d ≡ taken_from S P x d ++ rest → waiting S P x d ≡ rest
  unfolding model
  waiting_is P rest h e =
      ap (λ r. filter (λ p. not (Rattle.kom_laws.proofs.Rising.among r p)) (entered S P x d)) (received_is P h)
      ∙ ap (λ xs. filter (λ p. not (Rattle.kom_laws.proofs.Rising.among (taken_from S P x d) p)) xs) e
      ∙ second_part (taken_from S P x d) rest (subst Rising e (entered_rises P))

  -- what was taken, and then the rest
  abbrev pub Splits : History → Type 0
  Splits P = (rest : List Envelope) × (entered S P x d ≡ taken_from S P x d ++ rest)

  -- a list that begins with its first
  first_then : (ps : List Envelope) (p : Envelope) → first ps ≡ Some p → (rest : List Envelope) × (ps ≡ p ∷ rest)
  unfolding model
  first_then [] p e = absurd cc
  first_then (q ∷ ps) p e = (ps, ap (λ r. r ∷ ps) (Rattle.kom_laws.proofs.Members.Some-injective e))

  -- the one that is taken is the first of the rest
  takes_one : (P : History) (p : Envelope) → goes_out S x d ≡ false → Splits P → first (waiting S P x d) ≡ Some p
      → (rest : List Envelope) × (entered S P x d ≡ (taken_from S P x d ++ p ∷ []) ++ rest)
  unfolding model
  takes_one P p h s f =
      let g = first_then (waiting S P x d) p f in
      (g.0, s.1 ∙ ap (λ r. taken_from S P x d ++ r) (sym (waiting_is P s.0 h s.1) ∙ g.1) ∙ sym (append_assoc (taken_from S P x d) (p ∷ []) g.0))

  -- an entry that takes nothing here, and puts these in
  puts : (P : History) (new : List Envelope) → Splits P → (rest : List Envelope) × (entered S P x d ++ new ≡ (taken_from S P x d ++ []) ++ rest)
  unfolding model
  puts P new s =
      (s.0 ++ new, ap (λ r. r ++ new) s.1 ∙ append_assoc (taken_from S P x d) s.0 new ∙ ap (λ r. r ++ (s.0 ++ new)) (sym (append-nil (taken_from S P x d))))

  -- an entry that takes nothing here, and puts nothing
  keeps : (P : History) → Splits P → (rest : List Envelope) × (entered S P x d ≡ (taken_from S P x d ++ []) ++ rest)
  unfolding model
  keeps P s = (s.0, s.1 ∙ ap (λ r. r ++ s.0) (sym (append-nil (taken_from S P x d))))

  -- b says that the item came by this direction
  takes : (P : History) (p : Envelope) (b : Bool) → goes_out S x d ≡ false → Splits P → (b ≡ true → first (waiting S P x d) ≡ Some p)
      → (rest : List Envelope) × (entered S P x d ≡ (taken_from S P x d ++ (if b then p ∷ [] else [])) ++ rest)
  unfolding model
  takes P p true h s f = takes_one P p h s (f refl)
  takes P p false h s f = keeps P s

  pub splits : (Z : Plan) (P : History) → goes_out S x d ≡ false → IsLegal S Z P → Splits P
  unfolding model
  splits Z [] h l = ([], refl)
  splits Z (Took w c (Control k) ∷ P) h l = keeps P (splits Z P h l.0)
  splits Z (Took w c (Arrival y e n port side event back) ∷ P) h l =
      takes P (record { no = n; event = event; back = back }) (y == x && same_dir e d) h (splits Z P h l.0)
      (λ t. let way = same_way y x e d t in subst (λ v. first (waiting S P v.0 v.1) ≡ Some (record { no = n; event = event; back = back })) way (first_waits S P c y e n port side event back l.1.next))
  splits Z (Did w c took o to places ∷ P) h l = puts P (entering S P (Did w c took o to places) x d) (splits Z P h l.0)
  splits Z (Moved w t released ∷ P) h l = puts P (entering S P (Moved w t released) x d) (splits Z P h l.0)

  pub in_order : (Z : Plan) (P : History) → IsLegal S Z P → goes_out S x d ≡ false → entered S P x d ≡ received S P x d ++ waiting S P x d
  unfolding model
  in_order Z P l h =
      let s = splits Z P h l in
      s.1 ∙ ap (λ r. r ++ s.0) (sym (received_is P h)) ∙ ap (λ r. received S P x d ++ r) (sym (waiting_is P s.0 h s.1))

envelopes_coded : Coded (List Envelope)
unfolding model
envelopes_coded = hlevel codes

module _ (S : Declarations) (Z : Plan) (R : History) (x : ℕ) (d : Dir) where
  -- the same where legality is known as a truncated fact, as that of a station is
  pub in_order_kept : ∥ IsLegal S Z R ∥₁ → goes_out S x d ≡ false → entered S R x d ≡ received S R x d ++ waiting S R x d
  unfolding model
  in_order_kept l h = ∥∥₁_elim l (Coded-set envelopes_coded _ _) (λ k. in_order S x d Z R k h)
