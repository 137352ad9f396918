-- Envelopes in rising order, and what a filter leaves of them.
use Rattle.std.proofs.Common.{◌≡◌, ℕ, ◌<◌, Bool, true, false, cond, not, ◌&&◌, ◌||◌, nat_eq, refl, ap, ◌∙◌, List, [], ◌∷◌, ◌++◌, filter, ◌⊎◌, inl, inr, arith, eq-eqb}
use Rattle.std.specs.List.{list_any}
use Rattle.std.proofs.lemmas.Bool.Decides.{eqb_tells}
use Rattle.std.proofs.lemmas.List.Elements.{filter-append}
use Rattle.kom_base.specs.declared.numbers.EntryNo.{EntryNo}
use Rattle.kom_base.specs.Numbers.{same_no}
use Rattle.kom_record.specs.Queues.{Envelope}
use Rattle.kom_laws.proofs.Members.{IsIn, here, there}

-- a comes before b
abbrev pub Earlier : Envelope → Envelope → Type 0
Earlier a b = (a.no.position < b.no.position) ⊎ ((a.no.position ≡ b.no.position) × (a.no.place < b.no.place))

-- each comes before all later ones
abbrev pub Rising : List Envelope → Type 0
Rising [] = Unit {0}
Rising (p ∷ ps) = ((q : Envelope) → IsIn q ps → Earlier p q) × Rising ps

pub in_append : {X : Type 0} (x : X) (xs ys : List X) → IsIn x (xs ++ ys) → IsIn x xs ⊎ IsIn x ys
in_append x [] ys h = inr h
in_append x (y ∷ xs) ys here = inl here
in_append x (y ∷ xs) ys (there h) = elim (in_append x xs ys h) [ inl k ↦ inl (there k) | inr k ↦ inr k ]

pub in_left : {X : Type 0} (x : X) (xs ys : List X) → IsIn x xs → IsIn x (xs ++ ys)
in_left x [] ys h = elim h [ ]
in_left x (y ∷ xs) ys here = here
in_left x (y ∷ xs) ys (there h) = there (in_left x xs ys h)

pub in_right : {X : Type 0} (x : X) (xs ys : List X) → IsIn x ys → IsIn x (xs ++ ys)
in_right x [] ys h = h
in_right x (y ∷ xs) ys h = there (in_right x xs ys h)

pub rising_append : (xs ys : List Envelope) → Rising xs → Rising ys → ((p q : Envelope) → IsIn p xs → IsIn q ys → Earlier p q) → Rising (xs ++ ys)
rising_append [] ys h k e = k
rising_append (x ∷ xs) ys h k e =
    ((λ q m. elim (in_append q xs ys m) [ inl a ↦ h.0 q a | inr b ↦ e x q here b ]), rising_append xs ys h.1 k (λ p q a b. e p q (there a) b))

pub rising_across : (xs ys : List Envelope) → Rising (xs ++ ys) → (p q : Envelope) → IsIn p xs → IsIn q ys → Earlier p q
rising_across [] ys h p q a b = elim a [ ]
rising_across (x ∷ xs) ys h p q here b = h.0 q (in_right q xs ys b)
rising_across (x ∷ xs) ys h p q (there a) b = rising_across xs ys h.1 p q a b

-- ---- the same number

pub differs : (a b : ℕ) → a < b → nat_eq a b ≡ false
differs a b h = elim (eqb_tells a b) [ inl t ↦ absurd (omega (arith, t.1, h)) | inr t ↦ t.0 ]

and_false : (b : Bool) → (b && false) ≡ false
and_false true = refl
and_false false = refl

not_same : (a b : Envelope) → Earlier a b → same_no a.no b.no ≡ false
not_same a b (inl h) = rw (differs _ _ h)
not_same a b (inr h) = rw (differs _ _ h.1) (and_false _)

same_self : (n : EntryNo) → same_no n n ≡ true
same_self n = rw (eq-eqb n.position n.position refl, eq-eqb n.place n.place refl)

or_true : (b : Bool) → (b || true) ≡ true
or_true true = refl
or_true false = refl

-- p's number is that of one of these
abbrev pub among : List Envelope → Envelope → Bool
among ps p = list_any (λ q. same_no q.no p.no) ps

among_self : (ps : List Envelope) (p : Envelope) → IsIn p ps → among ps p ≡ true
among_self [] p h = elim h [ ]
among_self (q ∷ ps) p here = ap (λ b. b || among ps p) (same_self p.no)
among_self (q ∷ ps) p (there h) = ap (λ b. same_no q.no p.no || b) (among_self ps p h) ∙ or_true _

among_none : (ps : List Envelope) (p : Envelope) → ((q : Envelope) → IsIn q ps → Earlier q p) → among ps p ≡ false
among_none [] p h = refl
among_none (q ∷ ps) p h = ap (λ b. b || among ps p) (not_same q p (h q here)) ∙ among_none ps p (λ r m. h r (there m))

none_left : (us vs : List Envelope) → ((p : Envelope) → IsIn p us → among vs p ≡ true) → filter (λ p. not (among vs p)) us ≡ []
none_left [] vs h = refl
none_left (u ∷ us) vs h = ap (λ b. cond (not b) (u ∷ filter (λ p. not (among vs p)) us) (filter (λ p. not (among vs p)) us)) (h u here) ∙ none_left us vs (λ p m. h p (there m))

all_left : (us vs : List Envelope) → ((p : Envelope) → IsIn p us → among vs p ≡ false) → filter (λ p. not (among vs p)) us ≡ us
all_left [] vs h = refl
all_left (u ∷ us) vs h = ap (λ b. cond (not b) (u ∷ filter (λ p. not (among vs p)) us) (filter (λ p. not (among vs p)) us)) (h u here) ∙ ap (λ r. u ∷ r) (all_left us vs (λ p m. h p (there m)))

-- of a rising list, what is not among its first part is its second part
pub second_part : (ys zs : List Envelope) → Rising (ys ++ zs) → filter (λ p. not (among ys p)) (ys ++ zs) ≡ zs
second_part ys zs h =
    filter-append _ ys zs
    ∙ ap (λ r. r ++ filter (λ p. not (among ys p)) zs) (none_left ys ys (among_self ys))
    ∙ all_left zs ys (λ p m. among_none ys p (λ q k. rising_across ys zs h q p k m))
