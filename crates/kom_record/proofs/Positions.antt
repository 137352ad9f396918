-- Positions: in the list of entries, the oldest first, and in the history.
use Rattle.std.proofs.Common.{◌≡◌, ℕ, suc, zero, ◌<◌, ◌≤◌, true, false, cond, nat_eq, refl, sym, ap, ◌∙◌, List, [], ◌∷◌, ◌++◌, length, reverse, Some, None, inl, inr, arith, eq-eqb}
use Rattle.std.specs.Prelude.{slice_get}
use Rattle.std.proofs.lemmas.Bool.Decides.{eqb_tells}
use Rattle.std.proofs.lemmas.List.{reverse-append, length-reverse}
use Rattle.kom_record.specs.declared.entry.Entry.{Entry}
use Rattle.kom_record.specs.Entries.{History, entry_at, before}

pub not_equal : (a b : ℕ) → (a ≡ b → ⊥) → nat_eq a b ≡ false
not_equal a b h = elim (eqb_tells a b) [ inl t ↦ absurd (h t.1) | inr t ↦ t.0 ]

pub equal_self : (n : ℕ) → nat_eq n n ≡ true
equal_self n = elim (eqb_tells n n) [ inl t ↦ t.0 | inr t ↦ absurd (t.1 refl) ]

same_suc : (a b : ℕ) → nat_eq (suc a) (suc b) ≡ nat_eq a b
same_suc a b = elim (eqb_tells a b) [ inl t ↦ ap (λ n. nat_eq (suc a) (suc n)) (sym t.1) ∙ equal_self (suc a) ∙ sym t.0 | inr t ↦ not_equal _ _ (λ e. t.1 (omega (arith, e))) ∙ sym t.0 ]

-- of a list with one more at its end
get_more : (xs : List Entry) (e : Entry) (i : ℕ) → slice_get (xs ++ e ∷ []) i ≡ cond (nat_eq (length xs) i) (Some e) (slice_get xs i)
get_more [] e zero = refl
get_more [] e (suc i) = rw (not_equal 0 (suc i) (omega arith))
get_more (x ∷ xs) e zero = rw (not_equal (suc (length xs)) 0 (omega arith))
get_more (x ∷ xs) e (suc i) = rw (same_suc (length xs) i) (get_more xs e i)

pub entry_at-reverse : (P : History) (i : ℕ) → slice_get (reverse P) i ≡ entry_at P i
unfolding entry_at
entry_at-reverse [] i = refl
entry_at-reverse (e ∷ P) i =
    ap (λ xs. slice_get xs i) (reverse-append (e ∷ []) P)
    ∙ get_more (reverse P) e i
    ∙ ap (λ n. cond (nat_eq n i) (Some e) (slice_get (reverse P) i)) (length-reverse P)
    ∙ ap (λ o. cond (nat_eq (length P) i) (Some e) o) (entry_at-reverse P i)

-- no entry stands at the length or after it
pub entry_at_past : (P : History) (i : ℕ) → length P ≤ i → entry_at P i ≡ None
unfolding entry_at
entry_at_past [] i h = refl
entry_at_past (e ∷ P) i h = rw (not_equal (length P) i (omega arith)) (entry_at_past P i (omega arith))

-- one entry more, at a position below its own
entry_at-below : (e : Entry) (P : History) (j : ℕ) → j < length P → entry_at (e ∷ P) j ≡ entry_at P j
unfolding entry_at
entry_at-below e P j h = rw (not_equal (length P) j (omega arith))

before-below : (e : Entry) (P : History) (i : ℕ) → i < length P → before (e ∷ P) i ≡ before P i
unfolding before
before-below e P i h = rw (not_equal (length P) i (omega arith))

before-last : (e : Entry) (P : History) (i : ℕ) → length P ≡ i → before (e ∷ P) i ≡ P
unfolding before
before-last e P i h = rw (eq-eqb (length P) i h)

-- an earlier entry of the record before a position is that of the record
pub entry_at_before : (P : History) (i j : ℕ) → i < length P → j < i → entry_at (before P i) j ≡ entry_at P j
entry_at_before [] i j h k = absurd (omega (arith, h))
entry_at_before (e ∷ P) i j h k =
    elim (eqb_tells (length P) i) [
      | inl t ↦ ap (λ Q. entry_at Q j) (before-last e P i t.1) ∙ sym (entry_at-below e P j (omega (arith, t.1)))
      | inr t ↦
          let l : i < length P = omega (arith, t.1) in
          ap (λ Q. entry_at Q j) (before-below e P i l) ∙ entry_at_before P i j l k ∙ sym (entry_at-below e P j (omega arith))
    ]

-- and it has none at the position or after it
pub entry_at_before_past : (P : History) (i j : ℕ) → i < length P → i ≤ j → entry_at (before P i) j ≡ None
entry_at_before_past [] i j h k = absurd (omega (arith, h))
entry_at_before_past (e ∷ P) i j h k =
    elim (eqb_tells (length P) i) [
      | inl t ↦ ap (λ Q. entry_at Q j) (before-last e P i t.1) ∙ entry_at_past P j (omega (arith, t.1))
      | inr t ↦ let l : i < length P = omega (arith, t.1) in ap (λ Q. entry_at Q j) (before-below e P i l) ∙ entry_at_before_past P i j l k
    ]
