-- How an index follows the releases.
use Rattle.std.proofs.Common.{◌≡◌, ◌≢◌, ◌<◌, ◌^◌, Bool, true, false, cond, List, Option, Some, None, Ordering, refl, sym, ap, ◌∙◌, subst}
use Rattle.std.specs.Ordering.{is_eq}
use Rattle.std.specs.Option.{IsSome}
use Rattle.std.specs.Cmp.{IsTotalOrder, tied_itself}
use Rattle.kom_base.specs.declared.numbers.EntryNo.{EntryNo}
use Rattle.kom_index.specs.Entries.{Rises, value_of}
use Rattle.kom_env.specs.declared.agenda.Wait.{Wait}
use Rattle.kom_env.specs.Keys.{number_cmp}
use Rattle.kom_env.specs.Sound.{Holds, Indexes, IsBounded}
use Rattle.kom_env.proofs.Ties.{number_tied, number_self}

pub not_none : {X : Type 0} (g : Option X) → IsSome g → g ≡ None → ⊥
not_none None h e = cc
not_none (Some x) h e = cc

pub some_of : {X : Type 0} (g : Option X) → IsSome g → (x : X) × (g ≡ Some x)
some_of None h = absurd (cc)
some_of (Some x) h = (x, refl)

module _ {K : Type 0} (R : K → K → Ordering) (o : IsTotalOrder R) (tie : (a b : K) → is_eq (R a b) ≡ true → a ≡ b) (no : K → EntryNo) (key : EntryNo → Wait → K) (back : (n : EntryNo) (w : Wait) → no (key n w) ≡ n) where
  self_tied : (k : K) → is_eq (R k k) ≡ true
  self_tied k = ap is_eq (tied_itself o k)

  pub has_key_of : (ws : List (EntryNo × Wait)) (ks : List (K × Unit {0})) (n : EntryNo) (w : Wait) → Indexes R no key ws ks → value_of number_cmp n ws ≡ Some w → IsSome (value_of R (key n w) ks)
  has_key_of ws ks n w i e = i.complete (key n w) (record { wait = w; is = ap (λ m. value_of number_cmp m ws) (back n w) ∙ e; at = ap (λ m. key m w) (back n w) })

  pub absent_key : (ws : List (EntryNo × Wait)) (ks : List (K × Unit {0})) (n : EntryNo) (w : Wait) → Indexes R no key ws ks → value_of number_cmp n ws ≡ None → value_of R (key n w) ks ≡ None
  absent_key ws ks n w i none = go (value_of R (key n w) ks) refl
    where
      go : (g : Option (Unit {0})) → value_of R (key n w) ks ≡ g → value_of R (key n w) ks ≡ None
      go None e = e
      go (Some u) e = let h = i.holds (key n w) (subst IsSome (sym e) refl) in absurd (cc (none, h.is, ap (λ m. value_of number_cmp m ws) (back n w)))

  pub added : (ws ws' : List (EntryNo × Wait)) (ks ks' : List (K × Unit {0})) (n : EntryNo) (w : Wait) → Indexes R no key ws ks → value_of number_cmp n ws ≡ None
      → ((q : EntryNo) → value_of number_cmp q ws' ≡ cond (is_eq (number_cmp q n)) (Some w) (value_of number_cmp q ws))
      → ((q : K) → value_of R q ks' ≡ cond (is_eq (R q (key n w))) (Some tt) (value_of R q ks)) → Rises R ks' → Indexes R no key ws' ks'
  added ws ws' ks ks' n w i none vals keys rises = record { rises = rises; holds = holds; complete = complete }
    where
      new_value : value_of number_cmp n ws' ≡ Some w
      new_value = vals n ∙ ap (λ b. cond b (Some w) (value_of number_cmp n ws)) (number_self n)

      old_value : (q : EntryNo) → is_eq (number_cmp q n) ≡ false → value_of number_cmp q ws' ≡ value_of number_cmp q ws
      old_value q t = vals q ∙ ap (λ b. cond b (Some w) (value_of number_cmp q ws)) t

      holds : (k : K) → IsSome (value_of R k ks') → Holds no key ws' k
      holds k some = at (is_eq (R k (key n w))) refl
        where
          at : (b : Bool) → is_eq (R k (key n w)) ≡ b → Holds no key ws' k
          at true t =
              let same : k ≡ key n w = tie k (key n w) t in
              let number : no k ≡ n = ap no same ∙ back n w in
              record { wait = w; is = ap (λ m. value_of number_cmp m ws') number ∙ new_value; at = ap (λ m. key m w) number ∙ sym same }
          at false t =
              let h = i.holds k (subst IsSome (keys k ∙ ap (λ b. cond b (Some tt) (value_of R k ks)) t) some) in
              record { wait = h.wait; is = other (is_eq (number_cmp (no k) n)) refl h.is; at = h.at }
            where
              other : {v : Wait} (b : Bool) → is_eq (number_cmp (no k) n) ≡ b → value_of number_cmp (no k) ws ≡ Some v → value_of number_cmp (no k) ws' ≡ Some v
              other true s e = absurd (cc (none, e, ap (λ m. value_of number_cmp m ws) (number_tied (no k) n s)))
              other false s e = old_value (no k) s ∙ e

      complete : (k : K) → Holds no key ws' k → IsSome (value_of R k ks')
      complete k h = at (is_eq (number_cmp (no k) n)) refl
        where
          yes : (b : Bool) (g : Option (Unit {0})) → IsSome g → IsSome (cond b (Some tt) g)
          yes true g h = refl
          yes false g h = h

          at : (b : Bool) → is_eq (number_cmp (no k) n) ≡ b → IsSome (value_of R k ks')
          at true t =
              let number : no k ≡ n = number_tied (no k) n t in
              let wait : h.wait ≡ w = cc (h.is, ap (λ m. value_of number_cmp m ws') number, new_value) in
              let same : k ≡ key n w = sym h.at ∙ ap (λ m. key m h.wait) number ∙ ap (key n) wait in
              subst IsSome (sym (keys k ∙ ap (λ b. cond b (Some tt) (value_of R k ks)) (ap (λ q. is_eq (R q (key n w))) same ∙ self_tied (key n w)))) refl
          at false t = subst IsSome (sym (keys k)) (yes (is_eq (R k (key n w))) (value_of R k ks) (i.complete k (record { wait = h.wait; is = sym (old_value (no k) t) ∙ h.is; at = h.at })))

  pub dropped : (ws ws' : List (EntryNo × Wait)) (ks ks' : List (K × Unit {0})) (n : EntryNo) (w : Wait) → Indexes R no key ws ks → value_of number_cmp n ws ≡ Some w
      → ((q : EntryNo) → value_of number_cmp q ws' ≡ cond (is_eq (number_cmp q n)) None (value_of number_cmp q ws))
      → ((q : K) → value_of R q ks' ≡ cond (is_eq (R q (key n w))) None (value_of R q ks)) → Rises R ks' → Indexes R no key ws' ks'
  dropped ws ws' ks ks' n w i there vals keys rises = record { rises = rises; holds = holds; complete = complete }
    where
      holds : (k : K) → IsSome (value_of R k ks') → Holds no key ws' k
      holds k some = at (is_eq (R k (key n w))) refl
        where
          at : (b : Bool) → is_eq (R k (key n w)) ≡ b → Holds no key ws' k
          at true t = absurd (not_none _ some (keys k ∙ ap (λ b. cond b None (value_of R k ks)) t))
          at false t =
              let h = i.holds k (subst IsSome (keys k ∙ ap (λ b. cond b None (value_of R k ks)) t) some) in
              record { wait = h.wait; is = other (is_eq (number_cmp (no k) n)) refl h; at = h.at }
            where
              other : (b : Bool) → is_eq (number_cmp (no k) n) ≡ b → (h : Holds no key ws k) → value_of number_cmp (no k) ws' ≡ Some h.wait
              other true s h =
                  let number : no k ≡ n = number_tied (no k) n s in
                  let wait : h.wait ≡ w = cc (h.is, ap (λ m. value_of number_cmp m ws) number, there) in
                  let same : k ≡ key n w = sym h.at ∙ ap (λ m. key m h.wait) number ∙ ap (key n) wait in
                  absurd (cc (t, ap (λ q. is_eq (R q (key n w))) same ∙ self_tied (key n w)))
              other false s h = vals (no k) ∙ ap (λ b. cond b None (value_of number_cmp (no k) ws)) s ∙ h.is

      complete : (k : K) → Holds no key ws' k → IsSome (value_of R k ks')
      complete k h = at (is_eq (number_cmp (no k) n)) refl
        where
          at : (b : Bool) → is_eq (number_cmp (no k) n) ≡ b → IsSome (value_of R k ks')
          at true t = absurd (cc (h.is, vals (no k) ∙ ap (λ b. cond b None (value_of number_cmp (no k) ws)) t))
          at false t =
              let old = i.complete k (record { wait = h.wait; is = sym (vals (no k) ∙ ap (λ b. cond b None (value_of number_cmp (no k) ws)) t) ∙ h.is; at = h.at }) in
              other (is_eq (R k (key n w))) refl old
            where
              other : (b : Bool) → is_eq (R k (key n w)) ≡ b → IsSome (value_of R k ks) → IsSome (value_of R k ks')
              other true s old = absurd (cc (t, ap (λ m. is_eq (number_cmp m n)) (ap no (tie k (key n w) s) ∙ back n w) ∙ number_self n))
              other false s old = subst IsSome (sym (keys k ∙ ap (λ b. cond b None (value_of R k ks)) s)) old

pub bounded_more : (ws ws' : List (EntryNo × Wait)) (n : EntryNo) (w : Wait) → IsBounded ws → ((q : EntryNo) → value_of number_cmp q ws' ≡ cond (is_eq (number_cmp q n)) (Some w) (value_of number_cmp q ws)) → (n.position < 2 ^ 32) × (n.place < 2 ^ 32) → IsBounded ws'
bounded_more ws ws' n w old vals small q some = at (is_eq (number_cmp q n)) refl
  where
    at : (b : Bool) → is_eq (number_cmp q n) ≡ b → (q.position < 2 ^ 32) × (q.place < 2 ^ 32)
    at true t = let same : n ≡ q = sym (number_tied q n t) in subst (λ (m : EntryNo). (m.position < 2 ^ 32) × (m.place < 2 ^ 32)) same small
    at false t = old q (subst IsSome (vals q ∙ ap (λ b. cond b (Some w) (value_of number_cmp q ws)) t) some)

pub bounded_less : (ws ws' : List (EntryNo × Wait)) (n : EntryNo) → IsBounded ws → ((q : EntryNo) → value_of number_cmp q ws' ≡ cond (is_eq (number_cmp q n)) None (value_of number_cmp q ws)) → IsBounded ws'
bounded_less ws ws' n old vals q some = at (is_eq (number_cmp q n)) refl
  where
    at : (b : Bool) → is_eq (number_cmp q n) ≡ b → (q.position < 2 ^ 32) × (q.place < 2 ^ 32)
    at true t = absurd (not_none _ some (vals q ∙ ap (λ b. cond b None (value_of number_cmp q ws)) t))
    at false t = old q (subst IsSome (vals q ∙ ap (λ b. cond b None (value_of number_cmp q ws)) t) some)
