-- What the index by time lists.
use Rattle.std.proofs.Common.{◌≡◌, ◌≢◌, ℕ, zero, suc, take, append_assoc, get_or, ◌+◌, ◌<◌, ◌≤◌, ◌^◌, Bool, true, false, cond, not, ◌&&◌, eqb, List, [], ◌∷◌, ◌++◌, map, length, Option, Some, None, Ordering, ◌⊎◌, ⊎_elim, refl, sym, ap, ◌∙◌, subst, arith}
use Rattle.std.specs.List.{filter}
use Rattle.std.specs.Ordering.{nat_cmp, is_lt, is_eq, ordering_then, ordering_reverse}
use Rattle.std.specs.Option.{IsSome, option_and_then}
use Rattle.std.specs.declared.cmp.Ordering.TheVariants.{Less, Equal, Greater}
use Rattle.std.specs.Cmp.{nat_cmp_total, tied_itself, ranked, nat_cmp_is}
use Rattle.std.proofs.lemmas.Bool.{eq-eqb, eqb-true, ne_eqb, cases_lt}
use Rattle.kom_base.specs.declared.numbers.EntryNo.{EntryNo}
use Rattle.kom_index.specs.Entries.{AllKeys, Rises, has_key, value_of, between, is_between}
use Rattle.kom_env.specs.declared.agenda.Wait.{Wait}
use Rattle.kom_env.specs.declared.keys.Due.{Due}
use Rattle.kom_env.specs.Keys.{number_cmp, number_total, due_cmp, due_total}
use Rattle.kom_env.specs.Waiting.{is_due, due_key, IsOneOf}
use Rattle.kom_env.specs.Sound.{Indexes, Holds, due_no}
use Rattle.kom_env.proofs.Ties.{number_tied, due_tied, same_nat, both_equal}
use Rattle.kom_env.proofs.Rising.{Each, filter_all, filter_same, each_entry, value_filter, rises_filter, same_entries}
use Rattle.kom_env.proofs.Indexing.{some_of, not_none}

-- the keys of a time
abbrev pub at_time : ℕ → Due × Unit {0} → Bool
at_time t e = eqb e.0.time t

abbrev pub numbered : Due × Unit {0} → EntryNo × Unit {0}
numbered e = (e.0.no, tt)

-- the numbers of a time rise
pub numbers_rise : (t : ℕ) (ks : List (Due × Unit {0})) → Rises due_cmp ks → Rises number_cmp (map numbered (filter (at_time t) ks))
numbers_rise t [] r = tt
numbers_rise t (e ∷ ks) r = at (at_time t e) refl (numbers_rise t ks r.1)
  where
    below : (ks : List (Due × Unit {0})) → e.0.time ≡ t → AllKeys (λ y. due_cmp e.0 y ≡ Less) ks → AllKeys (λ y. number_cmp e.0.no y ≡ Less) (map numbered (filter (at_time t) ks))
    below [] here h = tt
    below (f ∷ fs) here h = go (at_time t f) refl (below fs here h.1)
      where
        go : (b : Bool) → at_time t f ≡ b → AllKeys (λ y. number_cmp e.0.no y ≡ Less) (map numbered (filter (at_time t) fs)) → AllKeys (λ y. number_cmp e.0.no y ≡ Less) (map numbered (filter (at_time t) (f ∷ fs)))
        go false s rest = subst (λ b. AllKeys (λ y. number_cmp e.0.no y ≡ Less) (map numbered (cond b (f ∷ filter (at_time t) fs) (filter (at_time t) fs)))) (sym s) rest
        go true s rest =
            let same : e.0.time ≡ f.0.time = here ∙ sym (eqb-true f.0.time t s) in
            let less : number_cmp e.0.no f.0.no ≡ Less = sym (ap (λ c. ordering_then c (number_cmp e.0.no f.0.no)) (ap (nat_cmp e.0.time) (sym same) ∙ tied_itself nat_cmp_total e.0.time)) ∙ h.0 in
            subst (λ b. AllKeys (λ y. number_cmp e.0.no y ≡ Less) (map numbered (cond b (f ∷ filter (at_time t) fs) (filter (at_time t) fs)))) (sym s) (less, rest)

    at : (b : Bool) → at_time t e ≡ b → Rises number_cmp (map numbered (filter (at_time t) ks)) → Rises number_cmp (map numbered (filter (at_time t) (e ∷ ks)))
    at true s rest = subst (λ b. Rises number_cmp (map numbered (cond b (e ∷ filter (at_time t) ks) (filter (at_time t) ks)))) (sym s) (below ks (eqb-true e.0.time t s) r.0, rest)
    at false s rest = subst (λ b. Rises number_cmp (map numbered (cond b (e ∷ filter (at_time t) ks) (filter (at_time t) ks)))) (sym s) rest

abbrev pub due_at : ℕ → EntryNo → Due
due_at t q = record { time = t; no = q }

-- a number is among those of a time where the index has it at that time
pub numbers_have : (t : ℕ) (ks : List (Due × Unit {0})) (q : EntryNo) → value_of number_cmp q (map numbered (filter (at_time t) ks)) ≡ value_of due_cmp (record { time = t; no = q }) ks
numbers_have t [] q = refl
numbers_have t (e ∷ ks) q = at (at_time t e) refl (numbers_have t ks q)
  where
    at : (b : Bool) → at_time t e ≡ b → value_of number_cmp q (map numbered (filter (at_time t) ks)) ≡ value_of due_cmp (due_at t q) ks
        → value_of number_cmp q (map numbered (filter (at_time t) (e ∷ ks))) ≡ value_of due_cmp (due_at t q) (e ∷ ks)
    at true s rest =
        let same : t ≡ e.0.time = sym (eqb-true e.0.time t s) in
        ap (λ b. value_of number_cmp q (map numbered (cond b (e ∷ filter (at_time t) ks) (filter (at_time t) ks)))) s
        ∙ ap (λ g. cond (is_eq (number_cmp q e.0.no)) (Some tt) g) rest
        ∙ sym (ap (λ c. cond (is_eq (ordering_then c (number_cmp q e.0.no))) (Some e.1) (value_of due_cmp (due_at t q) ks)) (ap (nat_cmp t) (sym same) ∙ tied_itself nat_cmp_total t))
    at false s rest =
        ap (λ b. value_of number_cmp q (map numbered (cond b (e ∷ filter (at_time t) ks) (filter (at_time t) ks)))) s ∙ rest
        ∙ sym (ap (λ b. cond b (Some e.1) (value_of due_cmp (due_at t q) ks)) (never (is_eq (due_cmp (due_at t q) e.0)) refl))
      where
        never : (b : Bool) → is_eq (due_cmp (due_at t q) e.0) ≡ b → is_eq (due_cmp (due_at t q) e.0) ≡ false
        never false n = n
        never true n = absurd (cc (s, eq-eqb e.0.time t (sym (ap (λ (d : Due). d.time) (due_tied (due_at t q) e.0 n)))))

abbrev pub bare : EntryNo × Wait → EntryNo × Unit {0}
bare e = (e.0, tt)

pub bare_rises : (es : List (EntryNo × Wait)) → Rises number_cmp es → Rises number_cmp (map bare es)
bare_rises [] r = tt
bare_rises (e ∷ es) r = (all es r.0, bare_rises es r.1)
  where
    all : (fs : List (EntryNo × Wait)) → AllKeys (λ y. number_cmp e.0 y ≡ Less) fs → AllKeys (λ y. number_cmp e.0 y ≡ Less) (map bare fs)
    all [] h = tt
    all (f ∷ fs) h = (h.0, all fs h.1)

pub bare_value : (es : List (EntryNo × Wait)) (q : EntryNo) → value_of number_cmp q (map bare es) ≡ option_and_then (λ w. Some (tt {0})) (value_of number_cmp q es)
bare_value [] q = refl
bare_value (e ∷ es) q = ap (cond (is_eq (number_cmp q e.0)) (Some (tt {0}))) (bare_value es q) ∙ elim (is_eq (number_cmp q e.0)) as (λ b. cond b (Some (tt {0})) (option_and_then (λ w. Some (tt {0})) (value_of number_cmp q es)) ≡ option_and_then (λ w. Some (tt {0})) (cond b (Some e.1) (value_of number_cmp q es))) [ true ↦ refl | false ↦ refl ]

filled : (g : Option (Unit {0})) → IsSome g → g ≡ Some tt
filled None h = absurd (cc)
filled (Some u) h = refl

none_or : (g : Option (Unit {0})) → (IsSome g → ⊥) → g ≡ None
none_or None h = refl
none_or (Some u) h = absurd (h refl)

module _ (ws : List (EntryNo × Wait)) (ks : List (Due × Unit {0})) (rises : Rises number_cmp ws) (index : Indexes due_cmp due_no due_key ws ks) (t : ℕ) where
  -- the numbers that the index has at a time are those of the releases that are due then
  pub same_numbers : map numbered (filter (at_time t) ks) ≡ map bare (filter (is_due t) ws)
  same_numbers = same_entries number_cmp number_total number_tied _ _ (numbers_rise t ks index.rises) (bare_rises _ (rises_filter number_cmp number_total number_tied (is_due t) ws rises))
      (λ q. numbers_have t ks q ∙ at q (value_of number_cmp q ws) refl
      ∙ sym (bare_value (filter (is_due t) ws) q ∙ ap (option_and_then (λ w. Some tt)) (value_filter number_cmp number_total number_tied (is_due t) ws rises q)))
    where
      at : (q : EntryNo) (g : Option Wait) → value_of number_cmp q ws ≡ g → value_of due_cmp (record { time = t; no = q }) ks ≡ option_and_then (λ w. Some tt) (option_and_then (λ (w : Wait). cond (eqb w.due t) (Some w) None) (value_of number_cmp q ws))
      at q None e = none_or _ (λ some. cc (e, (index.holds (record { time = t; no = q }) some).is)) ∙ sym (ap (λ g. option_and_then (λ w. Some tt) (option_and_then (λ (w : Wait). cond (eqb w.due t) (Some w) None) g)) e)
      at q (Some w) e = go (eqb w.due t) refl
        where
          go : (b : Bool) → eqb w.due t ≡ b → value_of due_cmp (record { time = t; no = q }) ks ≡ option_and_then (λ w. Some tt) (option_and_then (λ (w : Wait). cond (eqb w.due t) (Some w) None) (value_of number_cmp q ws))
          go true s = filled _ (index.complete (record { time = t; no = q }) (record { wait = w; is = e; at = λ i. record { time = eqb-true w.due t s i; no = q } }))
              ∙ sym (ap (λ g. option_and_then (λ w. Some tt) (option_and_then (λ (w : Wait). cond (eqb w.due t) (Some w) None) g)) e ∙ ap (λ b. option_and_then (λ w. Some tt) (cond b (Some w) None)) s)
          go false s = none_or _ (λ some.
              let h = index.holds (record { time = t; no = q }) some in
              let wait : h.wait ≡ w = cc (h.is, e) in
              cc (s, eq-eqb w.due t (ap (λ (x : Wait). x.due) (sym wait) ∙ ap (λ (d : Due). d.time) h.at)))
              ∙ sym (ap (λ g. option_and_then (λ w. Some tt) (option_and_then (λ (w : Wait). cond (eqb w.due t) (Some w) None) g)) e ∙ ap (λ b. option_and_then (λ w. Some tt) (cond b (Some w) None)) s)

pub length_map : {A B : Type 0} (f : A → B) (xs : List A) → length (map f xs) ≡ length xs
length_map f [] = refl
length_map f (x ∷ xs) = ap suc (length_map f xs)

-- a filter that drops none
pub none_dropped : (p : EntryNo × Wait → Bool) (es : List (EntryNo × Wait)) → Rises number_cmp es → IsOneOf p es None → filter (λ e. not (p e)) es ≡ es
none_dropped p es r none = filter_all (λ e. not (p e)) es (each_entry number_cmp number_total number_tied (λ e. not (p e) ≡ true) es r (λ n w is. ap not (none n w is)))

map_snoc : {A B : Type 0} (f : A → B) (l : List A) (x : A) → map f (l ++ x ∷ []) ≡ map f l ++ f x ∷ []
map_snoc f [] x = refl
map_snoc f (y ∷ l) x = ap (λ m. f y ∷ m) (map_snoc f l x)

-- one more of what was listed
pub one_more : {A B : Type 0} (f : A → B) (front : List B) (xs : List A) (i : ℕ) (x : A) (out new : List B) → out ≡ front ++ map f (take i xs) → take (i + 1) xs ≡ take i xs ++ x ∷ [] → new ≡ out ++ f x ∷ [] → new ≡ front ++ map f (take (i + 1) xs)
one_more f front xs i x out new was more is =
    is ∙ ap (λ l. l ++ f x ∷ []) was ∙ append_assoc front (map f (take i xs)) (f x ∷ []) ∙ ap (λ l. front ++ l) (sym (map_snoc f (take i xs) x)) ∙ ap (λ l. front ++ map f l) (sym more)
