-- The numbers of a set, and how many there can be.
use Rattle.std.proofs.Common.{◌≡◌, ℕ, suc, ◌+◌, ◌<◌, ◌≤◌, Bool, true, false, cond, eqb, ◌||◌, List, [], ◌∷◌, Option, Some, None, length, refl, sym, ap, ◌∙◌, subst, arith, ◌≢◌, ◌⊎◌, inl, inr, Ordering, Bor}
use Rattle.std.specs.Prelude.{IfSome}
use Rattle.std.specs.Option.{IsSome, is_some, option_copied}
use Rattle.std.specs.Ordering.{nat_cmp, is_eq, is_lt}
use Rattle.std.specs.declared.cmp.Ordering.TheVariants.{Less, Equal, Greater}
use Rattle.std.specs.Cmp.{unsigned_tied}
use Rattle.std.proofs.lemmas.Cmp.{ranked}
use Rattle.std.proofs.lemmas.Bool.{eqb-true, eq-eqb, lt-ltb, cases_lt}
use Rattle.kom_base.specs.Lists.{holds_number}
use Rattle.kom_index.specs.Entries.{AllKeys, Rises, value_of, IsFirstFrom, inserted}
use Rattle.kom_comps.specs.Members.{Members, has, IsLeast}
use Rattle.kom_comps.specs.Sound.{keys, IsSound}

less : (a b : ℕ) → nat_cmp a b ≡ Less → a < b
less a b e = ranked a b Less (sym e)

lt_of : (o : Ordering) → is_lt o ≡ true → o ≡ Less
lt_of Less h = refl
lt_of Equal h = absurd (cc)
lt_of Greater h = absurd (cc)

less_of : (a b : ℕ) → is_lt (nat_cmp a b) ≡ true → a < b
less_of a b e = less a b (lt_of _ e)

-- an equality is tested either way round
turned : (a b : ℕ) → eqb a b ≡ eqb b a
turned a b = go (eqb a b) (eqb b a) refl refl
  where
    go : (s t : Bool) → eqb a b ≡ s → eqb b a ≡ t → eqb a b ≡ eqb b a
    go true t e f = e ∙ sym (eq-eqb b a (sym (eqb-true a b e)))
    go false true e f = eq-eqb a b (sym (eqb-true b a f)) ∙ sym f
    go false false e f = e ∙ sym f

pub same_test : (c x : ℕ) → is_eq (nat_cmp c x) ≡ eqb x c
same_test c x = unsigned_tied c x ∙ turned c x

-- a number is held where it has an entry
pub held_is : (c : ℕ) (es : List (ℕ × Unit {0})) → holds_number (keys es) c ≡ is_some (value_of nat_cmp c es)
held_is c [] = refl
held_is c (e ∷ es) = go (held_is c es) (eqb e.0 c) refl
  where
    go : holds_number (keys es) c ≡ is_some (value_of nat_cmp c es) → (t : Bool) → eqb e.0 c ≡ t → holds_number (keys (e ∷ es)) c ≡ is_some (value_of nat_cmp c (e ∷ es))
    go rest true t = ap (λ b. b || holds_number (keys es) c) t ∙ sym (ap (λ b. is_some (cond b (Some e.1) (value_of nat_cmp c es))) (same_test c e.0 ∙ t))
    go rest false t = ap (λ b. b || holds_number (keys es) c) t ∙ rest ∙ sym (ap (λ b. is_some (cond b (Some e.1) (value_of nat_cmp c es))) (same_test c e.0 ∙ t))

pub has_is : (es : List (ℕ × Unit {0})) (bound c : ℕ) → has (record { list = keys es; bound = bound }) c ≡ is_some (value_of nat_cmp c es)
unfolding has
has_is es bound c = held_is c es

pub has_in : (es : List (ℕ × Unit {0})) (bound c : ℕ) (v : Members) → record { list = keys es; bound = bound } ≡ v → has v c ≡ is_some (value_of nat_cmp c es)
has_in es bound c v is = ap (λ m. has m c) (sym is) ∙ has_is es bound c

pub some_copied : {A : Type 0} (o : Option (Bor A)) → is_some o ≡ is_some (option_copied o)
some_copied None = refl
some_copied (Some x) = refl

pub some_is : {A : Type 0} (o : Option A) → is_some o ≡ true → IsSome o
some_is None h = absurd (cc)
some_is (Some x) h = refl

pub is_some_of : {A : Type 0} (o : Option A) → IsSome o → is_some o ≡ true
is_some_of None h = absurd (cc)
is_some_of (Some x) h = refl

pub none_of : {A : Type 0} (o : Option A) → is_some o ≡ false → o ≡ None
none_of None h = refl
none_of (Some x) h = absurd (cc)

pub not_none : {A : Type 0} (o : Option A) → IsSome o → o ≡ None → ⊥
not_none None h e = cc
not_none (Some x) h e = cc

same_or : (a b : ℕ) → (a ≡ b) ⊎ (a ≢ b)
same_or a b = go (eqb a b) refl
  where
    go : (t : Bool) → eqb a b ≡ t → (a ≡ b) ⊎ (a ≢ b)
    go true e = inl (eqb-true a b e)
    go false e = inr (λ s. cc (e, eq-eqb a b s))

-- nothing is below 0
pub not_below : (c : ℕ) → is_lt (nat_cmp c 0) ≡ false
not_below c = go (is_lt (nat_cmp c 0)) refl
  where
    go : (t : Bool) → is_lt (nat_cmp c 0) ≡ t → is_lt (nat_cmp c 0) ≡ false
    go true t = absurd (let h : c < 0 = less_of c 0 t in omega arith)
    go false t = t

at_least : (c d : ℕ) → is_lt (nat_cmp d c) ≡ false → c ≤ d
at_least c d e = go (cases_lt d c)
  where
    go : (d < c) ⊎ (c ≤ d) → c ≤ d
    go (inl h) = absurd (cc (e, ap (λ b. is_lt (cond b Less (cond (eqb d c) Equal Greater))) (lt-ltb d c h)))
    go (inr h) = h

-- ---- how many numbers there are below a bound

raised : (low low' bound : ℕ) (es : List (ℕ × Unit {0})) → AllKeys (λ y. nat_cmp low y ≡ Less) es → low' ≡ suc low → AllKeys (λ y. y < bound) es → AllKeys (λ y. (low' ≤ y) × (y < bound)) es
raised low low' bound [] up s b = tt
raised low low' bound (e ∷ es) up s b = ((let h : low < e.0 = less low e.0 up.0 in omega arith, b.0), raised low low' bound es up.1 s b.1)

below_all : (low bound : ℕ) (es : List (ℕ × Unit {0})) → AllKeys (λ y. (low ≤ y) × (y < bound)) es → AllKeys (λ y. y < bound) es
below_all low bound [] h = tt
below_all low bound (e ∷ es) h = (h.0.1, below_all low bound es h.1)

few : (low bound : ℕ) (es : List (ℕ × Unit {0})) → low ≤ bound → Rises nat_cmp es → AllKeys (λ y. (low ≤ y) × (y < bound)) es → length es + low ≤ bound
few low bound [] le r h = omega arith
few low bound (e ∷ es) le r h =
    let a = few (suc e.0) bound es (let b : e.0 < bound = h.0.1 in omega arith) r.1 (raised e.0 (suc e.0) bound es r.0 refl (below_all low bound es h.1)) in
    let c : low ≤ e.0 = h.0.0 in
    omega (arith, a)

-- one of them is missing
fewer : (low bound c : ℕ) (es : List (ℕ × Unit {0})) → low ≤ c → c < bound → value_of nat_cmp c es ≡ None → Rises nat_cmp es → AllKeys (λ y. (low ≤ y) × (y < bound)) es → length es + low < bound
fewer low bound c [] le lt none r h = omega arith
fewer low bound c (e ∷ es) le lt none r h = go (λ f none. fewer (suc e.0) bound c es f lt none r.1 (raised e.0 (suc e.0) bound es r.0 refl (below_all low bound es h.1))) (cases_lt e.0 c)
  where
    other : is_eq (nat_cmp c e.0) ≡ false
    other = apart (is_eq (nat_cmp c e.0)) refl
      where
        apart : (t : Bool) → is_eq (nat_cmp c e.0) ≡ t → is_eq (nat_cmp c e.0) ≡ false
        apart true t = absurd (cc (none, ap (λ b. cond b (Some e.1) (value_of nat_cmp c es)) t))
        apart false t = t

    later : value_of nat_cmp c es ≡ None
    later = sym (ap (λ b. cond b (Some e.1) (value_of nat_cmp c es)) other) ∙ none

    not_same : e.0 ≡ c → ⊥
    not_same s = cc (other, same_test c e.0, eq-eqb e.0 c s)

    go : (suc e.0 ≤ c → value_of nat_cmp c es ≡ None → length es + suc e.0 < bound) → (e.0 < c) ⊎ (c ≤ e.0) → suc (length es) + low < bound
    go rest (inl before) =
        let a = rest (omega arith) later in
        let b : low ≤ e.0 = h.0.0 in
        omega (arith, a)
    go rest (inr after) =
        let a = few (suc e.0) bound es (let b : e.0 < bound = h.0.1 in omega arith) r.1 (raised e.0 (suc e.0) bound es r.0 refl (below_all low bound es h.1)) in
        strict (same_or e.0 c) a
      where
        strict : (e.0 ≡ c) ⊎ (e.0 ≢ c) → length es + suc e.0 ≤ bound → suc (length es) + low < bound
        strict (inl s) a = absurd (not_same s)
        strict (inr n) a = omega (arith, a, n)

each_below : (bound : ℕ) (es : List (ℕ × Unit {0})) → ((c : ℕ) → IsSome (value_of nat_cmp c es) → c < bound) → AllKeys (λ y. (0 ≤ y) × (y < bound)) es
each_below bound [] h = tt
each_below bound (e ∷ es) h = ((omega arith, h e.0 head), each_below bound es (λ c some. h c (deeper c some)))
  where
    head : IsSome (value_of nat_cmp e.0 (e ∷ es))
    head = subst IsSome (sym (ap (λ b. cond b (Some e.1) (value_of nat_cmp e.0 es)) (same_test e.0 e.0 ∙ eq-eqb e.0 e.0 refl))) refl

    deeper : (c : ℕ) → IsSome (value_of nat_cmp c es) → IsSome (value_of nat_cmp c (e ∷ es))
    deeper c some = elim (is_eq (nat_cmp c e.0)) as (λ b. IsSome (cond b (Some e.1) (value_of nat_cmp c es))) [ true ↦ refl | false ↦ some ]

-- there is room for a number that is missing
pub has_room : (es : List (ℕ × Unit {0})) (spare count bound c : ℕ) → IsSound es spare count bound → c < bound → value_of nat_cmp c es ≡ None → (0 < spare) × (count < bound)
has_room es spare count bound c s lt none =
    let a = fewer 0 bound c es (omega arith) lt none s.rises (each_below bound es s.within) in
    (omega (arith, a, s.fits), omega (arith, a, s.counted))

-- ---- one number more, or less

-- the values after a change at c
abbrev pub Sets : List (ℕ × Unit {0}) → List (ℕ × Unit {0}) → ℕ → Option (Unit {0}) → Type 0
Sets old new c v = (q : ℕ) → value_of nat_cmp q new ≡ cond (is_eq (nat_cmp q c)) v (value_of nat_cmp q old)

pub within_more : (old new : List (ℕ × Unit {0})) (bound c : ℕ) → c < bound → Sets old new c (Some tt) → ((q : ℕ) → IsSome (value_of nat_cmp q old) → q < bound) → (q : ℕ) → IsSome (value_of nat_cmp q new) → q < bound
within_more old new bound c lt vals was q some = go (is_eq (nat_cmp q c)) refl
  where
    go : (t : Bool) → is_eq (nat_cmp q c) ≡ t → q < bound
    go true t = let e : c ≡ q = eqb-true c q (sym (same_test q c) ∙ t) in omega (arith, e, lt)
    go false t = was q (subst IsSome (vals q ∙ ap (λ b. cond b (Some tt) (value_of nat_cmp q old)) t) some)

pub within_less : (old new : List (ℕ × Unit {0})) (bound c : ℕ) → Sets old new c None → ((q : ℕ) → IsSome (value_of nat_cmp q old) → q < bound) → (q : ℕ) → IsSome (value_of nat_cmp q new) → q < bound
within_less old new bound c vals was q some = go (is_eq (nat_cmp q c)) refl
  where
    go : (t : Bool) → is_eq (nat_cmp q c) ≡ t → q < bound
    go true t = absurd (not_none _ some (vals q ∙ ap (λ b. cond b None (value_of nat_cmp q old)) t))
    go false t = was q (subst IsSome (vals q ∙ ap (λ b. cond b None (value_of nat_cmp q old)) t) some)

pub changed : (old new : List (ℕ × Unit {0})) (bound c : ℕ) (v : Option (Unit {0})) (m : Members) → record { list = keys old; bound = bound } ≡ m → Sets old new c v → (q : ℕ)
    → has (record { list = keys new; bound = bound }) q ≡ cond (eqb q c) (is_some v) (has m q)
changed old new bound c v m is vals q =
    has_is new bound q ∙ ap is_some (vals q) ∙ over (is_eq (nat_cmp q c))
    ∙ ap (λ b. cond b (is_some v) (is_some (value_of nat_cmp q old))) (unsigned_tied q c) ∙ ap (cond (eqb q c) (is_some v)) (sym (has_in old bound q m is))
  where
    over : (t : Bool) → is_some (cond t v (value_of nat_cmp q old)) ≡ cond t (is_some v) (is_some (value_of nat_cmp q old))
    over true = refl
    over false = refl

-- ---- the least

pub is_least : (es : List (ℕ × Unit {0})) (bound : ℕ) (c : Option ℕ) → IsFirstFrom nat_cmp 0 es c → IsLeast (record { list = keys es; bound = bound }) c
is_least es bound None h = λ c. none c (is_some (value_of nat_cmp c es)) refl
  where
    none : (c : ℕ) (t : Bool) → is_some (value_of nat_cmp c es) ≡ t → has (record { list = keys es; bound = bound }) c ≡ false
    none c true t = absurd (cc (h c (some_is _ t), not_below c))
    none c false t = has_is es bound c ∙ t
is_least es bound (Some c) h =
    (has_is es bound c ∙ is_some_of _ h.0, λ d t. at_least c d (h.2 d (some_is _ (sym (has_is es bound d) ∙ t)) (not_below d)))

pub inserted_long : (c : ℕ) (es : List (ℕ × Unit {0})) → length (inserted nat_cmp c tt es) ≡ length es + 1
inserted_long c [] = refl
inserted_long c (e ∷ es) = elim (is_lt (nat_cmp c e.0)) as (λ b. length (cond b ((c, tt) ∷ e ∷ es) (e ∷ inserted nat_cmp c tt es)) ≡ suc (length es) + 1) [
  | true ↦ omega arith
  | false ↦ omega (arith, inserted_long c es)
]

pub long_keys : (es : List (ℕ × Unit {0})) → length (keys es) ≡ length es
long_keys [] = refl
long_keys (e ∷ es) = ap suc (long_keys es)

pub is_below : (es : List (ℕ × Unit {0})) (spare count bound : ℕ) (c : Option ℕ) → IsSound es spare count bound → IsFirstFrom nat_cmp 0 es c → IfSome c (λ k. k < bound)
is_below es spare count bound None s h = tt
is_below es spare count bound (Some c) s h = s.within c h.0
