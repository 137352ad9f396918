-- Lists of entries whose keys rise: what stands at each key, and lists with the same at each.
use Rattle.std.proofs.Common.{◌≡◌, ◌≢◌, ℕ, zero, suc, ◌+◌, ◌<◌, take, get_or, length, arith, Bool, true, false, cond, not, List, [], ◌∷◌, ◌++◌, map, Option, Some, None, Ordering, refl, sym, ap, ◌∙◌, subst}
use Rattle.std.specs.List.{filter}
use Rattle.std.specs.Ordering.{is_lt, is_eq, ordering_reverse}
use Rattle.std.specs.Option.{IsSome, option_and_then}
use Rattle.std.specs.declared.cmp.Ordering.TheVariants.{Less, Equal, Greater}
use Rattle.std.specs.Cmp.{IsTotalOrder, tied_itself}
use Rattle.kom_index.specs.Entries.{AllKeys, Rises, has_key, value_of, without, inserted}
use Rattle.kom_env.proofs.Ties.{equal_of}

pub all_map : {K V : Type 0} (P Q : K → Type 0) → ((k : K) → P k → Q k) → (es : List (K × V)) → AllKeys P es → AllKeys Q es
all_map P Q f [] h = tt
all_map P Q f (e ∷ es) h = (f e.0 h.0, all_map P Q f es h.1)

pub all_filter : {K V : Type 0} (P : K → Type 0) (p : K × V → Bool) (es : List (K × V)) → AllKeys P es → AllKeys P (filter p es)
all_filter P p [] h = tt
all_filter P p (e ∷ es) h = elim (p e) as (λ b. AllKeys P (cond b (e ∷ filter p es) (filter p es))) [ true ↦ (h.0, all_filter P p es h.1) | false ↦ all_filter P p es h.1 ]

-- an entry of the list
abbrev pub Each : {A : Type 0} → (A → Type 0) → List A → Type 0
Each P [] = Unit {0}
Each P (x ∷ xs) = P x × Each P xs

pub filter_same : {A : Type 0} (p q : A → Bool) (xs : List A) → Each (λ x. p x ≡ q x) xs → filter p xs ≡ filter q xs
filter_same p q [] h = refl
filter_same p q (x ∷ xs) h = ap (λ b. cond b (x ∷ filter p xs) (filter p xs)) h.0 ∙ ap (λ l. cond (q x) (x ∷ l) l) (filter_same p q xs h.1)

pub filter_all : {A : Type 0} (p : A → Bool) (xs : List A) → Each (λ x. p x ≡ true) xs → filter p xs ≡ xs
filter_all p [] h = refl
filter_all p (x ∷ xs) h = ap (λ b. cond b (x ∷ filter p xs) (filter p xs)) h.0 ∙ ap (λ l. x ∷ l) (filter_all p xs h.1)

pub each_filter : {A : Type 0} (p : A → Bool) (P : A → Type 0) (xs : List A) → Each P xs → Each P (filter p xs)
each_filter p P [] h = tt
each_filter p P (x ∷ xs) h = elim (p x) as (λ b. Each P (cond b (x ∷ filter p xs) (filter p xs))) [ true ↦ (h.0, each_filter p P xs h.1) | false ↦ each_filter p P xs h.1 ]

-- the entry at a place of a list, by what names the keys of the list
pub record Found {K V : Type 0} (P : K × V → Type 0) (xs : List (K × V)) (i : ℕ) (k : K) : Type 0 where
  pub entry : K × V
  pub key : k ≡ entry.0
  pub more : take (i + 1) xs ≡ take i xs ++ entry ∷ []
  pub has : P entry

pub found : {K V D : Type 0} (P : K × V → Type 0) (key : D → K) (xs : List (K × V)) (ds : List D) → Each P xs → map key ds ≡ map (λ (e : K × V). e.0) xs → (i : ℕ) → i < length ds → (d : D) → Found P xs i (key (get_or ds i d))
found P key xs [] each same i h d = absurd (omega arith)
found P key [] (y ∷ ds) each same i h d = absurd (cc)
found P key (x ∷ xs) (y ∷ ds) each same zero h d = record { entry = x; key = let is : key y ≡ x.0 = cc in is; more = refl; has = each.0 }
found {K} {V} P key (x ∷ xs) (y ∷ ds) each same (suc i) h d =
    let rest : map key ds ≡ map (λ (e : K × V). e.0) xs = cc in
    let f = found P key xs ds each.1 rest i (omega arith) d in
    let e : suc i + 1 ≡ suc (i + 1) = omega arith in
    record { entry = f.entry; key = f.key; more = ap (λ n. take n (x ∷ xs)) e ∙ ap (λ l. x ∷ l) f.more; has = f.has }

module _ {K V : Type 0} (R : K → K → Ordering) (o : IsTotalOrder R) (tie : (a b : K) → is_eq (R a b) ≡ true → a ≡ b) where
  -- a key below all is at none
  pub above_none : (k : K) (es : List (K × V)) → AllKeys (λ y. R k y ≡ Less) es → value_of R k es ≡ None
  above_none k [] h = refl
  above_none k (e ∷ es) h = ap (λ b. cond b (Some e.1) (value_of R k es)) (ap is_eq h.0) ∙ above_none k es h.1

  pub head_value : (e : K × V) (es : List (K × V)) → value_of R e.0 (e ∷ es) ≡ Some e.1
  head_value e es = ap (λ c. cond (is_eq c) (Some e.1) (value_of R e.0 es)) (tied_itself o e.0)

  -- what stands in the tail stands in the whole
  pub deeper : (e : K × V) (es : List (K × V)) (k : K) (v : V) → AllKeys (λ y. R e.0 y ≡ Less) es → value_of R k es ≡ Some v → value_of R k (e ∷ es) ≡ Some v
  deeper e es k v up is = at (has_key R k e) refl
    where
      at : (b : Bool) → has_key R k e ≡ b → value_of R k (e ∷ es) ≡ Some v
      at false t = ap (λ b. cond b (Some e.1) (value_of R k es)) t ∙ is
      at true t = absurd (cc (is, ap (λ x. value_of R x es) (tie k e.0 t), above_none e.0 es up))

  -- what holds of each key with its value holds of each entry
  pub each_entry : (P : K × V → Type 0) (es : List (K × V)) → Rises R es → ((k : K) (v : V) → value_of R k es ≡ Some v → P (k, v)) → Each P es
  each_entry P [] r h = tt
  each_entry P (e ∷ es) r h = (h e.0 e.1 (head_value e es), each_entry P es r.1 (λ k v is. h k v (deeper e es k v r.0 is)))

  pub rises_filter : (p : K × V → Bool) (es : List (K × V)) → Rises R es → Rises R (filter p es)
  rises_filter p [] r = tt
  rises_filter p (e ∷ es) r = elim (p e) as (λ b. Rises R (cond b (e ∷ filter p es) (filter p es))) [ true ↦ (all_filter _ p es r.0, rises_filter p es r.1) | false ↦ rises_filter p es r.1 ]

  -- what a filter leaves at a key
  pub value_filter : (p : K × V → Bool) (es : List (K × V)) → Rises R es → (k : K) → value_of R k (filter p es) ≡ option_and_then (λ v. cond (p (k, v)) (Some v) None) (value_of R k es)
  value_filter p [] r k = refl
  value_filter p (e ∷ es) r k = at (has_key R k e) (p e) refl refl (value_filter p es r.1 k)
    where
      kept : {X : Type 0} (a b : Bool) (x y : X) → cond a (cond b x y) y ≡ cond (cond a b false) x y
      kept true b x y = refl
      kept false b x y = refl

      at : (a b : Bool) → has_key R k e ≡ a → p e ≡ b → value_of R k (filter p es) ≡ option_and_then (λ v. cond (p (k, v)) (Some v) None) (value_of R k es)
          → value_of R k (filter p (e ∷ es)) ≡ option_and_then (λ v. cond (p (k, v)) (Some v) None) (value_of R k (e ∷ es))
      at true true x y rest =
          let same : k ≡ e.0 = tie k e.0 x in
          ap (λ b. value_of R k (cond b (e ∷ filter p es) (filter p es))) y ∙ ap (λ b. cond b (Some e.1) (value_of R k (filter p es))) x
          ∙ sym (ap (λ b. option_and_then (λ v. cond (p (k, v)) (Some v) None) (cond b (Some e.1) (value_of R k es))) x ∙ ap (λ b. cond b (Some e.1) None) (ap (λ n. p (n, e.1)) same ∙ y))
      at true false x y rest =
          let same : k ≡ e.0 = tie k e.0 x in
          ap (λ b. value_of R k (cond b (e ∷ filter p es) (filter p es))) y ∙ rest ∙ ap (option_and_then (λ v. cond (p (k, v)) (Some v) None)) (ap (λ n. value_of R n es) same ∙ above_none e.0 es r.0)
          ∙ sym (ap (λ b. option_and_then (λ v. cond (p (k, v)) (Some v) None) (cond b (Some e.1) (value_of R k es))) x ∙ ap (λ b. cond b (Some e.1) None) (ap (λ n. p (n, e.1)) same ∙ y))
      at false true x y rest =
          ap (λ b. value_of R k (cond b (e ∷ filter p es) (filter p es))) y ∙ ap (λ b. cond b (Some e.1) (value_of R k (filter p es))) x ∙ rest
          ∙ sym (ap (λ b. option_and_then (λ v. cond (p (k, v)) (Some v) None) (cond b (Some e.1) (value_of R k es))) x)
      at false false x y rest =
          ap (λ b. value_of R k (cond b (e ∷ filter p es) (filter p es))) y ∙ rest
          ∙ sym (ap (λ b. option_and_then (λ v. cond (p (k, v)) (Some v) None) (cond b (Some e.1) (value_of R k es))) x)

  -- lists with the same at each key are one
  pub same_entries : (xs ys : List (K × V)) → Rises R xs → Rises R ys → ((k : K) → value_of R k xs ≡ value_of R k ys) → xs ≡ ys
  same_entries [] [] r s h = refl
  same_entries [] (y ∷ ys) r s h = absurd (cc (h y.0, head_value y ys))
  same_entries (x ∷ xs) [] r s h = absurd (cc (h x.0, head_value x xs))
  same_entries (x ∷ xs) (y ∷ ys) r s h = go (R x.0 y.0) refl (same_entries xs ys r.1 s.1)
    where
      go : (c : Ordering) → R x.0 y.0 ≡ c → (((k : K) → value_of R k xs ≡ value_of R k ys) → xs ≡ ys) → x ∷ xs ≡ y ∷ ys
      go Less c rest = absurd (cc (h x.0, head_value x xs, above_none x.0 (y ∷ ys) (c, all_map _ _ (λ z up. o.trans x.0 y.0 z c up) ys s.0)))
      go Greater c rest =
          let less : R y.0 x.0 ≡ Less = o.antisymm y.0 x.0 ∙ ap ordering_reverse c in
          absurd (cc (h y.0, head_value y ys, above_none y.0 (x ∷ xs) (less, all_map _ _ (λ z up. o.trans y.0 x.0 z less up) xs r.0)))
      go Equal c rest =
          let same : x.0 ≡ y.0 = tie x.0 y.0 (ap is_eq c) in
          let value : x.1 ≡ y.1 = cc (h x.0, head_value x xs, head_value y ys, ap (λ k. value_of R k (y ∷ ys)) same) in
          let heads : x ≡ y = λ i. (same i, value i) in
          let tails = rest (λ k. tail k (has_key R k x) refl same) in
          λ i. heads i ∷ tails i
        where
          tail : (k : K) (b : Bool) → has_key R k x ≡ b → x.0 ≡ y.0 → value_of R k xs ≡ value_of R k ys
          tail k true t same =
              let here : k ≡ x.0 = tie k x.0 t in
              ap (λ n. value_of R n xs) here ∙ above_none x.0 xs r.0 ∙ sym (ap (λ n. value_of R n ys) (here ∙ same) ∙ above_none y.0 ys s.0)
          tail k false t same =
              sym (ap (λ b. cond b (Some x.1) (value_of R k xs)) t) ∙ h k ∙ ap (λ b. cond b (Some y.1) (value_of R k ys)) (ap (λ n. is_eq (R k n)) (sym same) ∙ t)

  -- a key above all others goes to the end
  pub inserted_last : (k : K) (v : V) (es : List (K × V)) → AllKeys (λ y. R y k ≡ Less) es → inserted R k v es ≡ es ++ (k, v) ∷ []
  inserted_last k v [] h = refl
  inserted_last k v (e ∷ es) h =
      let more : is_lt (R k e.0) ≡ false = ap is_lt (o.antisymm k e.0 ∙ ap ordering_reverse h.0) in
      ap (λ b. cond b ((k, v) ∷ e ∷ es) (e ∷ inserted R k v es)) more ∙ ap (λ l. e ∷ l) (inserted_last k v es h.1)

  -- an entry that the filter drops may be taken out before
  pub filter_without : (p : K × V → Bool) (k : K) (v : V) (es : List (K × V)) → Rises R es → value_of R k es ≡ Some v → p (k, v) ≡ false → filter p (without R k es) ≡ filter p es
  filter_without p k v es r is out = drop es (each_entry (λ e. has_key R k e ≡ true → p e ≡ false) es r named)
    where
      named : (n : K) (w : V) → value_of R n es ≡ Some w → has_key R k (n, w) ≡ true → p (n, w) ≡ false
      named n w has t =
          let same : k ≡ n = tie k n t in
          let value : w ≡ v = cc (has, is, ap (λ x. value_of R x es) same) in
          ap (λ x. p (x, w)) (sym same) ∙ ap (λ x. p (k, x)) value ∙ out

      drop : (es : List (K × V)) → Each (λ e. has_key R k e ≡ true → p e ≡ false) es → filter p (without R k es) ≡ filter p es
      drop [] h = refl
      drop (e ∷ es) h = at (has_key R k e) refl (drop es h.1)
        where
          at : (b : Bool) → has_key R k e ≡ b → filter p (without R k es) ≡ filter p es → filter p (without R k (e ∷ es)) ≡ filter p (e ∷ es)
          at true t rest = ap (λ b. filter p (cond (not b) (e ∷ without R k es) (without R k es))) t ∙ rest ∙ sym (ap (λ b. cond b (e ∷ filter p es) (filter p es)) (h.0 t))
          at false t rest = ap (λ b. filter p (cond (not b) (e ∷ without R k es) (without R k es))) t ∙ ap (λ l. cond (p e) (e ∷ l) l) rest

  -- each entry that a filter keeps is there
  pub each_kept : (p : K × V → Bool) (es : List (K × V)) → Rises R es → Each (λ e. value_of R e.0 es ≡ Some e.1) (filter p es)
  each_kept p es r = each_filter p (λ e. value_of R e.0 es ≡ Some e.1) es (each_entry (λ e. value_of R e.0 es ≡ Some e.1) es r (λ n w is. is))
