-- Lists of entries whose keys rise, around one of them.
use Rattle.std.proofs.Common.{◌≡◌, ◌≢◌, Bool, true, false, cond, not, ◌&&◌, List, [], ◌∷◌, ◌++◌, map, Option, Some, None, Ordering, suc, ◌+◌, ◌≤◌, length, arith, refl, sym, ap, ◌∙◌, subst, append_assoc}
use Rattle.std.proofs.lemmas.List.{append-nil}
use Rattle.std.specs.List.{filter}
use Rattle.std.specs.Ordering.{is_lt, is_eq, ordering_reverse}
use Rattle.std.specs.Option.{IsSome, option_map}
use Rattle.std.specs.declared.cmp.Ordering.TheVariants.{Less, Equal, Greater}
use Rattle.std.specs.Cmp.{IsTotalOrder, tied_itself}
use Rattle.kom_index.specs.Entries.{AllKeys, Rises, has_key, value_of, without, revalued, inserted, first_from, IsFirstFrom, is_between, between}

pub all_map : {K V : Type 0} (P Q : K → Type 0) → ((k : K) → P k → Q k) → (es : List (K × V)) → AllKeys P es → AllKeys Q es
all_map P Q f [] h = tt
all_map P Q f (e ∷ es) h = (f e.0 h.0, all_map P Q f es h.1)

pub all_front : {K V : Type 0} (P : K → Type 0) (l m : List (K × V)) → AllKeys P (l ++ m) → AllKeys P l
all_front P [] m h = tt
all_front P (e ∷ l) m h = (h.0, all_front P l m h.1)

pub all_back : {K V : Type 0} (P : K → Type 0) (l m : List (K × V)) → AllKeys P (l ++ m) → AllKeys P m
all_back P [] m h = h
all_back P (e ∷ l) m h = all_back P l m h.1

pub all_join : {K V : Type 0} (P : K → Type 0) (l m : List (K × V)) → AllKeys P l → AllKeys P m → AllKeys P (l ++ m)
all_join P [] m h g = g
all_join P (e ∷ l) m h g = (h.0, all_join P l m h.1 g)

all_filter : {K V : Type 0} (P : K → Type 0) (p : K × V → Bool) (es : List (K × V)) → AllKeys P es → AllKeys P (filter p es)
all_filter P p [] h = tt
all_filter P p (e ∷ es) h = elim (p e) as (λ b. AllKeys P (cond b (e ∷ filter p es) (filter p es))) [ true ↦ (h.0, all_filter P p es h.1) | false ↦ all_filter P p es h.1 ]

filter-append : {X : Type 0} (p : X → Bool) (xs ys : List X) → filter p (xs ++ ys) ≡ filter p xs ++ filter p ys
filter-append p [] ys = refl
filter-append p (x ∷ xs) ys = elim (p x) as (λ b. cond b (x ∷ filter p (xs ++ ys)) (filter p (xs ++ ys)) ≡ cond b (x ∷ filter p xs) (filter p xs) ++ filter p ys) [
  | true ↦ ap (λ l. x ∷ l) (filter-append p xs ys)
  | false ↦ filter-append p xs ys
]

map-append : {X Y : Type 0} (f : X → Y) (xs ys : List X) → map f (xs ++ ys) ≡ map f xs ++ map f ys
map-append f [] ys = refl
map-append f (x ∷ xs) ys = ap (λ l. f x ∷ l) (map-append f xs ys)

module _ {K V : Type 0} (R : K → K → Ordering) where
  pub rises_front : (l m : List (K × V)) → Rises R (l ++ m) → Rises R l
  rises_front [] m h = tt
  rises_front (e ∷ l) m h = (all_front _ l m h.0, rises_front l m h.1)

  pub rises_back : (l m : List (K × V)) → Rises R (l ++ m) → Rises R m
  rises_back [] m h = h
  rises_back (e ∷ l) m h = rises_back l m h.1

  -- the parts of a node whose left side is a fork, and of one whose inner side is a fork too
  pub turned_right : (x : List (K × V)) (e : K × V) (y : List (K × V)) (f : K × V) (z : List (K × V)) → Rises R ((x ++ e ∷ y) ++ f ∷ z) → Rises R (y ++ f ∷ z)
  turned_right x e y f z h = rises_back (x ++ e ∷ []) (y ++ f ∷ z) (subst (Rises R) (simp append_assoc) h)

  pub twice_right_low : (x : List (K × V)) (e : K × V) (a : List (K × V)) (g : K × V) (b : List (K × V)) (f : K × V) (z : List (K × V)) → Rises R ((x ++ e ∷ (a ++ g ∷ b)) ++ f ∷ z) → Rises R (x ++ e ∷ a)
  twice_right_low x e a g b f z h = rises_front (x ++ e ∷ a) (g ∷ b ++ f ∷ z) (subst (Rises R) (simp append_assoc) h)

  pub twice_right_high : (x : List (K × V)) (e : K × V) (a : List (K × V)) (g : K × V) (b : List (K × V)) (f : K × V) (z : List (K × V)) → Rises R ((x ++ e ∷ (a ++ g ∷ b)) ++ f ∷ z) → Rises R (b ++ f ∷ z)
  twice_right_high x e a g b f z h = rises_back (x ++ e ∷ (a ++ g ∷ [])) (b ++ f ∷ z) (subst (Rises R) (simp append_assoc) h)

  pub turned_left : (z : List (K × V)) (f : K × V) (y : List (K × V)) (e : K × V) (x : List (K × V)) → Rises R (z ++ f ∷ (y ++ e ∷ x)) → Rises R (z ++ f ∷ y)
  turned_left z f y e x h = rises_front (z ++ f ∷ y) (e ∷ x) (subst (Rises R) (simp append_assoc) h)

  pub twice_left_low : (z : List (K × V)) (f : K × V) (a : List (K × V)) (g : K × V) (b : List (K × V)) (e : K × V) (x : List (K × V)) → Rises R (z ++ f ∷ ((a ++ g ∷ b) ++ e ∷ x)) → Rises R (z ++ f ∷ a)
  twice_left_low z f a g b e x h = rises_front (z ++ f ∷ a) (g ∷ b ++ e ∷ x) (subst (Rises R) (simp append_assoc) h)

  pub twice_left_high : (z : List (K × V)) (f : K × V) (a : List (K × V)) (g : K × V) (b : List (K × V)) (e : K × V) (x : List (K × V)) → Rises R (z ++ f ∷ ((a ++ g ∷ b) ++ e ∷ x)) → Rises R (b ++ e ∷ x)
  twice_left_high z f a g b e x h = rises_back (z ++ f ∷ (a ++ g ∷ [])) (b ++ e ∷ x) (subst (Rises R) (simp append_assoc) h)

  -- all before an entry is below it
  pub before : (l : List (K × V)) (e : K × V) (r : List (K × V)) → Rises R (l ++ e ∷ r) → AllKeys (λ y. R y e.0 ≡ Less) l
  before [] e r h = tt
  before (x ∷ l) e r h = ((all_back _ l (e ∷ r) h.0).0, before l e r h.1)

  pub after : (l : List (K × V)) (e : K × V) (r : List (K × V)) → Rises R (l ++ e ∷ r) → AllKeys (λ y. R e.0 y ≡ Less) r
  after l e r h = (rises_back l (e ∷ r) h).0

  -- no entry has the key
  abbrev pub Apart : K → List (K × V) → Type 0
  Apart k es = AllKeys (λ y. is_eq (R k y) ≡ false) es

  pub apart_value : (k : K) (l m : List (K × V)) → Apart k l → value_of R k (l ++ m) ≡ value_of R k m
  apart_value k [] m h = refl
  apart_value k (e ∷ l) m h = ap (λ b. cond b (Some e.1) (value_of R k (l ++ m))) h.0 ∙ apart_value k l m h.1

  pub apart_value_none : (k : K) (es : List (K × V)) → Apart k es → value_of R k es ≡ None
  apart_value_none k [] h = refl
  apart_value_none k (e ∷ es) h = ap (λ b. cond b (Some e.1) (value_of R k es)) h.0 ∙ apart_value_none k es h.1

  pub value_front : (k : K) (l m : List (K × V)) → Apart k m → value_of R k (l ++ m) ≡ value_of R k l
  value_front k [] m h = apart_value_none k m h
  value_front k (e ∷ l) m h = ap (cond (has_key R k e) (Some e.1)) (value_front k l m h)

  pub apart_without : (k : K) (es : List (K × V)) → Apart k es → without R k es ≡ es
  apart_without k [] h = refl
  apart_without k (e ∷ es) h = ap (λ b. cond (not b) (e ∷ without R k es) (without R k es)) h.0 ∙ ap (λ l. e ∷ l) (apart_without k es h.1)

  pub apart_revalued : (k : K) (v : V) (es : List (K × V)) → Apart k es → revalued R k v es ≡ es
  apart_revalued k v [] h = refl
  apart_revalued k v (e ∷ es) h = ap (λ b. cond b (e.0, v) e ∷ revalued R k v es) h.0 ∙ ap (λ l. e ∷ l) (apart_revalued k v es h.1)

  -- a key that is absent from a list is apart from it
  pub absent : (k : K) (es : List (K × V)) → value_of R k es ≡ None → Apart k es
  absent k [] h = tt
  absent k (e ∷ es) h = go (has_key R k e) refl (absent k es)
    where
      go : (b : Bool) → has_key R k e ≡ b → (value_of R k es ≡ None → Apart k es) → Apart k (e ∷ es)
      go true t rest = absurd (cc)
      go false t rest = (t, rest (sym (ap (λ b. cond b (Some e.1) (value_of R k es)) t) ∙ h))

pub lt_less : (c : Ordering) → is_lt c ≡ true → c ≡ Less
lt_less Less h = refl
lt_less Equal h = absurd (cc)
lt_less Greater h = absurd (cc)

equal_of : (c : Ordering) → is_eq c ≡ true → c ≡ Equal
equal_of Less h = absurd (cc)
equal_of Equal h = refl
equal_of Greater h = absurd (cc)

pub not_less : (c : Ordering) → is_lt c ≡ false → c ≢ Equal → c ≡ Greater
not_less Less h n = absurd (cc)
not_less Equal h n = absurd (n refl)
not_less Greater h n = refl

module _ {K : Type 0} {R : K → K → Ordering} (o : IsTotalOrder R) where
  pub greater : (x y : K) → R x y ≡ Less → R y x ≡ Greater
  greater x y h = o.antisymm y x ∙ ap ordering_reverse h

  pub less : (x y : K) → R x y ≡ Greater → R y x ≡ Less
  less x y h = o.antisymm y x ∙ ap ordering_reverse h

module _ {K V : Type 0} (R : K → K → Ordering) (o : IsTotalOrder R) where
  above_apart : (k : K) (es : List (K × V)) → AllKeys (λ y. R k y ≡ Less) es → Apart R k es
  above_apart k es h = all_map (λ y. R k y ≡ Less) (λ y. is_eq (R k y) ≡ false) (λ y e. ap is_eq e) es h

  below_apart : (k : K) (es : List (K × V)) → AllKeys (λ y. R y k ≡ Less) es → Apart R k es
  below_apart k es h = all_map (λ y. R y k ≡ Less) (λ y. is_eq (R k y) ≡ false) (λ y e. ap is_eq (greater o y k e)) es h

  -- a key below that of an entry is below all after it, and one above is above all before
  pub after_apart : (k : K) (l : List (K × V)) (e : K × V) (r : List (K × V)) → Rises R (l ++ e ∷ r) → R k e.0 ≡ Less → Apart R k (e ∷ r)
  after_apart k l e r h less = (ap is_eq less, above_apart k r (all_map _ _ (λ y up. o.trans k e.0 y less up) r (after R l e r h)))

  below_all : (k : K) (l : List (K × V)) (e : K × V) (r : List (K × V)) → Rises R (l ++ e ∷ r) → R k e.0 ≡ Greater → AllKeys (λ y. R y k ≡ Less) l
  below_all k l e r h more = all_map _ _ (λ y up. o.trans y e.0 k up (less o k e.0 more)) l (before R l e r h)

  pub before_apart : (k : K) (l : List (K × V)) (e : K × V) (r : List (K × V)) → Rises R (l ++ e ∷ r) → R k e.0 ≡ Greater → Apart R k (l ++ e ∷ [])
  before_apart k l e r h more = all_join _ l (e ∷ []) (below_apart k l (below_all k l e r h more)) (ap is_eq more, tt)

  -- a key that ties with an entry's is apart from the others
  tied_left : (k : K) (l : List (K × V)) (e : K × V) (r : List (K × V)) → Rises R (l ++ e ∷ r) → R k e.0 ≡ Equal → Apart R k l
  tied_left k l e r h same = all_map _ _ (λ y up. ap is_eq (o.congr k e.0 y same ∙ greater o y e.0 up)) l (before R l e r h)

  tied_right : (k : K) (l : List (K × V)) (e : K × V) (r : List (K × V)) → Rises R (l ++ e ∷ r) → R k e.0 ≡ Equal → Apart R k r
  tied_right k l e r h same = all_map _ _ (λ y up. ap is_eq (o.congr k e.0 y same ∙ up)) r (after R l e r h)

  split : (l : List (K × V)) (e : K × V) (r : List (K × V)) → l ++ e ∷ r ≡ (l ++ e ∷ []) ++ r
  split l e r = sym (append_assoc l (e ∷ []) r)

  -- ---- the value at a key

  pub value_left : (k : K) (l : List (K × V)) (e : K × V) (r : List (K × V)) → Rises R (l ++ e ∷ r) → R k e.0 ≡ Less → value_of R k (l ++ e ∷ r) ≡ value_of R k l
  value_left k l e r h less = value_front R k l (e ∷ r) (after_apart k l e r h less)

  pub value_right : (k : K) (l : List (K × V)) (e : K × V) (r : List (K × V)) → Rises R (l ++ e ∷ r) → R k e.0 ≡ Greater → value_of R k (l ++ e ∷ r) ≡ value_of R k r
  value_right k l e r h more = ap (value_of R k) (split l e r) ∙ apart_value R k (l ++ e ∷ []) r (before_apart k l e r h more)

  pub value_middle : (k : K) (l : List (K × V)) (e : K × V) (r : List (K × V)) → Rises R (l ++ e ∷ r) → R k e.0 ≡ Equal → value_of R k (l ++ e ∷ r) ≡ Some e.1
  value_middle k l e r h same = apart_value R k l (e ∷ r) (tied_left k l e r h same) ∙ ap (λ b. cond b (Some e.1) (value_of R k r)) (ap is_eq same)

  -- ---- without a key

  pub without_left : (k : K) (l : List (K × V)) (e : K × V) (r : List (K × V)) → Rises R (l ++ e ∷ r) → R k e.0 ≡ Less → without R k (l ++ e ∷ r) ≡ without R k l ++ e ∷ r
  without_left k l e r h less = filter-append (λ e. not (has_key R k e)) l (e ∷ r) ∙ ap (λ m. without R k l ++ m) (apart_without R k (e ∷ r) (after_apart k l e r h less))

  pub without_right : (k : K) (l : List (K × V)) (e : K × V) (r : List (K × V)) → Rises R (l ++ e ∷ r) → R k e.0 ≡ Greater → without R k (l ++ e ∷ r) ≡ l ++ e ∷ without R k r
  without_right k l e r h more = ap (without R k) (split l e r) ∙ filter-append (λ e. not (has_key R k e)) (l ++ e ∷ []) r
      ∙ ap (λ m. m ++ without R k r) (apart_without R k (l ++ e ∷ []) (before_apart k l e r h more)) ∙ append_assoc l (e ∷ []) (without R k r)

  pub without_middle : (k : K) (l : List (K × V)) (e : K × V) (r : List (K × V)) → Rises R (l ++ e ∷ r) → R k e.0 ≡ Equal → without R k (l ++ e ∷ r) ≡ l ++ r
  without_middle k l e r h same = filter-append (λ e. not (has_key R k e)) l (e ∷ r) ∙ ap (λ m. m ++ without R k (e ∷ r)) (apart_without R k l (tied_left k l e r h same))
      ∙ ap (λ m. l ++ m) (ap (λ b. cond (not b) (e ∷ without R k r) (without R k r)) (ap is_eq same) ∙ apart_without R k r (tied_right k l e r h same))

  pub rises_without : (k : K) (es : List (K × V)) → Rises R es → Rises R (without R k es)
  rises_without k [] h = tt
  rises_without k (e ∷ es) h = elim (not (has_key R k e)) as (λ b. Rises R (cond b (e ∷ without R k es) (without R k es))) [
    | true ↦ (all_filter _ (λ e. not (has_key R k e)) es h.0, rises_without k es h.1)
    | false ↦ rises_without k es h.1
  ]

  -- ---- another value at a key

  pub revalued_left : (k : K) (v : V) (l : List (K × V)) (e : K × V) (r : List (K × V)) → Rises R (l ++ e ∷ r) → R k e.0 ≡ Less → revalued R k v (l ++ e ∷ r) ≡ revalued R k v l ++ e ∷ r
  revalued_left k v l e r h less = map-append _ l (e ∷ r) ∙ ap (λ m. revalued R k v l ++ m) (apart_revalued R k v (e ∷ r) (after_apart k l e r h less))

  pub revalued_right : (k : K) (v : V) (l : List (K × V)) (e : K × V) (r : List (K × V)) → Rises R (l ++ e ∷ r) → R k e.0 ≡ Greater → revalued R k v (l ++ e ∷ r) ≡ l ++ e ∷ revalued R k v r
  revalued_right k v l e r h more = ap (revalued R k v) (split l e r) ∙ map-append _ (l ++ e ∷ []) r
      ∙ ap (λ m. m ++ revalued R k v r) (apart_revalued R k v (l ++ e ∷ []) (before_apart k l e r h more)) ∙ append_assoc l (e ∷ []) (revalued R k v r)

  pub revalued_middle : (k : K) (v : V) (l : List (K × V)) (e : K × V) (r : List (K × V)) → Rises R (l ++ e ∷ r) → R k e.0 ≡ Equal → revalued R k v (l ++ e ∷ r) ≡ l ++ (e.0, v) ∷ r
  revalued_middle k v l e r h same = map-append _ l (e ∷ r) ∙ ap (λ m. m ++ revalued R k v (e ∷ r)) (apart_revalued R k v l (tied_left k l e r h same))
      ∙ ap (λ m. l ++ m) (ap (λ b. cond b (e.0, v) e ∷ revalued R k v r) (ap is_eq same) ∙ ap (λ m. (e.0, v) ∷ m) (apart_revalued R k v r (tied_right k l e r h same)))

  all_revalued : (P : K → Type 0) (k : K) (v : V) (es : List (K × V)) → AllKeys P es → AllKeys P (revalued R k v es)
  all_revalued P k v [] h = tt
  all_revalued P k v (e ∷ es) h = (elim (has_key R k e) as (λ b. P (cond b (e.0, v) e).0) [ true ↦ h.0 | false ↦ h.0 ], all_revalued P k v es h.1)

  pub rises_revalued : (k : K) (v : V) (es : List (K × V)) → Rises R es → Rises R (revalued R k v es)
  rises_revalued k v [] h = tt
  rises_revalued k v (e ∷ es) h =
      (elim (has_key R k e) as (λ b. AllKeys (λ y. R (cond b (e.0, v) e).0 y ≡ Less) (revalued R k v es)) [ true ↦ all_revalued _ k v es h.0 | false ↦ all_revalued _ k v es h.0 ], rises_revalued k v es h.1)

  -- ---- one entry more

  pub inserted_left : (k : K) (v : V) (l : List (K × V)) (e : K × V) (r : List (K × V)) → R k e.0 ≡ Less → inserted R k v (l ++ e ∷ r) ≡ inserted R k v l ++ e ∷ r
  inserted_left k v [] e r less = ap (λ b. cond b ((k, v) ∷ e ∷ r) (e ∷ inserted R k v r)) (ap is_lt less)
  inserted_left k v (x ∷ l) e r less = elim (is_lt (R k x.0)) as (λ b. cond b ((k, v) ∷ x ∷ l ++ e ∷ r) (x ∷ inserted R k v (l ++ e ∷ r)) ≡ cond b ((k, v) ∷ x ∷ l) (x ∷ inserted R k v l) ++ e ∷ r) [
    | true ↦ refl
    | false ↦ ap (λ m. x ∷ m) (inserted_left k v l e r less)
  ]

  inserted_past : (k : K) (v : V) (l m : List (K × V)) → AllKeys (λ y. R y k ≡ Less) l → inserted R k v (l ++ m) ≡ l ++ inserted R k v m
  inserted_past k v [] m h = refl
  inserted_past k v (x ∷ l) m h = ap (λ b. cond b ((k, v) ∷ x ∷ l ++ m) (x ∷ inserted R k v (l ++ m))) (ap is_lt (greater o x.0 k h.0)) ∙ ap (λ n. x ∷ n) (inserted_past k v l m h.1)

  pub inserted_right : (k : K) (v : V) (l : List (K × V)) (e : K × V) (r : List (K × V)) → Rises R (l ++ e ∷ r) → R k e.0 ≡ Greater → inserted R k v (l ++ e ∷ r) ≡ l ++ e ∷ inserted R k v r
  inserted_right k v l e r h more = inserted_past k v l (e ∷ r) (below_all k l e r h more) ∙ ap (λ m. l ++ m) (ap (λ b. cond b ((k, v) ∷ e ∷ r) (e ∷ inserted R k v r)) (ap is_lt more))

  all_inserted : (P : K → Type 0) (k : K) (v : V) (es : List (K × V)) → P k → AllKeys P es → AllKeys P (inserted R k v es)
  all_inserted P k v [] p h = (p, tt)
  all_inserted P k v (e ∷ es) p h = elim (is_lt (R k e.0)) as (λ b. AllKeys P (cond b ((k, v) ∷ e ∷ es) (e ∷ inserted R k v es))) [
    | true ↦ (p, h)
    | false ↦ (h.0, all_inserted P k v es p h.1)
  ]

  pub rises_inserted : (k : K) (v : V) (es : List (K × V)) → Rises R es → Apart R k es → Rises R (inserted R k v es)
  rises_inserted k v [] h a = (tt, tt)
  rises_inserted k v (e ∷ es) h a = go (R k e.0) refl (rises_inserted k v es h.1 a.1)
    where
      go : (c : Ordering) → R k e.0 ≡ c → Rises R (inserted R k v es) → Rises R (inserted R k v (e ∷ es))
      go Less c rest = subst (Rises R) (sym (ap (λ x. cond (is_lt x) ((k, v) ∷ e ∷ es) (e ∷ inserted R k v es)) c))
          ((c, all_map _ _ (λ y up. o.trans k e.0 y c up) es h.0), h)
      go Equal c rest = absurd (cc (a.0, ap is_eq c))
      go Greater c rest = subst (Rises R) (sym (ap (λ x. cond (is_lt x) ((k, v) ∷ e ∷ es) (e ∷ inserted R k v es)) c))
          (all_inserted _ k v es (less o k e.0 c) h.0, rest)

  -- ---- the first from a bound on

  first_past : (low : K) (l m : List (K × V)) → AllKeys (λ y. R y low ≡ Less) l → first_from R low (l ++ m) ≡ first_from R low m
  first_past low [] m h = refl
  first_past low (x ∷ l) m h = ap (λ b. cond (not b) (Some x) (first_from R low (l ++ m))) (ap is_lt h.0) ∙ first_past low l m h.1

  pub first_right : (low : K) (l : List (K × V)) (e : K × V) (r : List (K × V)) → Rises R (l ++ e ∷ r) → R e.0 low ≡ Less → first_from R low (l ++ e ∷ r) ≡ first_from R low r
  first_right low l e r h less = first_past low l (e ∷ r) (all_map _ _ (λ y up. o.trans y e.0 low up less) l (before R l e r h)) ∙ ap (λ b. cond (not b) (Some e) (first_from R low r)) (ap is_lt less)

  pub first_middle : (low : K) (l : List (K × V)) (e : K × V) (r : List (K × V)) → is_lt (R e.0 low) ≡ false → first_from R low l ≡ None → first_from R low (l ++ e ∷ r) ≡ Some e
  first_middle low [] e r h none = ap (λ b. cond (not b) (Some e) (first_from R low r)) h
  first_middle low (x ∷ l) e r h none = go (is_lt (R x.0 low)) refl (first_middle low l e r h)
    where
      go : (b : Bool) → is_lt (R x.0 low) ≡ b → (first_from R low l ≡ None → first_from R low (l ++ e ∷ r) ≡ Some e) → first_from R low (x ∷ l ++ e ∷ r) ≡ Some e
      go true t rest = ap (λ b. cond (not b) (Some x) (first_from R low (l ++ e ∷ r))) t ∙ rest (sym (ap (λ b. cond (not b) (Some x) (first_from R low l)) t) ∙ none)
      go false t rest = absurd (cc (ap (λ b. cond (not b) (Some x) (first_from R low l)) t))

  pub first_left : (low : K) (l : List (K × V)) (e : K × V) (r : List (K × V)) (f : K × V) → first_from R low l ≡ Some f → first_from R low (l ++ e ∷ r) ≡ Some f
  first_left low [] e r f some = absurd (cc)
  first_left low (x ∷ l) e r f some = go (is_lt (R x.0 low)) refl (first_left low l e r f)
    where
      go : (b : Bool) → is_lt (R x.0 low) ≡ b → (first_from R low l ≡ Some f → first_from R low (l ++ e ∷ r) ≡ Some f) → first_from R low (x ∷ l ++ e ∷ r) ≡ Some f
      go true t rest = ap (λ b. cond (not b) (Some x) (first_from R low (l ++ e ∷ r))) t ∙ rest (sym (ap (λ b. cond (not b) (Some x) (first_from R low l)) t) ∙ some)
      go false t rest = ap (λ b. cond (not b) (Some x) (first_from R low (l ++ e ∷ r))) t ∙ sym (ap (λ b. cond (not b) (Some x) (first_from R low l)) t) ∙ some

  -- the key of the first from a bound on, over the left side's answer
  pub first_key_here : (low : K) (l : List (K × V)) (e : K × V) (r : List (K × V)) → is_lt (R e.0 low) ≡ false → None ≡ option_map (λ (e : K × V). e.0) (first_from R low l)
      → Some e.0 ≡ option_map (λ (e : K × V). e.0) (first_from R low (l ++ e ∷ r))
  first_key_here low l e r h none = sym (ap (option_map (λ (e : K × V). e.0)) (first_middle low l e r h (go (first_from R low l) refl none)))
    where
      go : (g : Option (K × V)) → first_from R low l ≡ g → None ≡ option_map (λ (e : K × V). e.0) (first_from R low l) → first_from R low l ≡ None
      go None e n = e
      go (Some f) e n = absurd (cc (n, ap (option_map (λ (e : K × V). e.0)) e))

  pub first_key_left : (low : K) (l : List (K × V)) (e : K × V) (r : List (K × V)) (o : Option K) → o ≢ None → o ≡ option_map (λ (e : K × V). e.0) (first_from R low l)
      → o ≡ option_map (λ (e : K × V). e.0) (first_from R low (l ++ e ∷ r))
  first_key_left low l e r o some is = go (first_from R low l) refl
    where
      go : (g : Option (K × V)) → first_from R low l ≡ g → o ≡ option_map (λ (e : K × V). e.0) (first_from R low (l ++ e ∷ r))
      go None e = absurd (some (is ∙ ap (option_map (λ (e : K × V). e.0)) e))
      go (Some f) h = is ∙ ap (option_map (λ (e : K × V). e.0)) h ∙ sym (ap (option_map (λ (e : K × V). e.0)) (first_left low l e r f h))

  -- ---- each change, by the side that it falls to

  pub record Changes (made new : List (K × V)) : Type 0 where
    pub is : made ≡ new
    pub rises : Rises R made

  pub insert_less : (k : K) (v : V) (l : List (K × V)) (e : K × V) (r : List (K × V)) → Rises R (l ++ e ∷ r) → value_of R k (l ++ e ∷ r) ≡ None → R k e.0 ≡ Less
      → Changes (inserted R k v l ++ e ∷ r) (inserted R k v (l ++ e ∷ r))
  insert_less k v l e r h none less =
      let is = inserted_left k v l e r less in
      record { is = sym is; rises = subst (Rises R) is (rises_inserted k v (l ++ e ∷ r) h (absent R k (l ++ e ∷ r) none)) }

  pub above_by_absence : (k : K) (l : List (K × V)) (e : K × V) (r : List (K × V)) → value_of R k (l ++ e ∷ r) ≡ None → is_lt (R k e.0) ≡ false → R k e.0 ≡ Greater
  above_by_absence k l e r none past = not_less _ past (λ same. cc ((all_back _ l (e ∷ r) (absent R k (l ++ e ∷ r) none)).0, ap is_eq same))

  pub insert_more : (k : K) (v : V) (l : List (K × V)) (e : K × V) (r : List (K × V)) → Rises R (l ++ e ∷ r) → value_of R k (l ++ e ∷ r) ≡ None → is_lt (R k e.0) ≡ false
      → Changes (l ++ e ∷ inserted R k v r) (inserted R k v (l ++ e ∷ r))
  insert_more k v l e r h none past =
      let is = inserted_right k v l e r h (above_by_absence k l e r none past) in
      record { is = sym is; rises = subst (Rises R) is (rises_inserted k v (l ++ e ∷ r) h (absent R k (l ++ e ∷ r) none)) }

  pub remove_less : (k : K) (l : List (K × V)) (e : K × V) (r : List (K × V)) → Rises R (l ++ e ∷ r) → R k e.0 ≡ Less → Changes (without R k l ++ e ∷ r) (without R k (l ++ e ∷ r))
  remove_less k l e r h less = let is = without_left k l e r h less in record { is = sym is; rises = subst (Rises R) is (rises_without k (l ++ e ∷ r) h) }

  pub remove_more : (k : K) (l : List (K × V)) (e : K × V) (r : List (K × V)) → Rises R (l ++ e ∷ r) → R k e.0 ≡ Greater → Changes (l ++ e ∷ without R k r) (without R k (l ++ e ∷ r))
  remove_more k l e r h more = let is = without_right k l e r h more in record { is = sym is; rises = subst (Rises R) is (rises_without k (l ++ e ∷ r) h) }

  pub remove_tied : (k : K) (l : List (K × V)) (e : K × V) (r : List (K × V)) → Rises R (l ++ e ∷ r) → R k e.0 ≡ Equal → Changes (l ++ r) (without R k (l ++ e ∷ r))
  remove_tied k l e r h same = let is = without_middle k l e r h same in record { is = sym is; rises = subst (Rises R) is (rises_without k (l ++ e ∷ r) h) }

  pub sides_rise : (l : List (K × V)) (e : K × V) (r : List (K × V)) → Rises R (l ++ e ∷ r) → Rises R (l ++ r)
  sides_rise l e r h = (remove_tied e.0 l e r h (tied_itself o e.0)).rises

  pub revalue_less : (k : K) (v : V) (l : List (K × V)) (e : K × V) (r : List (K × V)) → Rises R (l ++ e ∷ r) → R k e.0 ≡ Less → Changes (revalued R k v l ++ e ∷ r) (revalued R k v (l ++ e ∷ r))
  revalue_less k v l e r h less = let is = revalued_left k v l e r h less in record { is = sym is; rises = subst (Rises R) is (rises_revalued k v (l ++ e ∷ r) h) }

  pub revalue_more : (k : K) (v : V) (l : List (K × V)) (e : K × V) (r : List (K × V)) → Rises R (l ++ e ∷ r) → R k e.0 ≡ Greater → Changes (l ++ e ∷ revalued R k v r) (revalued R k v (l ++ e ∷ r))
  revalue_more k v l e r h more = let is = revalued_right k v l e r h more in record { is = sym is; rises = subst (Rises R) is (rises_revalued k v (l ++ e ∷ r) h) }

  pub revalue_tied : (k : K) (v : V) (l : List (K × V)) (e : K × V) (r : List (K × V)) → Rises R (l ++ e ∷ r) → R k e.0 ≡ Equal → Changes (l ++ (e.0, v) ∷ r) (revalued R k v (l ++ e ∷ r))
  revalue_tied k v l e r h same = let is = revalued_middle k v l e r h same in record { is = sym is; rises = subst (Rises R) is (rises_revalued k v (l ++ e ∷ r) h) }

  -- ---- lengths

  pub length-inserted : (k : K) (v : V) (es : List (K × V)) → length (inserted R k v es) ≡ length es + 1
  length-inserted k v [] = refl
  length-inserted k v (e ∷ es) = elim (is_lt (R k e.0)) as (λ b. length (cond b ((k, v) ∷ e ∷ es) (e ∷ inserted R k v es)) ≡ suc (length es) + 1) [
    | true ↦ omega arith
    | false ↦ omega (arith, length-inserted k v es)
  ]

  pub length-without : (k : K) (es : List (K × V)) → Rises R es → IsSome (value_of R k es) → length (without R k es) + 1 ≡ length es
  length-without k [] h some = absurd (cc)
  length-without k (e ∷ es) h some = go (R k e.0) refl (length-without k es h.1)
    where
      kept : is_eq (R k e.0) ≡ false → (IsSome (value_of R k es) → length (without R k es) + 1 ≡ length es) → length (without R k (e ∷ es)) + 1 ≡ suc (length es)
      kept t rest = ap (λ b. length (cond (not b) (e ∷ without R k es) (without R k es)) + 1) t ∙ omega (arith, rest (subst IsSome (ap (λ b. cond b (Some e.1) (value_of R k es)) t) some))

      go : (c : Ordering) → R k e.0 ≡ c → (IsSome (value_of R k es) → length (without R k es) + 1 ≡ length es) → length (without R k (e ∷ es)) + 1 ≡ suc (length es)
      go Less c rest = kept (ap is_eq c) rest
      go Greater c rest = kept (ap is_eq c) rest
      go Equal c rest = ap (λ b. length (cond (not b) (e ∷ without R k es) (without R k es)) + 1) (ap is_eq c) ∙ ap (λ l. length l + 1) (apart_without R k es (tied_right k [] e es h c)) ∙ omega arith

  -- ---- the value at any key after a change

  tied : (q k : K) (e : K × V) → R q k ≡ Equal → is_eq (R q e.0) ≡ is_eq (R k e.0)
  tied q k e same = ap is_eq (o.congr q k e.0 same)

  pub value-inserted : (k : K) (v : V) (es : List (K × V)) → Apart R k es → (q : K) → value_of R q (inserted R k v es) ≡ cond (is_eq (R q k)) (Some v) (value_of R q es)
  value-inserted k v [] a q = refl
  value-inserted k v (e ∷ es) a q = elim (is_lt (R k e.0)) as (λ b. value_of R q (cond b ((k, v) ∷ e ∷ es) (e ∷ inserted R k v es)) ≡ cond (is_eq (R q k)) (Some v) (value_of R q (e ∷ es))) [
    | true ↦ refl
    | false ↦ ap (cond (has_key R q e) (Some e.1)) (value-inserted k v es a.1 q) ∙ at (is_eq (R q k)) refl
  ]
    where
      at : (b : Bool) → is_eq (R q k) ≡ b → cond (has_key R q e) (Some e.1) (cond b (Some v) (value_of R q es)) ≡ cond b (Some v) (cond (has_key R q e) (Some e.1) (value_of R q es))
      at true t = ap (λ c. cond c (Some e.1) (Some v)) (tied q k e (equal_of _ t) ∙ a.0)
      at false t = refl

  -- keys apart from each other are not both an entry's
  other : (k q : K) (e : K × V) → has_key R k e ≡ true → is_eq (R q k) ≡ false → has_key R q e ≡ false
  other k q e x y = go (has_key R q e) refl
    where
      go : (b : Bool) → has_key R q e ≡ b → has_key R q e ≡ false
      go false t = t
      go true t = absurd (cc (y, ap is_eq (o.congr q e.0 k (equal_of _ t)), ap is_eq (o.antisymm e.0 k ∙ ap ordering_reverse (equal_of _ x))))

  pub value-without : (k : K) (es : List (K × V)) (q : K) → value_of R q (without R k es) ≡ cond (is_eq (R q k)) None (value_of R q es)
  value-without k [] q = elim (is_eq (R q k)) as (λ b. None ≡ cond {A = Option V} b None None) [ true ↦ refl | false ↦ refl ]
  value-without k (e ∷ es) q = at (has_key R k e) (is_eq (R q k)) refl refl (value-without k es q)
    where
      at : (a b : Bool) → has_key R k e ≡ a → is_eq (R q k) ≡ b → value_of R q (without R k es) ≡ cond (is_eq (R q k)) None (value_of R q es)
          → value_of R q (without R k (e ∷ es)) ≡ cond (is_eq (R q k)) None (value_of R q (e ∷ es))
      at true true x y rest = ap (λ b. value_of R q (cond (not b) (e ∷ without R k es) (without R k es))) x ∙ rest ∙ ap (λ b. cond b None (value_of R q es)) y ∙ sym (ap (λ b. cond b None (value_of R q (e ∷ es))) y)
      at true false x y rest =
          let apart = other k q e x y in
          ap (λ b. value_of R q (cond (not b) (e ∷ without R k es) (without R k es))) x ∙ rest ∙ ap (λ b. cond b None (value_of R q es)) y ∙ sym (ap (λ b. cond b None (value_of R q (e ∷ es))) y ∙ ap (λ b. cond b (Some e.1) (value_of R q es)) apart)
      at false true x y rest =
          let apart : has_key R q e ≡ false = tied q k e (equal_of _ y) ∙ x in
          ap (λ b. value_of R q (cond (not b) (e ∷ without R k es) (without R k es))) x ∙ ap (λ b. cond b (Some e.1) (value_of R q (without R k es))) apart ∙ rest ∙ ap (λ b. cond b None (value_of R q es)) y ∙ sym (ap (λ b. cond b None (value_of R q (e ∷ es))) y)
      at false false x y rest =
          ap (λ b. value_of R q (cond (not b) (e ∷ without R k es) (without R k es))) x ∙ ap (cond (has_key R q e) (Some e.1)) (rest ∙ ap (λ b. cond b None (value_of R q es)) y) ∙ sym (ap (λ b. cond b None (value_of R q (e ∷ es))) y)

  over : (k : K) (v : V) (es : List (K × V)) (q : K) → value_of R q (revalued R k v es) ≡ cond (is_eq (R q k)) (option_map (λ _. v) (value_of R q es)) (value_of R q es)
  over k v [] q = elim (is_eq (R q k)) as (λ b. None ≡ cond {A = Option V} b None None) [ true ↦ refl | false ↦ refl ]
  over k v (e ∷ es) q = at (has_key R k e) (is_eq (R q k)) refl refl (over k v es q)
    where
      at : (a b : Bool) → has_key R k e ≡ a → is_eq (R q k) ≡ b → value_of R q (revalued R k v es) ≡ cond (is_eq (R q k)) (option_map (λ _. v) (value_of R q es)) (value_of R q es)
          → value_of R q (revalued R k v (e ∷ es)) ≡ cond (is_eq (R q k)) (option_map (λ _. v) (value_of R q (e ∷ es))) (value_of R q (e ∷ es))
      at true true x y rest =
          let both : has_key R q e ≡ true = tied q k e (equal_of _ y) ∙ x in
          ap (λ b. value_of R q (cond b (e.0, v) e ∷ revalued R k v es)) x ∙ ap (λ b. cond b (Some v) (value_of R q (revalued R k v es))) both
          ∙ sym (ap (λ b. cond b (option_map (λ _. v) (value_of R q (e ∷ es))) (value_of R q (e ∷ es))) y ∙ ap (λ b. option_map (λ _. v) (cond b (Some e.1) (value_of R q es))) both)
      at true false x y rest =
          let apart = other k q e x y in
          ap (λ b. value_of R q (cond b (e.0, v) e ∷ revalued R k v es)) x ∙ ap (λ b. cond b (Some v) (value_of R q (revalued R k v es))) apart
          ∙ rest ∙ ap (λ b. cond b (option_map (λ _. v) (value_of R q es)) (value_of R q es)) y
          ∙ sym (ap (λ b. cond b (option_map (λ _. v) (value_of R q (e ∷ es))) (value_of R q (e ∷ es))) y ∙ ap (λ b. cond b (Some e.1) (value_of R q es)) apart)
      at false true x y rest =
          let apart : has_key R q e ≡ false = tied q k e (equal_of _ y) ∙ x in
          ap (λ b. value_of R q (cond b (e.0, v) e ∷ revalued R k v es)) x ∙ ap (λ b. cond b (Some e.1) (value_of R q (revalued R k v es))) apart
          ∙ rest ∙ ap (λ b. cond b (option_map (λ _. v) (value_of R q es)) (value_of R q es)) y
          ∙ sym (ap (λ b. cond b (option_map (λ _. v) (value_of R q (e ∷ es))) (value_of R q (e ∷ es))) y ∙ ap (λ b. option_map (λ _. v) (cond b (Some e.1) (value_of R q es))) apart)
      at false false x y rest =
          ap (λ b. value_of R q (cond b (e.0, v) e ∷ revalued R k v es)) x
          ∙ ap (cond (has_key R q e) (Some e.1)) (rest ∙ ap (λ b. cond b (option_map (λ _. v) (value_of R q es)) (value_of R q es)) y)
          ∙ sym (ap (λ b. cond b (option_map (λ _. v) (value_of R q (e ∷ es))) (value_of R q (e ∷ es))) y)

  -- keys that tie have one value
  pub value-tied : (q k : K) (es : List (K × V)) → R q k ≡ Equal → value_of R q es ≡ value_of R k es
  value-tied q k [] same = refl
  value-tied q k (e ∷ es) same = ap (λ b. cond b (Some e.1) (value_of R q es)) (tied q k e same) ∙ ap (cond (has_key R k e) (Some e.1)) (value-tied q k es same)

  pub value-revalued : (k : K) (v : V) (es : List (K × V)) → IsSome (value_of R k es) → (q : K) → value_of R q (revalued R k v es) ≡ cond (is_eq (R q k)) (Some v) (value_of R q es)
  value-revalued k v es some q = over k v es q ∙ at (is_eq (R q k)) refl
    where
      filled : (g : Option V) → IsSome g → option_map (λ _. v) g ≡ Some v
      filled None h = absurd (cc)
      filled (Some w) h = refl

      at : (b : Bool) → is_eq (R q k) ≡ b → cond b (option_map (λ _. v) (value_of R q es)) (value_of R q es) ≡ cond b (Some v) (value_of R q es)
      at true t = filled (value_of R q es) (subst IsSome (sym (value-tied q k es (equal_of _ t))) some)
      at false t = refl

  -- ---- the first from a bound on is the least

  above_present : (x : K) (es : List (K × V)) → AllKeys (λ y. R x y ≡ Less) es → (q : K) → IsSome (value_of R q es) → R x q ≡ Less
  above_present x [] h q some = absurd (cc)
  above_present x (e ∷ es) h q some = go (has_key R q e) refl (above_present x es h.1 q)
    where
      go : (b : Bool) → has_key R q e ≡ b → (IsSome (value_of R q es) → R x q ≡ Less) → R x q ≡ Less
      go true t rest = less o q x (o.congr q e.0 x (equal_of _ t) ∙ greater o x e.0 h.0)
      go false t rest = rest (subst IsSome (ap (λ b. cond b (Some e.1) (value_of R q es)) t) some)

  pub first_is : (low : K) (es : List (K × V)) → Rises R es → IsFirstFrom R low es (option_map (λ (e : K × V). e.0) (first_from R low es))
  first_is low [] h = λ q some. absurd (cc)
  first_is low (e ∷ es) h = go (is_lt (R e.0 low)) refl (first_is low es h.1)
    where
      -- an entry that the bound passes
      passed : is_lt (R e.0 low) ≡ true → (q : K) → IsSome (value_of R q (e ∷ es)) → is_lt (R q low) ≡ false → IsSome (value_of R q es)
      passed t q some past = at (has_key R q e) refl
        where
          at : (b : Bool) → has_key R q e ≡ b → IsSome (value_of R q es)
          at true k = absurd (cc (t, past, ap is_lt (o.congr q e.0 low (equal_of _ k))))
          at false k = subst IsSome (ap (λ b. cond b (Some e.1) (value_of R q es)) k) some

      more : (k : K) → IsSome (value_of R k es) → IsSome (value_of R k (e ∷ es))
      more k some = elim (has_key R k e) as (λ b. IsSome (cond b (Some e.1) (value_of R k es))) [ true ↦ refl | false ↦ some ]

      late : (g : Option K) → is_lt (R e.0 low) ≡ true → IsFirstFrom R low es g → IsFirstFrom R low (e ∷ es) g
      late None t rest = λ q some. below q some (is_lt (R q low)) refl
        where
          below : (q : K) → IsSome (value_of R q (e ∷ es)) → (b : Bool) → is_lt (R q low) ≡ b → is_lt (R q low) ≡ true
          below q some true p = p
          below q some false p = rest q (passed t q some p)
      late (Some k) t rest = (more k rest.0, rest.1, λ q some past. rest.2 q (passed t q some past) past)

      go : (b : Bool) → is_lt (R e.0 low) ≡ b → IsFirstFrom R low es (option_map (λ (e : K × V). e.0) (first_from R low es))
          → IsFirstFrom R low (e ∷ es) (option_map (λ (e : K × V). e.0) (first_from R low (e ∷ es)))
      go true t rest = subst (IsFirstFrom R low (e ∷ es)) (sym (ap (λ b. option_map (λ (e : K × V). e.0) (cond (not b) (Some e) (first_from R low es))) t)) (late (option_map (λ (e : K × V). e.0) (first_from R low es)) t rest)
      go false t rest = subst (IsFirstFrom R low (e ∷ es)) (sym (ap (λ b. option_map (λ (e : K × V). e.0) (cond (not b) (Some e) (first_from R low es))) t))
          (subst IsSome (sym (ap (λ c. cond (is_eq c) (Some e.1) (value_of R e.0 es)) (tied_itself o e.0))) refl, t, λ q some past. at q some (has_key R q e) refl)
        where
          at : (q : K) → IsSome (value_of R q (e ∷ es)) → (b : Bool) → has_key R q e ≡ b → is_lt (R q e.0) ≡ false
          at q some true k = ap is_lt (equal_of _ k)
          at q some false k = ap is_lt (greater o e.0 q (above_present e.0 es h.0 q (subst IsSome (ap (λ b. cond b (Some e.1) (value_of R q es)) k) some)))

  -- ---- what lies between two bounds

  -- all below the first bound
  between_below : (low high : K) (l m : List (K × V)) → AllKeys (λ y. R y low ≡ Less) l → between R low high (l ++ m) ≡ between R low high m
  between_below low high [] m h = refl
  between_below low high (x ∷ l) m h = ap (λ b. cond (not b && not (is_lt (R high x.0))) (x ∷ between R low high (l ++ m)) (between R low high (l ++ m))) (ap is_lt h.0) ∙ between_below low high l m h.1

  -- all above the second
  between_above : (low high : K) (es : List (K × V)) → AllKeys (λ y. R high y ≡ Less) es → between R low high es ≡ []
  between_above low high [] h = refl
  between_above low high (x ∷ es) h = ap (λ b. cond (not (is_lt (R x.0 low)) && not b) (x ∷ between R low high es) (between R low high es)) (ap is_lt h.0)
      ∙ elim (is_lt (R x.0 low)) as (λ b. cond (not b && false) (x ∷ between R low high es) (between R low high es) ≡ []) [ true ↦ between_above low high es h.1 | false ↦ between_above low high es h.1 ]

  pub between_right : (low high : K) (l : List (K × V)) (e : K × V) (r : List (K × V)) → Rises R (l ++ e ∷ r) → R e.0 low ≡ Less → between R low high (l ++ e ∷ r) ≡ between R low high r
  between_right low high l e r h less = between_below low high l (e ∷ r) (all_map _ _ (λ y up. o.trans y e.0 low up less) l (before R l e r h))
      ∙ ap (λ b. cond (not b && not (is_lt (R high e.0))) (e ∷ between R low high r) (between R low high r)) (ap is_lt less)

  pub between_left : (low high : K) (l : List (K × V)) (e : K × V) (r : List (K × V)) → Rises R (l ++ e ∷ r) → R high e.0 ≡ Less → between R low high (l ++ e ∷ r) ≡ between R low high l
  between_left low high l e r h less = filter-append (is_between R low high) l (e ∷ r)
      ∙ ap (λ m. between R low high l ++ m) (between_above low high (e ∷ r) (less, all_map _ _ (λ y up. o.trans high e.0 y less up) r (after R l e r h)))
      ∙ append-nil (between R low high l)

  pub between_both : (low high : K) (l : List (K × V)) (e : K × V) (r : List (K × V)) → is_lt (R e.0 low) ≡ false → is_lt (R high e.0) ≡ false → between R low high (l ++ e ∷ r) ≡ between R low high l ++ e ∷ between R low high r
  between_both low high l e r past below = filter-append (is_between R low high) l (e ∷ r)
      ∙ ap (λ b. between R low high l ++ cond (not b && not (is_lt (R high e.0))) (e ∷ between R low high r) (between R low high r)) past
      ∙ ap (λ b. between R low high l ++ cond (not b) (e ∷ between R low high r) (between R low high r)) below

pub between_fewer : {K V : Type 0} (R : K → K → Ordering) (low high : K) (es : List (K × V)) → length (between R low high es) ≤ length es
between_fewer R low high [] = omega arith
between_fewer R low high (e ∷ es) = elim (is_between R low high e) as (λ b. length (cond b (e ∷ between R low high es) (between R low high es)) ≤ suc (length es)) [
  | true ↦ omega (arith, between_fewer R low high es)
  | false ↦ omega (arith, between_fewer R low high es)
]
