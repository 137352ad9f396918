-- The ancestors of a type are what parent steps reach from it.
use Rattle.std.proofs.Common.{◌≡◌, ℕ, zero, suc, ◌+◌, ◌-◌, ◌<◌, List, [], ◌∷◌, length, Option, Some, None, slice_get, refl, ap, ◌∙◌, sym, arith, subst, Bool, true, false, nat_eq, ◌⊎◌, inl, inr, ◌↔◌, zero-add}
use Rattle.std.specs.List.{list_any, IsDistinct, AllByRecursion}
use Rattle.std.specs.Option.{option_and_then, option_map, option_map_or}
use Rattle.std.proofs.lemmas.Option.{slice_get_within, slice_get-get_or}
use Rattle.std.proofs.lemmas.Bool.{or_cases, or_parts, or_left, or_right, eqb-true, eq-eqb, ne_eqb, eqb-false, cases_eq, both_ways}
use Rattle.std.proofs.lemmas.Map.Steps.{length-le_from_distinct_below}
use Rattle.kom_events.specs.declared.event_types.EventRow.{EventRow}
use Rattle.kom_events.specs.Kin.{ancestors, kin, parent_of}
use Rattle.kom_base.specs.declared.numbers.Dir.{Dir}
use Rattle.kom_events.specs.declared.port_types.PortRow.{PortRow}
use Rattle.kom_events.specs.Ports.{listed, lists, passes}
use Rattle.kom_kin.specs.Descent.{Descends, Itself, Above}

-- the type that k parent steps reach
abbrev pub nth : ℕ → List EventRow → ℕ → Option ℕ
nth zero rows a = option_map (λ row. a) (slice_get rows a)
nth (suc k) rows a = option_and_then (nth k rows) (option_and_then (λ row. row.parent) (slice_get rows a))

abbrev pub has : List ℕ → ℕ → Bool
has xs b = list_any (λ c. nat_eq c b) xs

-- what is left of a walk where the next type is this
abbrev pub line : ℕ → List EventRow → Option ℕ → List ℕ
line n rows next = option_map_or (ancestors n rows) next []

abbrev pub lined : ℕ → List EventRow → ℕ → Option EventRow → List ℕ
lined n rows a got = option_map_or (λ row. a ∷ line n rows row.parent) got []

none≢some : {A : Type 0} {x : A} → None ≡ Some x → ⊥
none≢some e = cc

some-same : {A : Type 0} {x y : A} → Some x ≡ Some y → x ≡ y
some-same e = cc

-- ---- a member is reached by fewer than n steps

member-line : (n : ℕ) (rows : List EventRow) (b : ℕ) (next : Option ℕ) → ((p : ℕ) → has (ancestors n rows p) b ≡ true → (j : ℕ) × (j < n) × (nth j rows p ≡ Some b)) → has (line n rows next) b ≡ true
    → (j : ℕ) × (j < n) × (option_and_then (nth j rows) next ≡ Some b)
member-line n rows b None rest h = absurd (both_ways false refl h)
member-line n rows b (Some p) rest h = rest p h

member-lined : (n : ℕ) (rows : List EventRow) (a b : ℕ) (got : Option EventRow) → slice_get rows a ≡ got → ((p : ℕ) → has (ancestors n rows p) b ≡ true → (j : ℕ) × (j < n) × (nth j rows p ≡ Some b)) → has (lined n rows a got) b ≡ true
    → (j : ℕ) × (j < suc n) × (nth j rows a ≡ Some b)
member-lined n rows a b None e rest h = absurd (both_ways false refl h)
member-lined n rows a b (Some row) e rest h = elim (or_cases (nat_eq a b) (has (line n rows row.parent) b) h) [
  | inl same ↦ (0, omega arith, rw e (ap Some (eqb-true a b same)))
  | inr more ↦ let f = member-line n rows b row.parent rest more in (suc f.0, omega (arith, f.1), rw e f.2)
]

pub member-nth : (n : ℕ) (rows : List EventRow) (a b : ℕ) → has (ancestors n rows a) b ≡ true → (j : ℕ) × (j < n) × (nth j rows a ≡ Some b)
member-nth zero rows a b h = absurd (both_ways false refl h)
member-nth (suc n) rows a b h = member-lined n rows a b (slice_get rows a) refl (λ p. member-nth n rows p b) h

-- ---- what fewer than n steps reach is a member

line-member : (j n : ℕ) (rows : List EventRow) (b : ℕ) (next : Option ℕ) → ((p : ℕ) → nth j rows p ≡ Some b → has (ancestors n rows p) b ≡ true) → option_and_then (nth j rows) next ≡ Some b → has (line n rows next) b ≡ true
line-member j n rows b None rest e = absurd (none≢some e)
line-member j n rows b (Some p) rest e = rest p e

here-member : (n : ℕ) (rows : List EventRow) (a b : ℕ) (got : Option EventRow) → option_map (λ row. a) got ≡ Some b → has (lined n rows a got) b ≡ true
here-member n rows a b None e = absurd (none≢some e)
here-member n rows a b (Some row) e = or_left (nat_eq a b) (has (line n rows row.parent) b) (eq-eqb a b (some-same e))

lined-member : (j n : ℕ) (rows : List EventRow) (a b : ℕ) (got : Option EventRow) → ((p : ℕ) → nth j rows p ≡ Some b → has (ancestors n rows p) b ≡ true)
    → option_and_then (nth j rows) (option_and_then (λ row. row.parent) got) ≡ Some b → has (lined n rows a got) b ≡ true
lined-member j n rows a b None rest e = absurd (none≢some e)
lined-member j n rows a b (Some row) rest e = or_right (nat_eq a b) (has (line n rows row.parent) b) (line-member j n rows b row.parent rest e)

pub nth-member : (j n : ℕ) (rows : List EventRow) (a b : ℕ) → nth j rows a ≡ Some b → j < n → has (ancestors n rows a) b ≡ true
nth-member zero zero rows a b e h = absurd (omega (arith, h))
nth-member (suc j) zero rows a b e h = absurd (omega (arith, h))
nth-member zero (suc n) rows a b e h = here-member n rows a b (slice_get rows a) e
nth-member (suc j) (suc n) rows a b e h = lined-member j n rows a b (slice_get rows a) (λ p f. nth-member j n rows p b f (omega (arith, h))) e

-- ---- steps and descent

descends-next : (j : ℕ) (rows : List EventRow) (a b : ℕ) (next : Option ℕ) → parent_of rows a ≡ next → ((p : ℕ) → nth j rows p ≡ Some b → Descends rows p b) → option_and_then (nth j rows) next ≡ Some b → Descends rows a b
descends-next j rows a b None e rest h = absurd (none≢some h)
descends-next j rows a b (Some p) e rest h = Above a p b e (rest p h)

descends-here : (rows : List EventRow) (a b : ℕ) (got : Option EventRow) → slice_get rows a ≡ got → option_map (λ row. a) got ≡ Some b → Descends rows a b
descends-here rows a b None e h = absurd (none≢some h)
descends-here rows a b (Some row) e h = let P : ℕ → Type 0 = λ x. Descends rows a x in subst P (some-same h) (Itself a (slice_get_within rows a row e))

pub nth-descends : (j : ℕ) (rows : List EventRow) (a b : ℕ) → nth j rows a ≡ Some b → Descends rows a b
nth-descends zero rows a b e = descends-here rows a b (slice_get rows a) refl e
nth-descends (suc j) rows a b e = descends-next j rows a b (parent_of rows a) refl (λ p. nth-descends j rows p b) e

pub descends-nth : (rows : List EventRow) (a b : ℕ) → Descends rows a b → (j : ℕ) × (nth j rows a ≡ Some b)
descends-nth rows a b (Itself c h) = (0, ap (option_map (λ (row : EventRow). c)) (slice_get-get_or rows c (record { parent = None; own = 0 }) h))
descends-nth rows a b (Above c p d e more) = let f = descends-nth rows p d more in (suc f.0, ap (option_and_then (nth f.0 rows)) e ∙ f.1)

nth-add-next : (j k : ℕ) (rows : List EventRow) (x : ℕ) (next : Option ℕ) → ((p : ℕ) → nth j rows p ≡ Some x → nth (j + k) rows p ≡ nth k rows x) → option_and_then (nth j rows) next ≡ Some x → option_and_then (nth (j + k) rows) next ≡ nth k rows x
nth-add-next j k rows x None rest e = absurd (none≢some e)
nth-add-next j k rows x (Some p) rest e = rest p e

same-here : (a x : ℕ) (got : Option EventRow) → option_map (λ row. a) got ≡ Some x → a ≡ x
same-here a x None e = absurd (none≢some e)
same-here a x (Some row) e = some-same e

-- steps add up
pub nth-add : (j k : ℕ) (rows : List EventRow) (a x : ℕ) → nth j rows a ≡ Some x → nth (j + k) rows a ≡ nth k rows x
nth-add zero k rows a x e = ap (λ i. nth i rows a) (zero-add k) ∙ ap (nth k rows) (same-here a x (slice_get rows a) e)
nth-add (suc j) k rows a x e =
    let s : suc j + k ≡ suc (j + k) = omega arith in
    ap (λ i. nth i rows a) s ∙ nth-add-next j k rows x (parent_of rows a) (λ p. nth-add j k rows p x) e

-- ---- the least number of steps

-- m steps lead from a to b, and no fewer do
abbrev Least : List EventRow → ℕ → ℕ → ℕ → Type 0
Least rows a b m = (nth m rows a ≡ Some b) × ((j : ℕ) → j < m → nth j rows a ≡ Some b → ⊥)

decide : (o : Option ℕ) (b : ℕ) → (o ≡ Some b) ⊎ (o ≡ Some b → ⊥)
decide None b = inr none≢some
decide (Some x) b = elim (cases_eq x b) [ inl e ↦ inl (ap Some e) | inr ne ↦ inr (λ e. ne (some-same e)) ]

extend : (k : ℕ) (rows : List EventRow) (a b : ℕ) → ((j : ℕ) → j < k → nth j rows a ≡ Some b → ⊥) → (nth k rows a ≡ Some b → ⊥) → (j : ℕ) → j < suc k → nth j rows a ≡ Some b → ⊥
extend k rows a b none ne j h e = elim (cases_eq j k) [ inl is ↦ ne (ap (λ i. nth i rows a) (sym is) ∙ e) | inr other ↦ none j (omega (arith, h, other)) e ]

first-from : (k : ℕ) (rows : List EventRow) (a b : ℕ) → ((j : ℕ) → j < k → nth j rows a ≡ Some b → ⊥) → (nth k rows a ≡ Some b) ⊎ (nth k rows a ≡ Some b → ⊥)
    → ((m : ℕ) × (m < suc k) × Least rows a b m) ⊎ ((j : ℕ) → j < suc k → nth j rows a ≡ Some b → ⊥)
first-from k rows a b none (inl e) = inl (k, omega arith, (e, none))
first-from k rows a b none (inr ne) = inr (extend k rows a b none ne)

first : (k : ℕ) (rows : List EventRow) (a b : ℕ) → ((m : ℕ) × (m < k) × Least rows a b m) ⊎ ((j : ℕ) → j < k → nth j rows a ≡ Some b → ⊥)
first zero rows a b = inr (λ j h e. absurd (omega (arith, h)))
first (suc k) rows a b = elim (first k rows a b) [ inl f ↦ inl (f.0, omega (arith, f.1), f.2) | inr none ↦ first-from k rows a b none (decide (nth k rows a) b) ]

-- ---- fewer steps than there are types

up-next : (m n : ℕ) (rows : List EventRow) (a b : ℕ) (next : Option ℕ) → parent_of rows a ≡ next → option_and_then (nth m rows) next ≡ Some b
    → (p : ℕ) × (parent_of rows a ≡ Some p) × (line n rows next ≡ ancestors n rows p) × (nth m rows p ≡ Some b)
up-next m n rows a b None e h = absurd (none≢some h)
up-next m n rows a b (Some p) e h = (p, e, refl, h)

up-from : (m n : ℕ) (rows : List EventRow) (a b : ℕ) (got : Option EventRow) → slice_get rows a ≡ got → option_and_then (nth m rows) (option_and_then (λ row. row.parent) got) ≡ Some b
    → (p : ℕ) × (parent_of rows a ≡ Some p) × (lined n rows a got ≡ a ∷ ancestors n rows p) × (nth m rows p ≡ Some b)
up-from m n rows a b None e h = absurd (none≢some h)
up-from m n rows a b (Some row) e h =
    let f = up-next m n rows a b row.parent (ap (option_and_then (λ (r : EventRow). r.parent)) e) h in
    (f.0, f.1, ap (λ xs. a ∷ xs) f.2, f.3)

empty-line : (rows : List EventRow) (next : Option ℕ) → line 0 rows next ≡ []
empty-line rows None = refl
empty-line rows (Some p) = refl

here-list : (rows : List EventRow) (a b : ℕ) (got : Option EventRow) → option_map (λ row. a) got ≡ Some b → lined 0 rows a got ≡ a ∷ []
here-list rows a b None e = absurd (none≢some e)
here-list rows a b (Some row) e = ap (λ xs. a ∷ xs) (empty-line rows row.parent)

all-apart : (xs : List ℕ) (a : ℕ) → has xs a ≡ false → AllByRecursion (λ y. nat_eq a y ≡ false) xs
all-apart [] a h = tt
all-apart (x ∷ xs) a h =
    let both = or_parts (nat_eq x a) (has xs a) h in
    (ne_eqb a x (λ e. eqb-false x a both.0 (sym e)), all-apart xs a both.1)

distinct-more : (a : ℕ) (xs : List ℕ) → has xs a ≡ false → IsDistinct nat_eq xs → IsDistinct nat_eq (a ∷ xs)
unfolding IsDistinct
distinct-more a xs h d = (all-apart xs a h, d)

distinct-none : IsDistinct nat_eq []
unfolding IsDistinct
distinct-none = tt

-- a type that is passed on the shortest way is not met again
not-again : (m : ℕ) (rows : List EventRow) (a p b : ℕ) → parent_of rows a ≡ Some p → Least rows a b (suc m) → has (ancestors (suc m) rows p) a ≡ true → ⊥
not-again m rows a p b up least h =
    let f = member-nth (suc m) rows p a h in
    let again : nth (suc f.0) rows a ≡ Some a = ap (option_and_then (nth f.0 rows)) up ∙ f.2 in
    let s : suc f.0 + (m - f.0) ≡ suc m = omega (arith, f.1) in
    let back : nth (m - f.0) rows a ≡ Some b = sym (nth-add (suc f.0) (m - f.0) rows a a again) ∙ ap (λ i. nth i rows a) s ∙ least.0 in
    least.1 (m - f.0) (omega arith) back

least-above : (m : ℕ) (rows : List EventRow) (a p b : ℕ) → parent_of rows a ≡ Some p → Least rows a b (suc m) → nth m rows p ≡ Some b → Least rows p b m
least-above m rows a p b up least e = (e, λ j h f. least.1 (suc j) (omega (arith, h)) (ap (option_and_then (nth j rows)) up ∙ f))

spread-more : (a : ℕ) (xs : List ℕ) (n : ℕ) → has xs a ≡ false → IsDistinct nat_eq xs × (length xs ≡ n) → IsDistinct nat_eq (a ∷ xs) × (length (a ∷ xs) ≡ suc n)
spread-more a xs n h s = (distinct-more a xs h s.0, ap suc s.1)

false-from : (b : Bool) → (b ≡ true → ⊥) → b ≡ false
false-from true h = absurd (h refl)
false-from false h = refl

spread : (m : ℕ) (rows : List EventRow) (a b : ℕ) → Least rows a b m → IsDistinct nat_eq (ancestors (suc m) rows a) × (length (ancestors (suc m) rows a) ≡ suc m)
spread zero rows a b least =
    let P : List ℕ → Type 0 = λ xs. IsDistinct nat_eq xs × (length xs ≡ 1) in
    subst P (sym (here-list rows a b (slice_get rows a) least.0)) (spread-more a [] 0 refl (distinct-none, refl))
spread (suc m) rows a b least =
    let f = up-from m (suc m) rows a b (slice_get rows a) refl least.0 in
    let P : List ℕ → Type 0 = λ xs. IsDistinct nat_eq xs × (length xs ≡ suc (suc m)) in
    let apart = false-from (has (ancestors (suc m) rows f.0) a) (not-again m rows a f.0 b f.1 least) in
    subst P (sym f.2) (spread-more a (ancestors (suc m) rows f.0) (suc m) apart (spread m rows f.0 b (least-above m rows a f.0 b f.1 least f.3)))

descends-within : (rows : List EventRow) (a b : ℕ) → Descends rows a b → b < length rows
descends-within rows a b (Itself c h) = h
descends-within rows a b (Above c p d e more) = descends-within rows p d more

has-any : (xs : List ℕ) (q : ℕ) → list_any (nat_eq q) xs ≡ true → has xs q ≡ true
has-any [] q h = absurd (both_ways false refl h)
has-any (x ∷ xs) q h = elim (or_cases (nat_eq q x) (list_any (nat_eq q) xs) h) [
  | inl e ↦ or_left (nat_eq x q) (has xs q) (eq-eqb x q (sym (eqb-true q x e)))
  | inr more ↦ or_right (nat_eq x q) (has xs q) (has-any xs q more)
]

member-within : (n : ℕ) (rows : List EventRow) (a q : ℕ) → list_any (nat_eq q) (ancestors n rows a) ≡ true → q < length rows
member-within n rows a q h =
    let f = member-nth n rows a q (has-any (ancestors n rows a) q h) in
    descends-within rows a q (nth-descends f.0 rows a q f.2)

-- the least number of steps is less than the number of types
few : (m : ℕ) (rows : List EventRow) (a b : ℕ) → Least rows a b m → m < length rows
few m rows a b least =
    let s = spread m rows a b least in
    let le = length-le_from_distinct_below (ancestors (suc m) rows a) (length rows) s.0 (λ q. member-within (suc m) rows a q) in
    omega (arith, s.1, le)

kin-first : (k : ℕ) (rows : List EventRow) (a b : ℕ) → nth k rows a ≡ Some b → kin rows a b ≡ true
kin-first k rows a b e = elim (first (suc k) rows a b) [
  | inl f ↦ nth-member f.0 (length rows) rows a b f.2.0 (few f.0 rows a b f.2)
  | inr none ↦ absurd (none k (omega arith) e)
]

pub kin-descends : (rows : List EventRow) (a b : ℕ) → (kin rows a b ≡ true) ↔ Descends rows a b
kin-descends rows a b = (
  λ h. let f = member-nth (length rows) rows a b h in nth-descends f.0 rows a b f.2,
  λ d. let f = descends-nth rows a b d in kin-first f.0 rows a b f.1,
)

-- ---- what follows

descends-trans : (rows : List EventRow) (a b c : ℕ) → Descends rows a b → Descends rows b c → Descends rows a c
descends-trans rows a b c (Itself d h) e = e
descends-trans rows a b c (Above d p f up more) e = Above d p c up (descends-trans rows p f c more e)

pub kin-trans : (rows : List EventRow) (a b c : ℕ) → kin rows a b ≡ true → kin rows b c ≡ true → kin rows a c ≡ true
kin-trans rows a b c h e = (kin-descends rows a c).1 (descends-trans rows a b c ((kin-descends rows a b).0 h) ((kin-descends rows b c).0 e))

lists-more : (rows : List EventRow) (a b : ℕ) → kin rows a b ≡ true → (kinds : List ℕ) → lists rows kinds b ≡ true → lists rows kinds a ≡ true
lists-more rows a b h [] e = absurd (both_ways false refl e)
lists-more rows a b h (k ∷ ks) e = elim (or_cases (kin rows b k) (lists rows ks b) e) [
  | inl here ↦ or_left (kin rows a k) (lists rows ks a) (kin-trans rows a b k h here)
  | inr more ↦ or_right (kin rows a k) (lists rows ks a) (lists-more rows a b h ks more)
]

passes-row : (rows : List EventRow) (d : Dir) (a b : ℕ) → kin rows a b ≡ true → (got : Option PortRow) → option_map_or (λ row. lists rows (listed row d) b) got false ≡ true → option_map_or (λ row. lists rows (listed row d) a) got false ≡ true
passes-row rows d a b h None e = absurd (both_ways false refl e)
passes-row rows d a b h (Some row) e = lists-more rows a b h (listed row d) e

pub passes-more : (rows : List EventRow) (ports : List PortRow) (port : ℕ) (d : Dir) (a b : ℕ) → kin rows a b ≡ true → passes rows ports port d b ≡ true → passes rows ports port d a ≡ true
passes-more rows ports port d a b h e = passes-row rows d a b h (slice_get ports port) e
