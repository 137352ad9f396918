-- Tables of places after one more, and what is later by them.
use Rattle.std.proofs.Common.{◌≡◌, ℕ, ◌+◌, ◌<◌, Bool, true, false, ◌&&◌, ◌||◌, nat_lt, List, [], ◌∷◌, ◌++◌, map, take, length, get_or, Option, Some, None, min, max, if◌then◌else◌, cond, filter, fold, refl, sym, ap, ◌∙◌, arith, bytes_eq}
use Rattle.std.proofs.Math.Path.{fun_ext}
use Rattle.std.proofs.lemmas.Bool.Decides.{nat_tests}
use Rattle.std.specs.List.{flat_map, list_any}
use Rattle.std.specs.Option.{option_map, option_map_or}
use Rattle.std.proofs.lemmas.List.{take_more, append-nil, map-append}
use Rattle.std.proofs.lemmas.List.Concat.{flat_map-append}
use Rattle.kom_system.specs.declared.parts.Spot.{Spot}
use Rattle.kom_rules.specs.Declaring.{Introduced, one_by_one}
use Rattle.kom_rules.specs.Names.{Name, names_of, with_name, same, at_if, earlier, first_place, later}
use Rattle.kom_spaces.specs.Tables.{earliest, later_in, HasPlaces}
use Rattle.kom_walks.proofs.Firsts.{first_append, earlier_grouped, earlier_none}

pub flat_map_over : {X Y A : Type 0} (f : Y → List A) (g : X → Y) (xs : List X) → flat_map f (map g xs) ≡ flat_map (λ x. f (g x)) xs
flat_map_over f g [] = refl
flat_map_over f g (x ∷ xs) = ap (λ ys. f (g x) ++ ys) (flat_map_over f g xs)

map_taken : {X Y : Type 0} (f : X → Y) (xs : List X) (i : ℕ) (x : X) → i < length xs → x ≡ get_or xs i x → map f (take (i + 1) xs) ≡ map f (take i xs) ++ f x ∷ []
map_taken f xs i x h e = ap (map f) (take_more xs i x h) ∙ map-append f (take i xs) (get_or xs i x ∷ []) ∙ ap (λ y. map f (take i xs) ++ f y ∷ []) (sym e)

-- one place more, where the name is the one that is asked for
abbrev pub with_place : Bool → Option ℕ → ℕ → Option ℕ
with_place b o at = if b then earlier o (Some at) else o

placed : (b : Bool) (o : Option ℕ) (at : ℕ) → with_place b o at ≡ earlier o (first_place (at_if b at))
placed true o at = refl
placed false o at = sym (earlier_none o)

earliest_append : (xs ys : List Spot) (q : Name) → earliest (xs ++ ys) q ≡ earlier (earliest xs q) (earliest ys q)
earliest_append xs ys q = ap first_place (flat_map-append _ xs ys) ∙ first_append (flat_map _ xs) (flat_map _ ys)

earliest_one : (s : Spot) (q : Name) → earliest (s ∷ []) q ≡ first_place (at_if (bytes_eq q s.name) s.at)
earliest_one s q = ap first_place (append-nil (at_if (bytes_eq q s.name) s.at))

pub noted_more : {X : Type 0} (f : X → Spot) (xs : List X) (i : ℕ) (x : X) (q : Name) (start before now : Option ℕ) → i < length xs → x ≡ get_or xs i x
    → before ≡ earlier start (earliest (map f (take i xs)) q) → now ≡ with_place (bytes_eq q (f x).name) before (f x).at → now ≡ earlier start (earliest (map f (take (i + 1) xs)) q)
noted_more f xs i x q start before now h e old new =
    new ∙ placed (bytes_eq q (f x).name) before (f x).at ∙ ap (λ o. earlier o (first_place (at_if (bytes_eq q (f x).name) (f x).at))) old
    ∙ earlier_grouped start (earliest (map f (take i xs)) q) (first_place (at_if (bytes_eq q (f x).name) (f x).at))
    ∙ ap (earlier start) (ap (earlier (earliest (map f (take i xs)) q)) (sym (earliest_one (f x) q)) ∙ sym (earliest_append (map f (take i xs)) (f x ∷ []) q))
    ∙ ap (λ ys. earlier start (earliest ys q)) (sym (map_taken f xs i x h e))

-- ---- what is later than a place

min_below : (a b n : ℕ) → nat_lt (min a b) n ≡ nat_lt a n || nat_lt b n
min_below a b n = grind (arith, nat_tests)

lesser_below : (a n : ℕ) (o : Option ℕ) → option_map_or (λ x. nat_lt x n) (earlier (Some a) o) false ≡ nat_lt a n || option_map_or (λ x. nat_lt x n) o false
lesser_below a n None = sym (or_false (nat_lt a n)) where
  or_false : (b : Bool) → b || false ≡ b
  or_false true = refl
  or_false false = refl
lesser_below a n (Some b) = min_below a b n

later_by : (spots : List Spot) (q : Name) (n : ℕ) → option_map_or (λ x. nat_lt x n) (earliest spots q) false ≡ list_any (λ t. bytes_eq q t.name && nat_lt t.at n) spots
later_by [] q n = refl
later_by (s ∷ spots) q n = by (bytes_eq q s.name) (later_by spots q n) where
  by : (b : Bool) → option_map_or (λ x. nat_lt x n) (earliest spots q) false ≡ list_any (λ t. bytes_eq q t.name && nat_lt t.at n) spots
      → option_map_or (λ x. nat_lt x n) (first_place (at_if b s.at ++ flat_map (λ t. at_if (bytes_eq q t.name) t.at) spots)) false ≡ (b && nat_lt s.at n) || list_any (λ t. bytes_eq q t.name && nat_lt t.at n) spots
  by true rest = lesser_below s.at n (earliest spots q) ∙ ap (λ x. nat_lt s.at n || x) rest
  by false rest = rest

-- a table with all places tells which names are later
pub later_is : (table : List (Name × ℕ)) (spots : List Spot) → HasPlaces table spots → later_in table ≡ later spots
later_is table spots h = fun_ext (λ s. ap (λ b. at_if b s.at) (ap (λ o. option_map_or (λ x. nat_lt x s.at) o false) (h s.name) ∙ later_by spots s.name s.at))

-- ---- the later of a place and one of some

max_earlier : (n a : ℕ) (o : Option ℕ) → earlier (Some (max n a)) (option_map (max n) o) ≡ option_map (max n) (earlier (Some a) o)
max_earlier n a None = refl
max_earlier n a (Some b) = let e : min (max n a) (max n b) ≡ max n (min a b) = omega arith in ap Some e

-- the first of the later ones
pub first_max : (spots : List Spot) (q : Name) (n : ℕ) → first_place (map (λ d. max n d.at) (filter (same q) spots)) ≡ option_map (max n) (earliest spots q)
first_max [] q n = refl
first_max (s ∷ spots) q n = by (bytes_eq q s.name) (first_max spots q n) where
  by : (b : Bool) → first_place (map (λ d. max n d.at) (filter (same q) spots)) ≡ option_map (max n) (earliest spots q)
      → first_place (map (λ d. max n d.at) (cond b (s ∷ filter (same q) spots) (filter (same q) spots))) ≡ option_map (max n) (first_place (at_if b s.at ++ flat_map (λ t. at_if (bytes_eq q t.name) t.at) spots))
  by true rest = ap (earlier (Some (max n s.at))) rest ∙ max_earlier n s.at (earliest spots q)
  by false rest = rest

-- ---- five lists one behind the other

pub noted_five : (a b c d e : List Spot) (q : Name) (t1 t2 t3 t4 t5 : Option ℕ) → t1 ≡ earlier None (earliest a q) → t2 ≡ earlier t1 (earliest b q) → t3 ≡ earlier t2 (earliest c q) → t4 ≡ earlier t3 (earliest d q)
    → t5 ≡ earlier t4 (earliest e q) → t5 ≡ earliest (a ++ (b ++ (c ++ (d ++ e)))) q
noted_five a b c d e q t1 t2 t3 t4 t5 h1 h2 h3 h4 h5 =
    rw (h5, h4, h3, h2, h1, earliest_append a (b ++ (c ++ (d ++ e))) q, earliest_append b (c ++ (d ++ e)) q, earliest_append c (d ++ e) q, earliest_append d e q)
    (earlier_grouped (earlier (earlier (earliest a q) (earliest b q)) (earliest c q)) (earliest d q) (earliest e q)
    ∙ earlier_grouped (earlier (earliest a q) (earliest b q)) (earliest c q) (earlier (earliest d q) (earliest e q))
    ∙ earlier_grouped (earliest a q) (earliest b q) (earlier (earliest c q) (earlier (earliest d q) (earliest e q))))

pub first_five : (f : Spot → List ℕ) (a b c d e : List Spot) → first_place (flat_map f (a ++ (b ++ (c ++ (d ++ e)))))
    ≡ earlier (first_place (flat_map f a)) (earlier (first_place (flat_map f b)) (earlier (first_place (flat_map f c)) (earlier (first_place (flat_map f d)) (first_place (flat_map f e)))))
first_five f a b c d e =
    let both : (xs ys : List Spot) → first_place (flat_map f (xs ++ ys)) ≡ earlier (first_place (flat_map f xs)) (first_place (flat_map f ys)) = λ xs ys. ap first_place (flat_map-append f xs ys) ∙ first_append (flat_map f xs) (flat_map f ys) in
    rw (both a (b ++ (c ++ (d ++ e))), both b (c ++ (d ++ e)), both c (d ++ e), both d e) refl

-- where a name clashes with one in scope or one of the space
pub clash_first : (spots : List Spot) (q : Name) (b : Bool) (at : ℕ) (in_scope in_space : Option ℕ) → in_scope ≡ first_place (at_if b at) → in_space ≡ option_map (max at) (earliest spots q)
    → earlier in_scope in_space ≡ first_place (at_if b at ++ map (λ d. max at d.at) (filter (same q) spots))
clash_first spots q b at in_scope in_space e f = rw (e, f, first_append (at_if b at) (map (λ d. max at d.at) (filter (same q) spots)), first_max spots q at) refl

-- ---- parameters, one by one

one_by_one_append : (scope : List Name) (xs ys : List Spot) → one_by_one scope (xs ++ ys) ≡ one_by_one scope xs ++ one_by_one (fold with_name scope (names_of xs)) ys
one_by_one_append scope [] ys = refl
one_by_one_append scope (x ∷ xs) ys = ap (λ zs. record { scope = scope; name = x } ∷ zs) (one_by_one_append (with_name scope x.name) xs ys)

-- the scope behind one more, and where it clashes
pub scope_more : (scope here now : List Name) (xs : List Spot) (i : ℕ) (x : Spot) → i < length xs → x ≡ get_or xs i x → here ≡ fold with_name scope (names_of (take i xs)) → now ≡ with_name here x.name
    → now ≡ fold with_name scope (names_of (take (i + 1) xs))
scope_more scope here now xs i x h e before own =
    own ∙ ap (λ s. with_name s x.name) before ∙ sym (folded scope (take i xs) x) ∙ ap (λ ys. fold with_name scope (names_of ys)) (sym (take_more xs i x h ∙ ap (λ y. take i xs ++ y ∷ []) (sym e))) where
      folded : (s : List Name) (ys : List Spot) (y : Spot) → fold with_name s (names_of (ys ++ y ∷ [])) ≡ with_name (fold with_name s (names_of ys)) y.name
      folded s [] y = refl
      folded s (z ∷ zs) y = folded (with_name s z.name) zs y

pub clashes_more : (f : Introduced → List ℕ) (scope here : List Name) (xs : List Spot) (i : ℕ) (x : Spot) (first now : Option ℕ) → i < length xs → x ≡ get_or xs i x → here ≡ fold with_name scope (names_of (take i xs))
    → first ≡ first_place (flat_map f (one_by_one scope (take i xs))) → now ≡ first_place (f (record { scope = here; name = x })) → earlier first now ≡ first_place (flat_map f (one_by_one scope (take (i + 1) xs)))
clashes_more f scope here xs i x first now h e is before own =
    let rows : one_by_one scope (take (i + 1) xs) ≡ one_by_one scope (take i xs) ++ record { scope = here; name = x } ∷ [] =
    ap (one_by_one scope) (take_more xs i x h ∙ ap (λ y. take i xs ++ y ∷ []) (sym e)) ∙ one_by_one_append scope (take i xs) (x ∷ []) ∙ ap (λ s. one_by_one scope (take i xs) ++ record { scope = s; name = x } ∷ []) (sym is) in
    rw (rows, flat_map-append f (one_by_one scope (take i xs)) (record { scope = here; name = x } ∷ []), append-nil (f (record { scope = here; name = x })), first_append (flat_map f (one_by_one scope (take i xs))) (f (record { scope = here; name = x })), before, own) refl
