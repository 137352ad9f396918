-- What the view of a tree says of its parts.
use Rattle.std.proofs.Common.{◌≡◌, ℕ, zero, suc, ◌+◌, ◌<◌, ◌≤◌, Bool, true, false, cond, ◌&&◌, eqb, ltb, List, [], ◌∷◌, ◌++◌, length, get_or, Option, Some, None, refl, sym, ap, ◌∙◌, subst, arith, length-append}
use Rattle.std.specs.List.{slice_get, fold, position_or_len}
use Rattle.std.specs.Option.{option_map, option_map_or, option_and_then, unwrap_or, IfSome, IsNone}
use Rattle.std.specs.Prelude.{◌↔◌}
use Rattle.std.proofs.lemmas.Option.{slice_get_past, unwrap_or-slice_get}
use Rattle.std.proofs.lemmas.List.Sums.{position_or_len_is, fold-append}
use Rattle.std.proofs.lemmas.List.Quantifiers.{position-Some}
use Rattle.std.proofs.lemmas.Bool.{lt-ltb, le-ltb, eqb-true, eq-eqb}
use Rattle.kom_base.specs.Lists.{first}
use Rattle.kom_tree.specs.declared.family.Origin.{Origin}
use Rattle.kom_tree.specs.Forest.{Instance, line_of, parent_of, is_alive, is_slot, hangs_in, occupant, line_under, IsGrown}
use Rattle.kom_tree.specs.Parts.{parent_at, lives, sits, grown, made, marked, IsForest, IsSitter}

pub past : {X : Type 0} (xs : List X) (k : ℕ) → slice_get xs k ≡ None → length xs ≤ k
past [] k e = omega arith
past (x ∷ xs) zero e = absurd (cc)
past (x ∷ xs) (suc k) e = omega (arith, past xs k e)

pub slice_get-append_left : {X : Type 0} (xs ys : List X) (k : ℕ) → k < length xs → slice_get (xs ++ ys) k ≡ slice_get xs k
slice_get-append_left [] ys k h = absurd (omega arith)
slice_get-append_left (x ∷ xs) ys zero h = refl
slice_get-append_left (x ∷ xs) ys (suc k) h = slice_get-append_left xs ys k (omega arith)

pub slice_get-append_right : {X : Type 0} (xs ys : List X) (k : ℕ) → slice_get (xs ++ ys) (length xs + k) ≡ slice_get ys k
slice_get-append_right [] ys k = ap (slice_get ys) (omega arith)
slice_get-append_right (x ∷ xs) ys k = let e : suc (length xs) + k ≡ suc (length xs + k) = omega arith in rw e (slice_get-append_right xs ys k)

pub both_left : (a b : Bool) → (a && b) ≡ true → a ≡ true
both_left true b e = refl
both_left false b e = e

pub both_right : (a b : Bool) → (a && b) ≡ true → b ≡ true
both_right true b e = e
both_right false b e = absurd (cc)

pub not_true : (b : Bool) → (b ≡ true → ⊥) → b ≡ false
not_true true n = absurd (n refl)
not_true false n = refl

-- an answer of `is_slot` names the slot
pub in_slot : (p s : ℕ) (q : Option (ℕ × ℕ)) → hangs_in p s q ≡ true → q ≡ Some (p, s)
in_slot p s None h = absurd (cc)
in_slot p s (Some q) h =
    let e : q.0 ≡ p = eqb-true q.0 p (both_left _ _ h) in
    let g : q.1 ≡ s = eqb-true q.1 s (both_right _ _ h) in
    ap (λ n. Some (n, q.1)) e ∙ ap (λ n. Some (p, n)) g

pub slot_in : (p s : ℕ) → hangs_in p s (Some (p, s)) ≡ true
slot_in p s = ap (λ b. b && eqb s s) (eq-eqb p p refl) ∙ eq-eqb s s refl

pub lives_within : (bs : List Bool) (c : ℕ) → lives bs c ≡ true → c < length bs
lives_within [] c e = absurd (cc)
lives_within (b ∷ bs) zero e = omega arith
lives_within (b ∷ bs) (suc c) e = omega (arith, lives_within bs c e)

-- ---- the lines

length-grown : (acc : List Instance) (o : Origin) → length (grown acc o) ≡ length acc + 1
length-grown acc o = length-append acc _

line_keeps : (acc : List Instance) (os : List Origin) (j : ℕ) → j < length acc → slice_get (fold grown acc os) j ≡ slice_get acc j
line_keeps acc [] j h = refl
line_keeps acc (o ∷ os) j h = line_keeps (grown acc o) os j (omega (arith, length-grown acc o)) ∙ slice_get-append_left acc _ j h

same_line : (is js : List Instance) (q : Option (ℕ × ℕ)) → ((p : ℕ × ℕ) → q ≡ Some p → slice_get is p.0 ≡ slice_get js p.0) → line_under is q ≡ line_under js q
same_line is js None same = refl
same_line is js (Some p) same = ap (λ g. p ∷ option_map_or (λ (i : Instance). i.line) g []) (same p refl)

length-made_from : (acc : List Instance) (os : List Origin) → length (fold grown acc os) ≡ length acc + length os
length-made_from acc [] = omega arith
length-made_from acc (o ∷ os) = length-made_from (grown acc o) os ∙ omega (arith, length-grown acc o)

line_at : (acc : List Instance) (os : List Origin) (k : ℕ) (o : Origin) → slice_get os k ≡ Some o
    → ((q : ℕ × ℕ) → o.parent ≡ Some q → q.0 < length acc + k)
    → slice_get (fold grown acc os) (length acc + k) ≡ Some (record { kind = o.kind; line = line_under (fold grown acc os) o.parent; living = true })
line_at acc [] k o is older = absurd (cc)
line_at acc (p ∷ os) zero o is older =
    let at : slice_get (fold grown (grown acc p) os) (length acc + 0) ≡ slice_get (grown acc p) (length acc + 0) = line_keeps (grown acc p) os (length acc + 0) (omega (arith, length-grown acc p)) in
    let same : p ≡ o = cc in
    let under : line_under acc o.parent ≡ line_under (fold grown (grown acc p) os) o.parent =
    same_line acc _ o.parent (λ q e. let lt : q.0 < length acc = omega (arith, older q e) in sym (line_keeps (grown acc p) os q.0 (omega (arith, length-grown acc p)) ∙ slice_get-append_left acc _ q.0 lt)) in
    at ∙ slice_get-append_right acc _ 0 ∙ ap (λ (x : Origin). Some (record { kind = x.kind; line = line_under acc x.parent; living = true })) same ∙ ap (λ l. Some (record { kind = o.kind; line = l; living = true })) under
line_at acc (p ∷ os) (suc k) o is older =
    let e : length (grown acc p) + k ≡ length acc + suc k = omega (arith, length-grown acc p) in
    subst (λ n. slice_get (fold grown (grown acc p) os) n ≡ Some (record { kind = o.kind; line = line_under (fold grown (grown acc p) os) o.parent; living = true })) e
    (line_at (grown acc p) os k o is (λ q f. omega (arith, older q f, length-grown acc p)))

pub length-made : (os : List Origin) → length (made os) ≡ length os
length-made os = length-made_from [] os ∙ omega arith

pub made_more : (os : List Origin) (o : Origin) → made (os ++ o ∷ []) ≡ grown (made os) o
made_more os o = fold-append grown [] os (o ∷ [])

-- ---- the marks

pub marked_at : (is : List Instance) (bs : List Bool) (c : ℕ) → length bs ≡ length is
    → slice_get (marked is bs) c ≡ option_map (λ (i : Instance). record i { living = lives bs c }) (slice_get is c)
marked_at [] bs c e = refl
marked_at (i ∷ is) [] c e = absurd (omega arith)
marked_at (i ∷ is) (b ∷ bs) zero e = refl
marked_at (i ∷ is) (b ∷ bs) (suc c) e = marked_at is bs c (omega arith)

pub length-marked : (is : List Instance) (bs : List Bool) → length bs ≡ length is → length (marked is bs) ≡ length is
length-marked [] bs e = refl
length-marked (i ∷ is) [] e = absurd (omega arith)
length-marked (i ∷ is) (b ∷ bs) e = ap suc (length-marked is bs (omega arith))

pub marked_more : (is : List Instance) (bs : List Bool) (i : Instance) (b : Bool) → length bs ≡ length is → marked (is ++ i ∷ []) (bs ++ b ∷ []) ≡ marked is bs ++ record i { living = b } ∷ []
marked_more [] [] i b e = refl
marked_more [] (c ∷ bs) i b e = absurd (omega arith)
marked_more (j ∷ is) [] i b e = absurd (omega arith)
marked_more (j ∷ is) (c ∷ bs) i b e = ap (λ l. record j { living = c } ∷ l) (marked_more is bs i b (omega arith))

pub line_of-marked : (is : List Instance) (bs : List Bool) (c : ℕ) → length bs ≡ length is → line_of (marked is bs) c ≡ line_of is c
line_of-marked is bs c e = ap (λ g. option_map_or (λ (i : Instance). i.line) g []) (marked_at is bs c e) ∙ inner (slice_get is c)
  where
    inner : (g : Option Instance) → option_map_or (λ (i : Instance). i.line) (option_map (λ (i : Instance). record i { living = lives bs c }) g) [] ≡ option_map_or (λ (i : Instance). i.line) g []
    inner None = refl
    inner (Some i) = refl

pub line_under-marked : (is : List Instance) (bs : List Bool) (q : Option (ℕ × ℕ)) → length bs ≡ length is → line_under (marked is bs) q ≡ line_under is q
line_under-marked is bs None e = refl
line_under-marked is bs (Some q) e = ap (λ l. q ∷ l) (line_of-marked is bs q.0 e)

-- ---- the whole view

module _ (os : List Origin) (bs : List Bool) (f : IsForest os bs) where
  abbrev pub all : List Instance
  all = marked (made os) bs

  pub same_length : length bs ≡ length (made os)
  same_length = f.marks ∙ sym (length-made os)

  pub length-all : length all ≡ length os
  length-all = length-marked (made os) bs same_length ∙ length-made os

  pub seen_at : (c : ℕ) (o : Origin) → slice_get os c ≡ Some o → slice_get all c ≡ Some (record { kind = o.kind; line = line_under all o.parent; living = lives bs c })
  seen_at c o is =
      let older : (q : ℕ × ℕ) → o.parent ≡ Some q → q.0 < length (let none : List Instance = [] in none) + c = λ q e. omega (arith, f.older c q (ap (option_and_then (λ (x : Origin). x.parent)) is ∙ e)) in
      let at = line_at [] os c o is older in
      let e : 0 + c ≡ c = omega arith in
      let here : slice_get (made os) c ≡ Some (record { kind = o.kind; line = line_under (made os) o.parent; living = true }) = subst (λ n. slice_get (made os) n ≡ Some (record { kind = o.kind; line = line_under (made os) o.parent; living = true })) e at in
      marked_at (made os) bs c same_length ∙ ap (option_map (λ (i : Instance). record i { living = lives bs c })) here ∙ ap (λ l. Some (record { kind = o.kind; line = l; living = lives bs c })) (sym (line_under-marked (made os) bs o.parent same_length))

  pub none_at : (c : ℕ) → slice_get os c ≡ None → slice_get all c ≡ None
  none_at c is = marked_at (made os) bs c same_length ∙ ap (option_map (λ (i : Instance). record i { living = lives bs c })) (slice_get_past (made os) c (omega (arith, length-made os, past os c is)))

  pub line_is : (c : ℕ) → line_of all c ≡ line_under all (parent_at os c)
  line_is c = go (slice_get os c) refl
    where
      go : (g : Option Origin) → slice_get os c ≡ g → line_of all c ≡ line_under all (parent_at os c)
      go None e = ap (λ g. option_map_or (λ (i : Instance). i.line) g []) (none_at c e) ∙ ap (λ g. line_under all (option_and_then (λ (o : Origin). o.parent) g)) (sym e)
      go (Some o) e = ap (λ g. option_map_or (λ (i : Instance). i.line) g []) (seen_at c o e) ∙ ap (λ g. line_under all (option_and_then (λ (o : Origin). o.parent) g)) (sym e)

  pub parent_is : (c : ℕ) → parent_of all c ≡ parent_at os c
  parent_is c = ap first (line_is c) ∙ first_of (parent_at os c)
    where
      first_of : (q : Option (ℕ × ℕ)) → first (line_under all q) ≡ q
      first_of None = refl
      first_of (Some q) = refl

  pub alive_is : (c : ℕ) → is_alive all c ≡ lives bs c
  alive_is c = go (slice_get os c) refl
    where
      go : (g : Option Origin) → slice_get os c ≡ g → is_alive all c ≡ lives bs c
      go None e = ap (λ g. option_map_or (λ (i : Instance). i.living) g false) (none_at c e) ∙ sym (ap (λ g. unwrap_or g false) (slice_get_past bs c (omega (arith, f.marks, past os c e))))
      go (Some o) e = ap (λ g. option_map_or (λ (i : Instance). i.living) g false) (seen_at c o e)

  -- ---- who sits in a slot

  abbrev tested : ℕ → ℕ → Instance → Bool
  tested p s i = i.living && option_map_or (is_slot p s) (first i.line) false

  no_one : Instance
  no_one = record { kind = 0; line = []; living = false }

  test_at : (p s c : ℕ) → tested p s (get_or all c no_one) ≡ sits os bs p s c
  unfolding no_one
  test_at p s c =
      ap (tested p s) (sym (unwrap_or-slice_get all c no_one)) ∙ go (slice_get all c) refl
    where
      go : (g : Option Instance) → slice_get all c ≡ g → tested p s (unwrap_or g no_one) ≡ sits os bs p s c
      go None e = let dead : lives bs c ≡ false = sym (alive_is c) ∙ ap (λ g. option_map_or (λ (i : Instance). i.living) g false) e in sym (ap (λ b. b && option_map_or (is_slot p s) (parent_at os c) false) dead)
      go (Some i) e =
          let life : i.living ≡ lives bs c = sym (ap (λ g. option_map_or (λ (i : Instance). i.living) g false) e) ∙ alive_is c in
          let up : first i.line ≡ parent_at os c = sym (ap (λ g. first (option_map_or (λ (i : Instance). i.line) g [])) e) ∙ parent_is c in
          ap (λ b. b && option_map_or (is_slot p s) (first i.line) false) life ∙ ap (λ q. lives bs c && option_map_or (is_slot p s) q false) up

  pub occupant_some : (p s x : ℕ) → sits os bs p s x ≡ true → ((k : ℕ) → k < x → sits os bs p s k ≡ false) → occupant all p s ≡ Some x
  occupant_some p s x here before =
      let within : x < length all = omega (arith, length-all, f.marks, lives_within bs x (both_left _ _ here)) in
      let at : position_or_len (tested p s) all ≡ x = position_or_len_is (tested p s) all x no_one (omega arith) (λ k h. test_at p s k ∙ before k h) (λ h. test_at p s x ∙ here) in
      ap (λ n. cond (ltb n (length all)) (Some n) None) at ∙ ap (λ b. cond b (Some x) None) (lt-ltb x (length all) within)

  pub occupant_none : (p s : ℕ) → ((k : ℕ) → sits os bs p s k ≡ false) → occupant all p s ≡ None
  occupant_none p s none =
      let at : position_or_len (tested p s) all ≡ length all = position_or_len_is (tested p s) all (length all) no_one (omega arith) (λ k h. test_at p s k ∙ none k) (λ h. absurd (omega arith)) in
      ap (λ n. cond (ltb n (length all)) (Some n) None) at ∙ ap (λ b. cond b (Some (length all)) None) (le-ltb (length all) (length all) (omega arith))

  pub occupant_sits : (p s x : ℕ) → occupant all p s ≡ Some x → sits os bs p s x ≡ true
  occupant_sits p s x e = sym (test_at p s x) ∙ (position-Some (tested p s) all x no_one e).1

  -- a slot holds one
  pub sits_alone : (p s c d : ℕ) → sits os bs p s c ≡ true → sits os bs p s d ≡ true → c ≡ d
  sits_alone p s c d h g = f.alone c d (p, s) (both_left _ _ h) (both_left _ _ g) (in_slot p s (parent_at os c) (both_right _ _ h)) (in_slot p s (parent_at os d) (both_right _ _ g))

  pub sitter_is : (p s : ℕ) (o : Option ℕ) → IsSitter os bs p s o → occupant all p s ≡ o
  sitter_is p s None none = occupant_none p s none
  sitter_is p s (Some x) here = occupant_some p s x here (λ k less. not_true _ (λ e. absurd (omega (arith, sits_alone p s k x e here))))

  pub sitter_made : (p s : ℕ) (o : Option ℕ) → IsSitter os bs p s o → IfSome o (λ d. (d < length all) × (is_alive all d ≡ true) × (parent_of all d ≡ Some (p, s)))
  sitter_made p s None h = tt
  sitter_made p s (Some d) h = (omega (arith, length-all, f.marks, lives_within bs d (both_left _ _ h)), alive_is d ∙ both_left _ _ h, parent_is d ∙ in_slot p s (parent_at os d) (both_right (lives bs d) _ h))

  -- only the first has no parent
  pub root_is : (c : ℕ) → c < length os → IsNone (parent_at os c) ↔ (c ≡ 0)
  root_is c h = (λ n. f.hung c h (none (parent_at os c) n), λ e. subst IsNone (sym (ap (parent_at os) e ∙ f.root)) refl)
    where
      none : (q : Option (ℕ × ℕ)) → IsNone q → q ≡ None
      none None n = refl
      none (Some q) n = absurd (cc)

  pub parent_older : (c : ℕ) → IfSome (parent_at os c) (λ q. q.0 < c)
  parent_older c = at (parent_at os c) refl
    where
      at : (q : Option (ℕ × ℕ)) → parent_at os c ≡ q → IfSome q (λ q. q.0 < c)
      at None e = tt
      at (Some q) e = f.older c q e

  pub parent_living : (c : ℕ) → is_alive all c ≡ true → IfSome (parent_at os c) (λ q. is_alive all q.0 ≡ true)
  parent_living c h = at (parent_at os c) refl
    where
      at : (q : Option (ℕ × ℕ)) → parent_at os c ≡ q → IfSome q (λ q. is_alive all q.0 ≡ true)
      at None e = tt
      at (Some q) e = alive_is q.0 ∙ f.rooted c q (sym (alive_is c) ∙ h) e

  -- a living instance sits in its slot
  sits_up : (c : ℕ) (q : ℕ × ℕ) → is_alive all c ≡ true → parent_of all c ≡ Some q → sits os bs q.0 q.1 c ≡ true
  sits_up c q h e =
      ap (λ b. b && hangs_in q.0 q.1 (parent_at os c)) (sym (alive_is c) ∙ h)
      ∙ ap (hangs_in q.0 q.1) (sym (parent_is c) ∙ e) ∙ slot_in q.0 q.1

  pub is_grown : IsGrown all
  is_grown = record {
    lines = λ c. line_is c ∙ ap (line_under all) (sym (parent_is c));
    older = λ c q e. f.older c q (sym (parent_is c) ∙ e);
    rooted = λ c q h e. alive_is q.0 ∙ f.rooted c q (sym (alive_is c) ∙ h) (sym (parent_is c) ∙ e);
    seated = λ c q h e. sitter_is q.0 q.1 (Some c) (sits_up c q h e);
    sitting = λ p s c e.
        let here = occupant_sits p s c e in
        (alive_is c ∙ both_left _ _ here, parent_is c ∙ in_slot p s (parent_at os c) (both_right (lives bs c) _ here));
  }
