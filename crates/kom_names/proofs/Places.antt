-- Noted places after one more.
use Rattle.std.proofs.Common.{◌≡◌, Vec, Global, ℕ, min, Bool, true, false, List, [], ◌∷◌, map, Option, Some, None, is_some, if◌then◌else◌, refl, sym, ap, ◌∙◌, bytes_eq}
use Rattle.std.specs.Map.{lookup}
use Rattle.std.proofs.lemmas.Bool.{false≢true}
use Rattle.std.specs.Cmp.Lexicographic.{bytes_decides}
use Rattle.indexmap.specs.IndexMap.{insert_entry}
use Rattle.kom_base.specs.Lists.{either}
use Rattle.kom_rules.specs.Names.{Name, earlier}
use Rattle.kom_names.specs.Found.{place_in}

same_twice : (b : Bool) (v w r : Option ℕ) → (if b then v else r) ≡ (if b then v else (if b then w else r))
same_twice true v w r = refl
same_twice false v w r = refl

one_of_two : (a b : Bool) (v w r s : Option ℕ) → (a ≡ true → b ≡ true → ⊥) → s ≡ (if a then v else r) → (if b then w else s) ≡ (if a then v else (if b then w else r))
one_of_two true true v w r s apart e = absurd (apart refl refl)
one_of_two true false v w r s apart e = e
one_of_two false true v w r s apart e = refl
one_of_two false false v w r s apart e = e

abbrev pub named : {X : Type 0} → (X → Name) → X × ℕ → Name × ℕ
named f e = (f e.0, e.1)

module _ {X : Type 0} (f : X → Name) where
  abbrev same_key : X → X → Bool
  same_key x y = bytes_eq (f x) (f y)

  after_one : (b : Bool) (e : X × ℕ) (es : List (X × ℕ)) (k : X) (v : ℕ) (q : Name) → bytes_eq (f k) (f e.0) ≡ b
      → place_in (map (named f) (insert_entry same_key es k v)) q ≡ (if bytes_eq q (f k) then Some v else place_in (map (named f) es) q)
      → place_in (map (named f) (if b then (e.0, v) ∷ es else e ∷ insert_entry same_key es k v)) q ≡ (if bytes_eq q (f k) then Some v else place_in (map (named f) (e ∷ es)) q)
  after_one true e es k v q h rest =
      let is : f k ≡ f e.0 = (bytes_decides (f k) (f e.0)).0 h in
      rw is (same_twice (bytes_eq q (f e.0)) (Some v) (Some e.1) (place_in (map (named f) es) q))
  after_one false e es k v q h rest =
      one_of_two (bytes_eq q (f k)) (bytes_eq q (f e.0)) (Some v) (Some e.1) (place_in (map (named f) es) q) _
      (λ a b. false≢true (sym h ∙ (bytes_decides (f k) (f e.0)).1 (sym ((bytes_decides q (f k)).0 a) ∙ (bytes_decides q (f e.0)).0 b)))
      rest

  pub place_after : (es : List (X × ℕ)) (k : X) (v : ℕ) (q : Name) → place_in (map (named f) (insert_entry same_key es k v)) q ≡ (if bytes_eq q (f k) then Some v else place_in (map (named f) es) q)
  place_after [] k v q = refl
  place_after (e ∷ es) k v q = after_one (bytes_eq (f k) (f e.0)) e es k v q refl (place_after es k v q)

  pub place_now : (es : List (X × ℕ)) (q : Name) → place_in (map (named f) es) q ≡ lookup (λ k. bytes_eq q (f k)) es
  place_now [] q = refl
  place_now (e ∷ es) q = ap (λ r. if bytes_eq q (f e.0) then Some e.1 else r) (place_now es q)

-- the places after the lesser of an old and a new one was put in the place of the old one
pub noted : (old new : List (Vec ℕ Global × ℕ)) (k : Vec ℕ Global) (v at : ℕ) (n q : Name) → k.items ≡ n
    → new ≡ insert_entry (λ x y. bytes_eq x.items y.items) old k v → Some v ≡ earlier (place_in (map (named (λ x. x.items)) old) n) (Some at)
    → place_in (map (named (λ x. x.items)) new) q ≡ (if bytes_eq q n then earlier (place_in (map (named (λ x. x.items)) old) q) (Some at) else place_in (map (named (λ x. x.items)) old) q)
noted old new k v at n q is made least =
    ap (λ (es : List (Vec ℕ Global × ℕ)). place_in (map (named (λ x. x.items)) es) q) made ∙ place_after (λ x. x.items) old k v q
    ∙ ap (λ (m : Name). if bytes_eq q m then Some v else place_in (map (named (λ x. x.items)) old) q) is
    ∙ by (bytes_eq q n) refl where
      by : (b : Bool) → bytes_eq q n ≡ b → (if b then Some v else place_in (map (named (λ x. x.items)) old) q) ≡ (if b then earlier (place_in (map (named (λ x. x.items)) old) q) (Some at) else place_in (map (named (λ x. x.items)) old) q)
      by true h = least ∙ ap (λ m. earlier (place_in (map (named (λ x. x.items)) old) m) (Some at)) (sym ((bytes_decides q n).0 h))
      by false h = refl

-- what the lesser of two places is
pub lesser_some : (o : Option ℕ) (a v at : ℕ) → o ≡ Some a → v ≡ min a at → Some v ≡ earlier o (Some at)
lesser_some o a v at e m = rw (e, m) refl

pub lesser_none : (o : Option ℕ) (v at : ℕ) → o ≡ None → v ≡ at → Some v ≡ earlier o (Some at)
lesser_none o v at e m = rw (e, m) refl

-- ---- numbers

either_none : (o : Option ℕ) → either o None ≡ o
either_none None = refl
either_none (Some a) = refl

is_none : (o : Option ℕ) → is_some o ≡ false → o ≡ None
is_none None h = refl
is_none (Some a) h = absurd (false≢true (sym h))

-- a name that was not there has its number now
pub numbered_now : (old new : List (Vec ℕ Global × ℕ)) (k : Vec ℕ Global) (v : ℕ) (n q : Name) → k.items ≡ n → is_some (place_in (map (named (λ x. x.items)) old) n) ≡ false
    → new ≡ insert_entry (λ x y. bytes_eq x.items y.items) old k v
    → place_in (map (named (λ x. x.items)) new) q ≡ either (place_in (map (named (λ x. x.items)) old) q) (if bytes_eq q n then Some v else None)
numbered_now old new k v n q is absent made =
    ap (λ (es : List (Vec ℕ Global × ℕ)). place_in (map (named (λ x. x.items)) es) q) made ∙ place_after (λ x. x.items) old k v q
    ∙ ap (λ (m : Name). if bytes_eq q m then Some v else place_in (map (named (λ x. x.items)) old) q) is
    ∙ by (bytes_eq q n) refl where
      by : (b : Bool) → bytes_eq q n ≡ b → (if b then Some v else place_in (map (named (λ x. x.items)) old) q) ≡ either (place_in (map (named (λ x. x.items)) old) q) (if b then Some v else None)
      by true h = ap (λ o. either o (Some v)) (sym (ap (λ m. place_in (map (named (λ x. x.items)) old) m) ((bytes_decides q n).0 h) ∙ is_none _ absent))
      by false h = sym (either_none _)
