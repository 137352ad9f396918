-- Who lies in a slot, by the lines of ancestors.
use Rattle.std.proofs.Common.{◌≡◌, ℕ, zero, suc, ◌+◌, ◌<◌, ◌≤◌, Bool, true, false, not, ◌&&◌, ◌||◌, List, [], ◌∷◌, length, map, Option, Some, None, refl, sym, ap, ◌∙◌, inl, inr, arith, subst, if◌then◌else◌}
use Rattle.std.specs.Prelude.{slice_get, ◌==◌, is_some}
use Rattle.std.specs.List.{list_any}
use Rattle.std.specs.Option.{IsSome, option_map, option_map_or}
use Rattle.std.proofs.lemmas.Option.{slice_get-map, slice_get_within}
use Rattle.std.proofs.lemmas.Bool.Decides.{eqb_tells}
use Rattle.kom_tree.specs.Forest.{Instance, is_alive, is_slot, line_of, line_under, parent_of, occupant, is_under, felled, IsGrown}
use Rattle.kom_state.specs.Parts.{node_seen}
use Rattle.kom_state.specs.Removals.{lies_in}
use Rattle.kom_state.proofs.Keeping.{itself}

pub same_slot : (p s : ℕ) (q : ℕ × ℕ) → is_slot p s q ≡ true → ◌≡◌ {A = ℕ × ℕ} q (p, s)
same_slot p s q h = elim (eqb_tells q.0 p) [
  | inl t ↦ elim (eqb_tells q.1 s) [
    | inl u ↦ ap {B = ℕ × ℕ} (λ z. (z, q.1)) t.1 ∙ ap {B = ℕ × ℕ} (λ z. (p, z)) u.1
    | inr g ↦ absurd (let e : (q.0 == p && q.1 == s) ≡ false = ap (λ b. b && q.1 == s) t.0 ∙ g.0 in cc)
  ]
  | inr f ↦ absurd (let e : (q.0 == p && q.1 == s) ≡ false = ap (λ b. b && q.1 == s) f.0 in cc)
]

pub its_slot : (p s : ℕ) → is_slot p s (p, s) ≡ true
its_slot p s = ap (λ b. b && s == s) (itself p) ∙ itself s

module _ (is : List Instance) (g : IsGrown is) (c slot : ℕ) where
  pub lies_none : (d : ℕ) → parent_of is d ≡ None → lies_in is c slot d ≡ false
  lies_none d e = ap (list_any (is_slot c slot)) (g.lines d ∙ ap (line_under is) e)

  pub lies_some : (d : ℕ) (q : ℕ × ℕ) → parent_of is d ≡ Some q → lies_in is c slot d ≡ (is_slot c slot q || lies_in is c slot q.0)
  lies_some d q e = ap (list_any (is_slot c slot)) (g.lines d ∙ ap (line_under is) e)

  -- where somebody lives below a slot, somebody lives in it
  filled_by : (n d : ℕ) → d < n → is_alive is d ≡ true → lies_in is c slot d ≡ true → IsSome (occupant is c slot)
  filled_by zero d l h k = absurd (omega (arith, l))
  filled_by (suc n) d l h k = at (parent_of is d) refl (filled_by n)
    where
      in_it : (q : ℕ × ℕ) → parent_of is d ≡ Some q → is_slot c slot q ≡ true → IsSome (occupant is c slot)
      in_it q e t =
          let f : ◌≡◌ {A = ℕ × ℕ} q (c, slot) = same_slot c slot q t in
          let o : occupant is c slot ≡ Some d = ap (λ (z : ℕ × ℕ). occupant is z.0 z.1) (sym f) ∙ g.seated d q h e in
          subst IsSome (sym o) refl

      at : (q : Option (ℕ × ℕ)) → parent_of is d ≡ q → ((e : ℕ) → e < n → is_alive is e ≡ true → lies_in is c slot e ≡ true → IsSome (occupant is c slot)) → IsSome (occupant is c slot)
      at None e rest = absurd (let f = lies_none d e in cc)
      at (Some q) e rest = by (is_slot c slot q) refl
        where
          by : (b : Bool) → is_slot c slot q ≡ b → IsSome (occupant is c slot)
          by true t = in_it q e t
          by false f = rest q.0 (omega (arith, g.older d q e, l)) (g.rooted d q h e) (ap (λ b. b || lies_in is c slot q.0) (sym f) ∙ sym (lies_some d q e) ∙ k)

  pub nobody : occupant is c slot ≡ None → (d : ℕ) → is_alive is d ≡ true → lies_in is c slot d ≡ false
  nobody e d h = at (lies_in is c slot d) refl
    where
      at : (b : Bool) → lies_in is c slot d ≡ b → lies_in is c slot d ≡ false
      at true t = absurd (let s = filled_by (suc d) d (omega arith) h t in let f = ap is_some e in cc (s, f))
      at false f = f

  -- the occupant lies in the slot
  pub occupant_lies : (d : ℕ) → occupant is c slot ≡ Some d → lies_in is c slot d ≡ true
  occupant_lies d e = lies_some d (c, slot) (g.sitting c slot d e).1 ∙ ap (λ b. b || lies_in is c slot c) (its_slot c slot)

  -- who lies below one that lies in the slot lies there too
  pub lies_below : (d e s : ℕ) → parent_of is e ≡ Some (d, s) → lies_in is c slot d ≡ true → lies_in is c slot e ≡ true
  lies_below d e s up h = lies_some e (d, s) up ∙ ap (λ b. is_slot c slot (d, s) || b) h ∙ or_true (is_slot c slot (d, s))
    where
      or_true : (b : Bool) → (b || true) ≡ true
      or_true true = refl
      or_true false = refl

module _ (is : List Instance) (g : IsGrown is) (d p s : ℕ) (up : parent_of is d ≡ Some (p, s)) (life : is_alive is d ≡ true) (last : (e : ℕ) → is_alive is e ≡ true → is_under d (parent_of is e) ≡ false) where
  -- nobody else lives in the slot of an instance below which nobody lives, or below
  alone_by : (n e : ℕ) → e < n → is_alive is e ≡ true → lies_in is p s e ≡ true → e ≡ d
  alone_by zero e l h k = absurd (omega (arith, l))
  alone_by (suc n) e l h k = at (parent_of is e) refl (alone_by n)
    where
      at : (q : Option (ℕ × ℕ)) → parent_of is e ≡ q → ((x : ℕ) → x < n → is_alive is x ≡ true → lies_in is p s x ≡ true → x ≡ d) → e ≡ d
      at None f rest = absurd (let z = lies_none is g p s e f in cc)
      at (Some q) f rest = by (is_slot p s q) refl
        where
          by : (b : Bool) → is_slot p s q ≡ b → e ≡ d
          by true t =
              let z : ◌≡◌ {A = ℕ × ℕ} q (p, s) = same_slot p s q t in
              let o : occupant is p s ≡ Some e = ap (λ (z : ℕ × ℕ). occupant is z.0 z.1) (sym z) ∙ g.seated e q h f in
              let r : occupant is p s ≡ Some d = g.seated d (p, s) life up in
              cc
          by false t =
              let x : q.0 ≡ d = rest q.0 (omega (arith, g.older e q f, l)) (g.rooted e q h f) (ap (λ b. b || lies_in is p s q.0) (sym t) ∙ sym (lies_some is g p s e q f) ∙ k) in
              let u : is_under d (parent_of is e) ≡ true = ap (is_under d) f ∙ ap (λ z. z == d) x ∙ itself d in
              absurd (let v = last e h in cc)

  pub alone : (e : ℕ) → is_alive is e ≡ true → lies_in is p s e ≡ true → e ≡ d
  alone e h k = alone_by (suc e) e (omega arith) h k

  lies_itself : lies_in is p s d ≡ true
  lies_itself = lies_some is g p s d (p, s) up ∙ ap (λ b. b || lies_in is p s p) (its_slot p s)

  felled_life : (o : Option Instance) → option_map_or (λ (i : Instance). i.living) (option_map (felled p s) o) false ≡ (option_map_or (λ (i : Instance). i.living) o false && not (list_any (is_slot p s) (option_map_or (λ (i : Instance). i.line) o [])))
  felled_life None = refl
  felled_life (Some i) = refl

  -- only the instance has ended
  pub ended_one : (e : ℕ) → is_alive (map (felled p s) is) e ≡ (is_alive is e && not (e == d))
  ended_one e =
      ap (λ o. option_map_or (λ (i : Instance). i.living) o false) (slice_get-map (felled p s) is e)
      ∙ felled_life (slice_get is e)
      ∙ at (is_alive is e) (lies_in is p s e) refl refl
    where
      at : (a b : Bool) → is_alive is e ≡ a → lies_in is p s e ≡ b → (is_alive is e && not (lies_in is p s e)) ≡ (is_alive is e && not (e == d))
      at false b h k = ap (λ z. z && not (lies_in is p s e)) h ∙ sym (ap (λ z. z && not (e == d)) h)
      at true true h k = ap (λ z. is_alive is e && not z) k ∙ sym (ap (λ z. is_alive is e && not z) (ap (λ z. z == d) (alone e h k) ∙ itself d))
      at true false h k = elim (eqb_tells e d) [
        | inl t ↦ absurd (let z = ap (lies_in is p s) t.1 in let y = lies_itself in cc)
        | inr f ↦ ap (λ z. is_alive is e && not z) k ∙ sym (ap (λ z. is_alive is e && not z) f.0)
      ]

felled_line : (p s : ℕ) (o : Option Instance) → option_map_or (λ (i : Instance). i.line) (option_map (felled p s) o) [] ≡ option_map_or (λ (i : Instance). i.line) o []
felled_line p s None = refl
felled_line p s (Some i) = refl

pub same_lines : (p s : ℕ) (is : List Instance) (e : ℕ) → line_of (map (felled p s) is) e ≡ line_of is e
same_lines p s is e = ap (λ o. option_map_or (λ (i : Instance). i.line) o []) (slice_get-map (felled p s) is e) ∙ felled_line p s (slice_get is e)

pub same_nodes : (p s : ℕ) (is : List Instance) → map node_seen (map (felled p s) is) ≡ map node_seen is
same_nodes p s [] = refl
same_nodes p s (i ∷ is) = ap (λ ns. node_seen i ∷ ns) (same_nodes p s is)

-- who lives was made
pub alive_within : (is : List Instance) (d : ℕ) → is_alive is d ≡ true → d < length is
alive_within is d h = at (slice_get is d) refl h
  where
    at : (o : Option Instance) → slice_get is d ≡ o → option_map_or (λ (i : Instance). i.living) o false ≡ true → d < length is
    at None e h = absurd (cc)
    at (Some i) e h = slice_get_within is d i e

pub older_child : (is : List Instance) → IsGrown is → (p c : ℕ) → is_under p (parent_of is c) ≡ true → p < c
older_child is g p c h = at (parent_of is c) refl h
  where
    at : (o : Option (ℕ × ℕ)) → parent_of is c ≡ o → is_under p o ≡ true → p < c
    at None e h = absurd (cc)
    at (Some q) e h = elim (eqb_tells q.0 p) [
      | inl t ↦ omega (arith, g.older c q e, t.1)
      | inr f ↦ absurd (let z = f.0 in cc)
    ]

-- how many live
abbrev pub living_count : List Instance → ℕ
living_count [] = 0
living_count (i ∷ is) = (if i.living then 1 else 0) + living_count is

count_head : (a b : Bool) → (b ≡ true → a ≡ true) → (if b then 1 else 0) ≤ (if a then 1 else 0)
count_head true true h = omega arith
count_head true false h = omega arith
count_head false true h = absurd (let z = h refl in cc)
count_head false false h = omega arith

no_more : (is js : List Instance) → ((e : ℕ) → is_alive js e ≡ true → is_alive is e ≡ true) → living_count js ≤ living_count is
no_more is [] h = omega arith
no_more [] (j ∷ js) h = head j.living refl (no_more [] js (λ e k. absurd (let z = h (suc e) k in cc)))
  where
    head : (b : Bool) → j.living ≡ b → living_count js ≤ 0 → (if j.living then 1 else 0) + living_count js ≤ 0
    head true e rest = absurd (let z = h 0 e in cc)
    head false e rest = omega (arith, rest, ap {B = ℕ} (λ b. if b then 1 else 0) e)
no_more (i ∷ is) (j ∷ js) h = omega (arith, count_head i.living j.living (h 0), no_more is js (λ e k. h (suc e) k))

pub fewer_live : (is js : List Instance) (d : ℕ) → ((e : ℕ) → is_alive js e ≡ true → is_alive is e ≡ true) → is_alive is d ≡ true → is_alive js d ≡ false → living_count js < living_count is
fewer_live [] js d h k l = absurd (cc)
fewer_live (i ∷ is) [] zero h k l = omega (arith, ap {B = ℕ} (λ b. if b then 1 else 0) k)
fewer_live (i ∷ is) [] (suc d) h k l = let r = fewer_live is [] d (λ e z. absurd (cc)) k refl in omega (arith, r)
fewer_live (i ∷ is) (j ∷ js) zero h k l = omega (arith, ap {B = ℕ} (λ b. if b then 1 else 0) k, ap {B = ℕ} (λ b. if b then 1 else 0) l, no_more is js (λ e z. h (suc e) z))
fewer_live (i ∷ is) (j ∷ js) (suc d) h k l = omega (arith, count_head i.living j.living (h 0), fewer_live is js d (λ e z. h (suc e) z) k l)
