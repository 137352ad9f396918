-- Who is below whom, and how many.
use Rattle.std.proofs.Common.{◌≡◌, ℕ, zero, suc, ◌+◌, ◌<◌, ◌≤◌, Bool, true, false, if◌then◌else◌, ◌&&◌, ◌||◌, ◌==◌, refl, sym, ap, ◌∙◌, subst, List, [], ◌∷◌, length, Option, Some, None, inl, inr, ◌⊎◌, eq-eqb, arith}
use Rattle.std.specs.Prelude.{is_some, min, nat_lt, slice_get}
use Rattle.std.specs.Option.{option_and_then, option_map, option_map_or}
use Rattle.std.specs.List.{list_any}
use Rattle.std.proofs.lemmas.Bool.Decides.{eqb_tells}
use Rattle.std.proofs.lemmas.Bool.{eqb-true, lt-ltb, ltb-true}
use Rattle.kom_lives.proofs.Lives.{both, both_of}
use Rattle.kom_laws.proofs.Members.{Some-injective}
use Rattle.kom_base.specs.declared.numbers.Dir.{Dir}
use Rattle.kom_base.specs.declared.numbers.Half.{Half}
use Rattle.kom_base.specs.Lists.{first}
use Rattle.kom_base.specs.Numbers.{opposite}
use Rattle.kom_lang.specs.declared.body.Body.{Body}
use Rattle.kom_marks.specs.Marking.{IsMarked}
use Rattle.kom_numbers.specs.Numbering.{wire_at}
use Rattle.kom_refine.specs.Firsts.{front_for}
use Rattle.kom_refine.specs.Points.{receiver_of}
use Rattle.kom_refine.specs.States.{ControlRow, Link, Node, Queue, State, end_of}
use Rattle.kom_state.specs.Removals.{dies_with}
use Rattle.kom_wakes.specs.Laws.{RemovalsLeave}
use Rattle.kom_wakes.specs.Work.{HasSameWork, IsNotReceiver}
use Rattle.kom_changes.specs.Ends.{ChildrenAreInSlots, EndsAreOwn, end_at}
use Rattle.kom_changes.proofs.Created.{own_channel}
use Rattle.kom_changes.proofs.Relinked.{not_receiver}
use Rattle.kom_refine.specs.Steps.{IsRemoved, is_below}
use Rattle.kom_state.specs.Facts.{HoldsTogether, is_of_living}
use Rattle.kom_state.specs.Parts.{Parts, state_of}
use Rattle.kom_state.specs.Readings.{ancestry_at}
use Rattle.kom_comps.specs.Members.{Members, has}
use Rattle.kom_state.proofs.Keeping.{flip}
use Rattle.kom_changes.specs.Below.{count_under, how_many, lives_below, lives_in, lives_in_first}

pub is_slot : ℕ → ℕ → ℕ × ℕ → Bool
is_slot d s q = d == q.0 && s == q.1

pub slot_test : (d s a b : ℕ) → is_slot d s (a, b) ≡ (d == a && s == b)
unfolding is_slot
slot_test d s a b = refl

-- ---- tests

pub or_left : (a b : Bool) → a ≡ true → (a || b) ≡ true
or_left true b e = refl
or_left false b e = absurd cc

pub or_right : (a b : Bool) → b ≡ true → (a || b) ≡ true
or_right true b e = refl
or_right false b e = e

pub either_of : (a b : Bool) → (a || b) ≡ true → (a ≡ true) ⊎ (b ≡ true)
either_of true b e = inl refl
either_of false b e = inr e

pub same_tests : (a b : Bool) → (a ≡ true → b ≡ true) → (b ≡ true → a ≡ true) → a ≡ b
same_tests true b f g = sym (f refl)
same_tests false true f g = g refl
same_tests false false f g = refl

pub not_both : (b : Bool) → b ≡ true → b ≡ false → ⊥
not_both b e f = let z : true ≡ false = sym e ∙ f in absurd cc

pub isnt_true : (b : Bool) → (b ≡ true → ⊥) → b ≡ false
isnt_true true f = absurd (f refl)
isnt_true false f = refl

-- ---- lines of ancestors

module _ (v : Parts) (h : HoldsTogether v) where
  abbrev m : State
  m = state_of v

  abbrev line : ℕ → List (ℕ × ℕ)
  line e = ancestry_at m e

  -- an ancestor is older
  pub older : (ls : List (ℕ × ℕ)) (d e : ℕ) → line e ≡ ls → list_any (λ (q : ℕ × ℕ). d == q.0) ls ≡ true → d < e
  older [] d e q t = absurd cc
  older (a ∷ ls) d e q t =
      let l = h.lines a.0 a.1 e ls q in
      elim (either_of (d == a.0) (list_any (λ (q : ℕ × ℕ). d == q.0) ls) t) [
        | inl x ↦ (let y = eqb-true d a.0 x in let z = l.0 in omega (arith, y, z))
        | inr x ↦ (let y = older ls d a.0 (sym l.1) x in let z = l.0 in omega (arith, y, z))
      ]

  any_slot : (ls : List (ℕ × ℕ)) (d s : ℕ) → list_any (is_slot d s) ls ≡ true → list_any (λ (q : ℕ × ℕ). d == q.0) ls ≡ true
  unfolding is_slot
  any_slot [] d s t = absurd cc
  any_slot (a ∷ ls) d s t = elim (either_of (is_slot d s a) (list_any (is_slot d s) ls) t) [
    | inl x ↦ or_left (d == a.0) (list_any (λ (q : ℕ × ℕ). d == q.0) ls) (both (d == a.0) (s == a.1) x).0
    | inr x ↦ or_right (d == a.0) (list_any (λ (q : ℕ × ℕ). d == q.0) ls) (any_slot ls d s x)
  ]

  pub slot_older : (d s e : ℕ) → list_any (is_slot d s) (line e) ≡ true → d < e
  slot_older d s e t = older (line e) d e refl (any_slot (line e) d s t)

  -- whoever lives has a living parent
  parent_lives : (e p t : ℕ) (rest : List (ℕ × ℕ)) → m.living e ≡ true → line e ≡ (p, t) ∷ rest → m.living p ≡ true
  parent_lives e p t rest a q = go (m.living p) refl
    where
      go : (b : Bool) → m.living p ≡ b → m.living p ≡ true
      go true x = x
      go false x = absurd (let y : Some e ≡ None = sym (h.seated p t e rest a q) ∙ h.childless p t x in cc)

  -- e lives, and has the ancestor d with its slot s: then somebody is in the slot, who is e or above it
  pub under_child : (ls : List (ℕ × ℕ)) (d s e : ℕ) → line e ≡ ls → m.living e ≡ true → list_any (is_slot d s) ls ≡ true
      → (q : ℕ) × (m.child d s ≡ Some q) × ((q == e || list_any (λ (z : ℕ × ℕ). q == z.0) ls) ≡ true)
  unfolding is_slot
  under_child [] d s e l a t = absurd cc
  under_child (p ∷ ls) d s e l a t = elim (either_of (is_slot d s p) (list_any (is_slot d s) ls) t) [
    | inl x ↦ (
        let b = both (d == p.0) (s == p.1) x in
        let sat = h.seated p.0 p.1 e ls a l in
        (e, ap (λ z. m.child z s) (eqb-true d p.0 b.0) ∙ ap (m.child p.0) (eqb-true s p.1 b.1) ∙ sat, or_left (e == e) (list_any (λ (z : ℕ × ℕ). e == z.0) (p ∷ ls)) (eq-eqb e e refl)))
    | inr x ↦ (
        let up = h.lines p.0 p.1 e ls l in
        let r = under_child ls d s p.0 (sym up.1) (parent_lives e p.0 p.1 ls a l) x in
        (r.0, r.1, or_right (r.0 == e) (list_any (λ (z : ℕ × ℕ). r.0 == z.0) (p ∷ ls)) r.2))
  ]

  -- whoever is below q, which is in slot s of d, has that slot above
  pub child_under : (ls : List (ℕ × ℕ)) (d s q e : ℕ) → line e ≡ ls → m.child d s ≡ Some q → (q == e || list_any (λ (z : ℕ × ℕ). q == z.0) ls) ≡ true → list_any (is_slot d s) ls ≡ true
  unfolding is_slot
  child_under ls d s q e l c t = elim (either_of (q == e) (list_any (λ (z : ℕ × ℕ). q == z.0) ls) t) [
    | inl x ↦ (
        let o = h.occupant d s q c in
        let here : ls ≡ (d, s) ∷ o.1.0 = sym l ∙ ap line (sym (eqb-true q e x)) ∙ o.1.1 in
        subst (λ z. list_any (is_slot d s) z ≡ true) (sym here) (or_left (is_slot d s (d, s)) (list_any (is_slot d s) o.1.0) (both_of (d == d) (s == s) (eq-eqb d d refl) (eq-eqb s s refl))))
    | inr x ↦ above ls e l x
  ]
    where
      above : (ls : List (ℕ × ℕ)) (e : ℕ) → line e ≡ ls → list_any (λ (z : ℕ × ℕ). q == z.0) ls ≡ true → list_any (is_slot d s) ls ≡ true
      above [] e l x = absurd cc
      above (p ∷ ls) e l x =
          let up = h.lines p.0 p.1 e ls l in
          or_right (is_slot d s p) (list_any (is_slot d s) ls)
          (elim (either_of (q == p.0) (list_any (λ (z : ℕ × ℕ). q == z.0) ls) x) [
            | inl y ↦ (
                let o = h.occupant d s q c in
                let here : ls ≡ (d, s) ∷ o.1.0 = up.1 ∙ ap line (sym (eqb-true q p.0 y)) ∙ o.1.1 in
                subst (λ z. list_any (is_slot d s) z ≡ true) (sym here) (or_left (is_slot d s (d, s)) (list_any (is_slot d s) o.1.0) (both_of (d == d) (s == s) (eq-eqb d d refl) (eq-eqb s s refl))))
            | inr y ↦ above ls p.0 (sym up.1) y
          ])

  -- an ancestor has one slot in a line
  pub one_slot : (ls : List (ℕ × ℕ)) (d s t e : ℕ) → line e ≡ ls → list_any (is_slot d s) ls ≡ true → list_any (is_slot d t) ls ≡ true → s ≡ t
  unfolding is_slot
  one_slot [] d s t e l x y = absurd cc
  one_slot (p ∷ ls) d s t e l x y =
      let up = h.lines p.0 p.1 e ls l in
      elim (either_of (is_slot d s p) (list_any (is_slot d s) ls) x) [
        | inl f ↦ elim (either_of (is_slot d t p) (list_any (is_slot d t) ls) y) [
          | inl g ↦ eqb-true s p.1 (both (d == p.0) (s == p.1) f).1 ∙ sym (eqb-true t p.1 (both (d == p.0) (t == p.1) g).1)
          | inr g ↦ absurd (let a = eqb-true d p.0 (both (d == p.0) (s == p.1) f).0 in let b = older ls d p.0 (sym up.1) (any_slot ls d t g) in omega (arith, a, b))
        ]
        | inr f ↦ elim (either_of (is_slot d t p) (list_any (is_slot d t) ls) y) [
          | inl g ↦ absurd (let a = eqb-true d p.0 (both (d == p.0) (t == p.1) g).0 in let b = older ls d p.0 (sym up.1) (any_slot ls d s f) in omega (arith, a, b))
          | inr g ↦ one_slot ls d s t p.0 (sym up.1) f g
        ]
      ]

  pub below_by : (d s e : ℕ) → is_below m d s e ≡ list_any (is_slot d s) (line e)
  unfolding is_slot
  below_by d s e = go (slice_get m.nodes e)
    where
      go : (o : Option Node) → option_map_or (λ node. list_any (λ q. d == q.0 && s == q.1) node.ancestry) o false ≡ list_any (λ q. d == q.0 && s == q.1) (option_map_or (λ n. n.ancestry) o [])
      go None = refl
      go (Some n) = refl

  -- who lives in a slot or below is in the tree of whoever is in the slot
  pub below_is_in : (d s q e : ℕ) → m.child d s ≡ Some q → lives_below m d s e ≡ lives_in m q e
  unfolding is_slot
  below_is_in d s q e c = same_tests (lives_below m d s e) (lives_in m q e)
      (λ x.
      let b = both (m.living e) (is_below m d s e) x in
      let r = under_child (line e) d s e refl b.0 (sym (below_by d s e) ∙ b.1) in
      let same : r.0 ≡ q = Some-injective (sym r.1 ∙ c) in
      both_of (m.living e) (q == e || list_any (λ (z : ℕ × ℕ). q == z.0) (line e)) b.0 (subst (λ y. (y == e || list_any (λ (z : ℕ × ℕ). y == z.0) (line e)) ≡ true) same r.2))
      (λ x.
      let b = both (m.living e) (q == e || list_any (λ (z : ℕ × ℕ). q == z.0) (line e)) x in
      both_of (m.living e) (is_below m d s e) b.0 (below_by d s e ∙ child_under (line e) d s q e refl c b.1))

  -- nobody lives in an empty slot or below
  pub below_none : (d s e : ℕ) → m.child d s ≡ None → lives_below m d s e ≡ false
  below_none d s e c = isnt_true (lives_below m d s e) (λ x.
      let b = both (m.living e) (is_below m d s e) x in
      let r = under_child (line e) d s e refl b.0 (sym (below_by d s e) ∙ b.1) in
      let z : Some r.0 ≡ None = sym r.1 ∙ c in
      absurd cc)

  -- ---- one slot more

  first_more : (d s : ℕ) (ls : List (ℕ × ℕ)) → list_any (λ (q : ℕ × ℕ). d == q.0 && nat_lt q.1 (s + 1)) ls ≡ (list_any (λ (q : ℕ × ℕ). d == q.0 && nat_lt q.1 s) ls || list_any (is_slot d s) ls)
  unfolding is_slot
  first_more d s [] = refl
  first_more d s (a ∷ ls) = ap (λ b. (d == a.0 && nat_lt a.1 (s + 1)) || b) (first_more d s ls) ∙ at (d == a.0) (nat_lt a.1 (s + 1)) (nat_lt a.1 s) (s == a.1) (list_any (λ (q : ℕ × ℕ). d == q.0 && nat_lt q.1 s) ls) (list_any (λ (q : ℕ × ℕ). d == q.0 && s == q.1) ls) (next a.1)
    where
      next : (t : ℕ) → nat_lt t (s + 1) ≡ (nat_lt t s || s == t)
      next t = same_tests (nat_lt t (s + 1)) (nat_lt t s || s == t)
          (λ x. elim (eqb_tells s t) [
            | inl y ↦ or_right (nat_lt t s) (s == t) y.0
            | inr y ↦ (let l = ltb-true t (s + 1) x in or_left (nat_lt t s) (s == t) (lt-ltb t s (let n = y.1 in omega (arith, l, n))))
          ])
          (λ x. elim (either_of (nat_lt t s) (s == t) x) [
            | inl y ↦ (let l = ltb-true t s y in lt-ltb t (s + 1) (omega (arith, l)))
            | inr y ↦ (let l = eqb-true s t y in lt-ltb t (s + 1) (omega (arith, l)))
          ])

      at : (a b c e f g : Bool) → b ≡ (c || e) → ((a && b) || (f || g)) ≡ (((a && c) || f) || ((a && e) || g))
      at true b c e f g q = ap (λ z. z || (f || g)) q ∙ four c e f g
        where
          four : (c e f g : Bool) → ((c || e) || (f || g)) ≡ ((c || f) || (e || g))
          four true e f g = refl
          four false true true g = refl
          four false true false g = refl
          four false false f g = refl
      at false b c e f g q = refl

  abbrev early : ℕ → ℕ → ℕ → Bool
  early d s e = list_any (λ (q : ℕ × ℕ). d == q.0 && nat_lt q.1 s) (line e)

  pub first_slots : (d s e : ℕ) → lives_in_first m d (s + 1) e ≡ (lives_in_first m d s e || lives_below m d s e)
  first_slots d s e =
      ap (λ b. d == e || (m.living e && b)) (first_more d s (line e)) ∙ at (d == e) (m.living e) (early d s e) (list_any (is_slot d s) (line e))
      ∙ ap (λ b. lives_in_first m d s e || (m.living e && b)) (sym (below_by d s e))
    where
      at : (x a f g : Bool) → (x || (a && (f || g))) ≡ ((x || (a && f)) || (a && g))
      at true a f g = refl
      at false true f g = refl
      at false false f g = refl

  early_any : (ls : List (ℕ × ℕ)) (d s : ℕ) → list_any (λ (q : ℕ × ℕ). d == q.0 && nat_lt q.1 s) ls ≡ true → (t : ℕ) × (t < s) × (list_any (is_slot d t) ls ≡ true)
  unfolding is_slot
  early_any [] d s x = absurd cc
  early_any (a ∷ ls) d s x = elim (either_of (d == a.0 && nat_lt a.1 s) (list_any (λ (q : ℕ × ℕ). d == q.0 && nat_lt q.1 s) ls) x) [
    | inl y ↦ (let b = both (d == a.0) (nat_lt a.1 s) y in (a.1, ltb-true a.1 s b.1, or_left (is_slot d a.1 a) (list_any (is_slot d a.1) ls) (both_of (d == a.0) (a.1 == a.1) b.0 (eq-eqb a.1 a.1 refl))))
    | inr y ↦ (let r = early_any ls d s y in (r.0, r.1, or_right (is_slot d r.0 a) (list_any (is_slot d r.0) ls) r.2))
  ]

  -- nobody is counted twice
  pub slots_apart : (d s e : ℕ) → lives_in_first m d s e ≡ true → lives_below m d s e ≡ true → ⊥
  slots_apart d s e x y =
      let b : list_any (is_slot d s) (line e) ≡ true = sym (below_by d s e) ∙ (both (m.living e) (is_below m d s e) y).1 in
      elim (either_of (d == e) (m.living e && early d s e) x) [
        | inl z ↦ (let l = slot_older d s e b in let q = eqb-true d e z in omega (arith, l, q))
        | inr z ↦ (
            let t = early_any (line e) d s (both (m.living e) (early d s e) z).1 in
            let q = one_slot (line e) d s t.0 e refl b t.2 in
            let l = t.1 in
            omega (arith, q, l))
      ]

  -- in none of the slots
  pub no_slots : (d e : ℕ) → lives_in_first m d 0 e ≡ (d == e)
  no_slots d e = ap (λ b. d == e || (m.living e && b)) (none (line e)) ∙ at (d == e) (m.living e)
    where
      none : (ls : List (ℕ × ℕ)) → list_any (λ (q : ℕ × ℕ). d == q.0 && nat_lt q.1 0) ls ≡ false
      none [] = refl
      none (a ∷ ls) = ap (λ b. b || list_any (λ (q : ℕ × ℕ). d == q.0 && nat_lt q.1 0) ls) (off (d == a.0) (nat_lt a.1 0) (ltb-zero a.1)) ∙ none ls
        where
          off : (x y : Bool) → y ≡ false → (x && y) ≡ false
          off true y q = q
          off false y q = refl

          ltb-zero : (n : ℕ) → nat_lt n 0 ≡ false
          ltb-zero n = isnt_true (nat_lt n 0) (λ x. let l = ltb-true n 0 x in omega (arith, l))

      at : (x a : Bool) → (x || (a && false)) ≡ x
      at true a = refl
      at false true = refl
      at false false = refl

  any_early : (ls : List (ℕ × ℕ)) (d s : ℕ) → ((t : ℕ) → list_any (is_slot d t) ls ≡ true → t < s) → list_any (λ (q : ℕ × ℕ). d == q.0) ls ≡ true → list_any (λ (q : ℕ × ℕ). d == q.0 && nat_lt q.1 s) ls ≡ true
  unfolding is_slot
  any_early [] d s h x = absurd cc
  any_early (a ∷ ls) d s h x = elim (either_of (d == a.0) (list_any (λ (q : ℕ × ℕ). d == q.0) ls) x) [
    | inl y ↦ or_left (d == a.0 && nat_lt a.1 s) (list_any (λ (q : ℕ × ℕ). d == q.0 && nat_lt q.1 s) ls)
        (both_of (d == a.0) (nat_lt a.1 s) y (lt-ltb a.1 s (h a.1 (or_left (is_slot d a.1 a) (list_any (is_slot d a.1) ls) (both_of (d == a.0) (a.1 == a.1) y (eq-eqb a.1 a.1 refl))))))
    | inr y ↦ or_right (d == a.0 && nat_lt a.1 s) (list_any (λ (q : ℕ × ℕ). d == q.0 && nat_lt q.1 s) ls) (any_early ls d s (λ t z. h t (or_right (is_slot d t a) (list_any (is_slot d t) ls) z)) y)
  ]

  early_less : (ls : List (ℕ × ℕ)) (d s : ℕ) → list_any (λ (q : ℕ × ℕ). d == q.0 && nat_lt q.1 s) ls ≡ true → list_any (λ (q : ℕ × ℕ). d == q.0) ls ≡ true
  early_less ls d s x = let r = early_any ls d s x in any_slot ls d r.0 r.2

  -- in all of the slots
  pub all_slots : (d s e : ℕ) → m.living d ≡ true → ((t q : ℕ) → m.child d t ≡ Some q → t < s) → lives_in_first m d s e ≡ lives_in m d e
  all_slots d s e a within = same_tests (lives_in_first m d s e) (lives_in m d e)
      (λ x. elim (either_of (d == e) (m.living e && early d s e) x) [
        | inl y ↦ both_of (m.living e) (d == e || list_any (λ (q : ℕ × ℕ). d == q.0) (line e)) (ap m.living (sym (eqb-true d e y)) ∙ a) (or_left (d == e) (list_any (λ (q : ℕ × ℕ). d == q.0) (line e)) y)
        | inr y ↦ (
            let b = both (m.living e) (early d s e) y in
            both_of (m.living e) (d == e || list_any (λ (q : ℕ × ℕ). d == q.0) (line e)) b.0 (or_right (d == e) (list_any (λ (q : ℕ × ℕ). d == q.0) (line e)) (early_less (line e) d s b.1)))
      ])
      (λ x.
      let b = both (m.living e) (d == e || list_any (λ (q : ℕ × ℕ). d == q.0) (line e)) x in
      elim (either_of (d == e) (list_any (λ (q : ℕ × ℕ). d == q.0) (line e)) b.1) [
        | inl y ↦ or_left (d == e) (m.living e && early d s e) y
        | inr y ↦ or_right (d == e) (m.living e && early d s e) (both_of (m.living e) (early d s e) b.0
            (any_early (line e) d s (λ t z. let r = under_child (line e) d t e refl b.0 z in within t r.0 r.1) y))
      ])

-- ---- counts

pub count_same : (n : ℕ) (f g : ℕ → Bool) → ((e : ℕ) → f e ≡ g e) → count_under n f ≡ count_under n g
count_same zero f g h = refl
count_same (suc n) f g h = ap (λ b. count_under n f + (if b then 1 else 0)) (h n) ∙ ap (λ k. k + (if g n then 1 else 0)) (count_same n f g h)

pub count_sum : (n : ℕ) (f g k : ℕ → Bool) → ((e : ℕ) → k e ≡ (f e || g e)) → ((e : ℕ) → f e ≡ true → g e ≡ true → ⊥) → count_under n k ≡ count_under n f + count_under n g
count_sum zero f g k h never = refl
count_sum (suc n) f g k h never = let r = count_sum n f g k h never in at (f n) (g n) (k n) (h n) (never n) r
  where
    at : (x y z : Bool) → z ≡ (x || y) → (x ≡ true → y ≡ true → ⊥) → count_under n k ≡ count_under n f + count_under n g
        → count_under n k + (if z then 1 else 0) ≡ (count_under n f + (if x then 1 else 0)) + (count_under n g + (if y then 1 else 0))
    at true true z e never r = absurd (never refl refl)
    at true false z e never r = ap (λ b. count_under n k + (if b then 1 else 0)) e ∙ omega (arith, r)
    at false true z e never r = ap (λ b. count_under n k + (if b then 1 else 0)) e ∙ omega (arith, r)
    at false false z e never r = ap (λ b. count_under n k + (if b then 1 else 0)) e ∙ omega (arith, r)

pub count_none : (n : ℕ) (f : ℕ → Bool) → ((e : ℕ) → e < n → f e ≡ false) → count_under n f ≡ 0
count_none zero f h = refl
count_none (suc n) f h = let r = count_none n f (λ e l. h e (omega (arith, l))) in ap (λ b. count_under n f + (if b then 1 else 0)) (h n (omega arith)) ∙ omega (arith, r)

pub count_one : (n d : ℕ) → d < n → count_under n (λ e. d == e) ≡ 1
count_one zero d l = absurd (omega (arith, l))
count_one (suc n) d l = elim (eqb_tells d n) [
  | inl y ↦ (let r = count_none n (λ e. d == e) (λ e k. isnt_true (d == e) (λ x. let q = eqb-true d e x in let z = y.1 in omega (arith, q, z, k))) in ap (λ b. count_under n (λ e. d == e) + (if b then 1 else 0)) y.0 ∙ omega (arith, r))
  | inr y ↦ (let z = y.1 in let r = count_one n d (omega (arith, l, z)) in ap (λ b. count_under n (λ e. d == e) + (if b then 1 else 0)) y.0 ∙ omega (arith, r))
]

pub count_most : (n : ℕ) (f : ℕ → Bool) → count_under n f ≤ n
count_most zero f = omega arith
count_most (suc n) f = let r = count_most n f in at (f n) r
  where
    at : (b : Bool) → count_under n f ≤ n → count_under n f + (if b then 1 else 0) ≤ suc n
    at true r = omega (arith, r)
    at false r = omega (arith, r)

module _ (v : Parts) (h : HoldsTogether v) where
  abbrev made : ℕ
  made = length (state_of v).nodes

  -- whoever is in a slot lives, is younger and was created
  pub child_of : (d s q : ℕ) → (state_of v).child d s ≡ Some q → ((state_of v).living q ≡ true) × (d < q) × (q < made)
  child_of d s q c =
      let o = h.occupant d s q c in
      (o.0, (h.lines d s q o.1.0 o.1.1).0, h.made q o.0)

  pub count_first : (d : ℕ) → (state_of v).living d ≡ true → 1 ≡ how_many (state_of v) (lives_in_first (state_of v) d 0)
  count_first d a = sym (count_same made (lives_in_first (state_of v) d 0) (λ e. d == e) (no_slots v h d) ∙ count_one made d (h.made d a))

  -- an empty slot adds nobody
  pub same_first : (d s : ℕ) → (state_of v).child d s ≡ None → (e : ℕ) → lives_in_first (state_of v) d (s + 1) e ≡ lives_in_first (state_of v) d s e
  same_first d s c e = first_slots v h d s e ∙ ap (λ b. lives_in_first (state_of v) d s e || b) (below_none v h d s e c) ∙ or_none (lives_in_first (state_of v) d s e)
    where
      or_none : (b : Bool) → (b || false) ≡ b
      or_none true = refl
      or_none false = refl

  pub count_skip : (d s k : ℕ) → (state_of v).child d s ≡ None → k ≡ how_many (state_of v) (lives_in_first (state_of v) d s) → k ≡ how_many (state_of v) (lives_in_first (state_of v) d (s + 1))
  count_skip d s k c e = e ∙ sym (count_same made (lives_in_first (state_of v) d (s + 1)) (lives_in_first (state_of v) d s) (same_first d s c))

  -- a slot adds the tree of whoever is in it
  pub more_first : (d s q : ℕ) → (state_of v).child d s ≡ Some q → how_many (state_of v) (lives_in_first (state_of v) d (s + 1)) ≡ how_many (state_of v) (lives_in_first (state_of v) d s) + how_many (state_of v) (lives_in (state_of v) q)
  more_first d s q c =
      count_sum made (lives_in_first (state_of v) d s) (lives_below (state_of v) d s) (lives_in_first (state_of v) d (s + 1)) (first_slots v h d s) (slots_apart v h d s)
      ∙ ap (λ n. how_many (state_of v) (lives_in_first (state_of v) d s) + n) (count_same made (lives_below (state_of v) d s) (lives_in (state_of v) q) (λ e. below_is_in v h d s q e c))

  pub count_all : (d s k : ℕ) → (state_of v).living d ≡ true → ((t q : ℕ) → (state_of v).child d t ≡ Some q → t < s) → k ≡ how_many (state_of v) (lives_in_first (state_of v) d s) → k ≡ how_many (state_of v) (lives_in (state_of v) d)
  count_all d s k a within e = e ∙ count_same made (lives_in_first (state_of v) d s) (lives_in (state_of v) d) (λ x. all_slots v h d s x a within)

  -- no more than there are components
  pub few_first : (d s : ℕ) → how_many (state_of v) (lives_in_first (state_of v) d s) ≤ made
  few_first d s = count_most made (lives_in_first (state_of v) d s)

  -- ---- marks

  -- the marks of some more components
  pub record MarksMore (more : ℕ → Bool) (old new : Members) : Type 0 where
    pub each : (e : ℕ) → has new e ≡ (more e || has old e)
    pub few : length new.list ≤ length old.list + how_many (state_of v) more
    pub bound : new.bound ≡ old.bound

  pub same_marks : (f g : ℕ → Bool) (old new : Members) → ((e : ℕ) → g e ≡ f e) → MarksMore f old new → MarksMore g old new
  same_marks f g old new same k = record {
    each = λ e. k.each e ∙ ap (λ b. b || has old e) (sym (same e));
    few = let a = k.few in let b = count_same made g f same in omega (arith, a, b);
    bound = k.bound;
  }

  pub mark_first : (d : ℕ) (old new : Members) → (state_of v).living d ≡ true → ((e : ℕ) → has new e ≡ (e == d || has old e)) → length new.list ≤ length old.list + 1 → new.bound ≡ old.bound → MarksMore (lives_in_first (state_of v) d 0) old new
  mark_first d old new a each few bound = record {
    each = λ e. each e ∙ ap (λ b. b || has old e) (flip e d ∙ sym (no_slots v h d e));
    few = let b = count_first d a in omega (arith, few, b);
    bound = bound;
  }

  pub mark_more : (d s q : ℕ) (old now new : Members) → (state_of v).child d s ≡ Some q → MarksMore (lives_in_first (state_of v) d s) old now → MarksMore (lives_in (state_of v) q) now new → MarksMore (lives_in_first (state_of v) d (s + 1)) old new
  mark_more d s q old now new c a b = record {
    each = λ e.
        b.each e ∙ ap (λ t. lives_in (state_of v) q e || t) (a.each e) ∙ turn (lives_in (state_of v) q e) (lives_in_first (state_of v) d s e) (has old e)
        ∙ ap (λ t. (lives_in_first (state_of v) d s e || t) || has old e) (sym (below_is_in v h d s q e c)) ∙ ap (λ t. t || has old e) (sym (first_slots v h d s e));
    few = let x = a.few in let y = b.few in let z = more_first d s q c in omega (arith, x, y, z);
    bound = b.bound ∙ a.bound;
  }
    where
      turn : (x y z : Bool) → (x || (y || z)) ≡ ((y || x) || z)
      turn true true z = refl
      turn true false z = refl
      turn false true z = refl
      turn false false z = refl

  pub mark_all : (d s : ℕ) (old new : Members) → (state_of v).living d ≡ true → ((t q : ℕ) → (state_of v).child d t ≡ Some q → t < s) → MarksMore (lives_in_first (state_of v) d s) old new → MarksMore (lives_in (state_of v) d) old new
  mark_all d s old new a within k = same_marks (lives_in_first (state_of v) d s) (lives_in (state_of v) d) old new (λ e. sym (all_slots v h d s e a within)) k

  -- the slots of a body are all in which somebody lives
  pub within_slots : (c d n s : ℕ) → ChildrenAreInSlots c (state_of v) → (state_of v).living d ≡ true → c < d → ((b : Body) → (state_of v).bodies d ≡ Some b → n ≡ min (length b.slots) 256) → n ≤ s
      → (t q : ℕ) → (state_of v).child d t ≡ Some q → t < s
  within_slots c d n s in_slots a younger long end t q k = go ((state_of v).bodies d) refl (h.bodies d ∙ a)
    where
      go : (o : Option Body) → (state_of v).bodies d ≡ o → is_some o ≡ true → t < s
      go None e y = absurd cc
      go (Some b) e y =
          let apart : (d == c) ≡ false = isnt_true (d == c) (λ z. let x = eqb-true d c z in omega (arith, x, younger)) in
          let r = in_slots d t q b apart e k in
          let low = r.0 in
          let small = r.1 in
          let same = long b e in
          omega (arith, low, small, same, end)

  -- ---- who receives from a channel that dies

  end_comp : (o : Option Half) (e : ℕ) → option_map (λ (h : Half). h.comp) o ≡ Some e → (h : Half) × (o ≡ Some h) × (h.comp ≡ e)
  end_comp None e q = absurd cc
  end_comp (Some h) e q = (h, refl, Some-injective q)

  receiver_end : (x e : ℕ) (d : Dir) (l : Link) → (state_of v).links x ≡ Some l → receiver_of d l ≡ Some e → (h : Half) × (end_at (state_of v) x (opposite d) ≡ Some h) × (h.comp ≡ e)
  receiver_end x e d l k r = at l.held r
    where
      at : (b : Bool) → (if b then None else option_map (λ (h : Half). h.comp) (end_of l (opposite d))) ≡ Some e → (h : Half) × (end_at (state_of v) x (opposite d) ≡ Some h) × (h.comp ≡ e)
      at true q = absurd cc
      at false q = let g = end_comp (end_of l (opposite d)) e q in (g.0, ap (option_and_then (λ (l : Link). end_of l (opposite d))) k ∙ g.1, g.2)

  owner_of : (c slot x : ℕ) → dies_with v c slot x ≡ true → (q : ℕ × ℕ) × (wire_at v.numbers x ≡ Some q) × (is_below (state_of v) c slot q.0 ≡ true)
  owner_of c slot x t = at (wire_at v.numbers x) refl t
    where
      at : (o : Option (ℕ × ℕ)) → wire_at v.numbers x ≡ o → option_map_or (λ q. is_below (state_of v) c slot q.0) o false ≡ true → (q : ℕ × ℕ) × (wire_at v.numbers x ≡ Some q) × (is_below (state_of v) c slot q.0 ≡ true)
      at None e t = absurd cc
      at (Some q) e t = (q, e, t)

  there_lives : (x p k : ℕ) (l : Link) → wire_at v.numbers x ≡ Some (p, k) → (state_of v).links x ≡ Some l → (state_of v).living p ≡ true
  there_lives x p k l w e =
      sym (ap (λ o. option_map_or (is_of_living (state_of v)) o false) (own_channel v.numbers x p k w)) ∙ sym (h.links_living x) ∙ ap is_some e

  -- whoever receives from it lives, and ends with it
  pub receiver_ends : (c slot x e : ℕ) (d : Dir) (l : Link) → EndsAreOwn c v → dies_with v c slot x ≡ true → (state_of v).links x ≡ Some l → receiver_of d l ≡ Some e
      → ((state_of v).living e ≡ true) × (is_below (state_of v) c slot e ≡ true)
  receiver_ends c slot x e d l own t k r =
      let o = owner_of c slot x t in
      let p = o.0.0 in
      let under = sym (below_by v h c slot p) ∙ o.2 in
      let lesser = slot_older v h c slot p under in
      let apart : (p == c) ≡ false = isnt_true (p == c) (λ z. let y = eqb-true p c z in omega (arith, y, lesser)) in
      let g = receiver_end x e d l k r in
      elim (own x p o.0.1 (opposite d) g.0 o.1 apart g.1) [
        | inl y ↦ (
            let same : p ≡ e = sym y ∙ g.2 in
            (subst (λ z. (state_of v).living z ≡ true) same (there_lives x p o.0.1 l o.1 k), subst (λ z. is_below (state_of v) c slot z ≡ true) same o.2))
        | inr y ↦ (
            let at : (state_of v).child p y.0 ≡ Some e = y.1 ∙ ap Some g.2 in
            let sits = h.occupant p y.0 e at in
            let up = h.lines p y.0 e sits.1.0 sits.1.1 in
            let line : ancestry_at (state_of v) e ≡ (p, y.0) ∷ ancestry_at (state_of v) p = sits.1.1 ∙ ap (λ r. (p, y.0) ∷ r) up.1 in
            (sits.0, below_by v h c slot e ∙ ap (list_any (is_slot c slot)) line ∙ or_right (is_slot c slot (p, y.0)) (list_any (is_slot c slot) (ancestry_at (state_of v) p)) under))
      ]

  no_front : (e : ℕ) (q : Option Queue) → IsNotReceiver e q → front_for e q ≡ None
  no_front e None k = refl
  no_front e (Some q) k = go q.receiver refl
    where
      by_test : (r : ℕ) (b : Bool) → q.receiver ≡ Some r → (r == e) ≡ b → (if b then first q.numbers else None) ≡ None
      by_test r true a t = absurd (k (a ∙ ap Some (eqb-true r e t)))
      by_test r false a t = refl

      go : (o : Option ℕ) → q.receiver ≡ o → front_for e (Some q) ≡ None
      go None a = ap (λ z. if option_map_or (λ r. r == e) z false then first q.numbers else None) a
      go (Some r) a = ap (λ z. if option_map_or (λ r. r == e) z false then first q.numbers else None) a ∙ by_test r (r == e) a refl

  -- the marks of all who end
  pub removal_marked : (w : Parts) (old new : Members) (c slot : ℕ) → RemovalsLeave → EndsAreOwn c v → IsRemoved (dies_with v c slot) c slot (state_of v) (state_of w)
      → MarksMore (lives_below (state_of v) c slot) old new → IsMarked (how_many (state_of v) (lives_below (state_of v) c slot)) old new (state_of v) (state_of w)
  removal_marked w old new c slot leave own r k = record {
    leaves = λ e q.
        let t = both_false (lives_below (state_of v) c slot e) (has old e) (sym (k.each e) ∙ q) in
        (t.1, go e t.0 (is_below (state_of v) c slot e) refl);
    few = k.few;
    bound = k.bound;
  }
    where
      both_false : (a b : Bool) → (a || b) ≡ false → (a ≡ false) × (b ≡ false)
      both_false true b e = absurd cc
      both_false false b e = (refl, e)

      -- nobody who dies not receives
      deaf : (e : ℕ) → ((state_of v).living e ≡ true → is_below (state_of v) c slot e ≡ true → ⊥) → (x : ℕ) (d : Dir) → dies_with v c slot x ≡ true → IsNotReceiver e ((state_of v).queues x d)
      deaf e never x d t = not_receiver v x e d h (λ l a b. let z = receiver_ends c slot x e d l own t a b in never z.0 z.1)

      gone : (e : ℕ) (o : Option ControlRow) → is_some o ≡ false → o ≡ None
      gone e None q = refl
      gone e (Some x) q = absurd cc

      go : (e : ℕ) → lives_below (state_of v) c slot e ≡ false → (b : Bool) → is_below (state_of v) c slot e ≡ b → HasSameWork (state_of v) (state_of w) e
      go e t false q = leave (dies_with v c slot) c slot (state_of v) (state_of w) e r q (deaf e (λ a b. not_both (is_below (state_of v) c slot e) b q))
      go e t true q =
          let dead : (state_of v).living e ≡ false = isnt_true ((state_of v).living e) (λ a. not_both (lives_below (state_of v) c slot e) (both_of ((state_of v).living e) (is_below (state_of v) c slot e) a q) t) in
          let none = gone e ((state_of v).controls e) (h.controls e ∙ dead) in
          record {
            row = r.controls e ∙ ap (λ b. if b then None else (state_of v).controls e) q ∙ sym none;
            fronts = λ x d. fronts e (λ a b. not_both ((state_of v).living e) a dead) x d (dies_with v c slot x) refl;
          }
        where
          fronts : (e : ℕ) → ((state_of v).living e ≡ true → is_below (state_of v) c slot e ≡ true → ⊥) → (x : ℕ) (d : Dir) (b : Bool) → dies_with v c slot x ≡ b → is_some (front_for e ((state_of w).queues x d)) ≡ is_some (front_for e ((state_of v).queues x d))
          fronts e never x d true t = ap (λ z. is_some (front_for e z)) (r.queues x d ∙ ap (λ b. if b then None else (state_of v).queues x d) t) ∙ sym (ap is_some (no_front e ((state_of v).queues x d) (deaf e never x d t)))
          fronts e never x d false t = ap (λ z. is_some (front_for e z)) (r.queues x d ∙ ap (λ b. if b then None else (state_of v).queues x d) t)

  -- ---- a slot

  pub count_slot : (c slot q : ℕ) → (state_of v).child c slot ≡ Some q → how_many (state_of v) (lives_below (state_of v) c slot) ≡ how_many (state_of v) (lives_in (state_of v) q)
  count_slot c slot q e = count_same made (lives_below (state_of v) c slot) (lives_in (state_of v) q) (λ x. below_is_in v h c slot q x e)

  pub count_nobody : (c slot : ℕ) → (state_of v).child c slot ≡ None → how_many (state_of v) (lives_below (state_of v) c slot) ≡ 0
  count_nobody c slot e = count_none made (lives_below (state_of v) c slot) (λ x l. below_none v h c slot x e)

  pub mark_slot : (c slot q : ℕ) (old new : Members) → (state_of v).child c slot ≡ Some q → MarksMore (lives_in (state_of v) q) old new → MarksMore (lives_below (state_of v) c slot) old new
  mark_slot c slot q old new e k = same_marks (lives_in (state_of v) q) (lives_below (state_of v) c slot) old new (λ x. below_is_in v h c slot q x e) k

  pub mark_nobody : (c slot : ℕ) (old : Members) → (state_of v).child c slot ≡ None → (x : ℕ) → has old x ≡ (lives_below (state_of v) c slot x || has old x)
  mark_nobody c slot old e x = ap (λ b. b || has old x) (sym (below_none v h c slot x e))
