-- What a tree is with one instance more.
use Rattle.std.proofs.Common.{◌≡◌, ℕ, zero, suc, ◌+◌, ◌<◌, ◌≤◌, Bool, true, false, cond, ◌&&◌, ◌⊎◌, inl, inr, ⊎_elim, eqb, List, [], ◌∷◌, ◌++◌, length, Option, Some, None, refl, sym, ap, ◌∙◌, subst, arith, length-append, vec_capacity}
use Rattle.std.specs.List.{slice_get}
use Rattle.std.specs.Option.{option_map_or, option_and_then, unwrap_or}
use Rattle.std.proofs.lemmas.Bool.{cases_lt, eq-eqb, ne_eqb}
use Rattle.std.proofs.lemmas.Option.{slice_get_past}
use Rattle.kom_tree.specs.declared.family.Origin.{Origin}
use Rattle.kom_tree.specs.declared.family.Links.{Links}
use Rattle.kom_tree.specs.declared.family.Family.{Family}
use Rattle.kom_tree.specs.Steps.{Hangs, KeepsOrigins}
use Rattle.kom_tree.specs.Forest.{line_under, hangs_in, occupant, MayHang, with_child}
use Rattle.kom_tree.specs.Parts.{parent_at, lives, sits, IsSitter, hangs_at, newest, child_at, sibling_at, made, marked, IsForest, IsChained}
use Rattle.kom_tree.proofs.Views.{both_left, both_right, not_true, in_slot, slot_in, lives_within, slice_get-append_left, slice_get-append_right, made_more, marked_more, line_under-marked, length-all, all, same_length, alive_is, sitter_is, occupant_sits}
use Rattle.kom_tree.proofs.Chains.{hangs_from, newest_is}
use Rattle.kom_tree.proofs.Ending.{same_number}

pub hung_keeps : (old new : Family) (q : Option (ℕ × ℕ)) (n : ℕ) (older : Option ℕ) → Hangs old new q n older → KeepsOrigins old new
hung_keeps old new None n older h = record {
  origins = ap (λ (m : Family). m.origins) h.0;
  long = ap (λ (m : Family). length m.links.items) h.0;
  room = ap (λ (m : Family). vec_capacity m.links) h.0;
}
hung_keeps old new (Some q) n older h = h.0.keeps

data Place (n c : ℕ) : Type 0 where
  before : (less : c < n) → Place n c
  last : (same : c ≡ n) → Place n c
  beyond : (more : n < c) → Place n c

place : (n c : ℕ) → Place n c
place n c = ⊎_elim before (λ le. ⊎_elim (λ e. last e) (λ ne. beyond (omega (arith, le, ne))) (same_number c n)) (cases_lt c n)

push_last : {X : Type 0} (xs : List X) (x : X) (c : ℕ) → c ≡ length xs → slice_get (xs ++ x ∷ []) c ≡ Some x
push_last xs x c e = ap (slice_get (xs ++ x ∷ [])) (e ∙ omega arith) ∙ slice_get-append_right xs (x ∷ []) 0

push_beyond : {X : Type 0} (xs : List X) (x : X) (c : ℕ) → length xs < c → slice_get (xs ++ x ∷ []) c ≡ None
push_beyond xs x c h = slice_get_past (xs ++ x ∷ []) c (omega (arith, length-append xs (x ∷ [])))

module _ (os : List Origin) (bs : List Bool) (o : Origin) (f : IsForest os bs) (few : length os < 4000000000) (may : MayHang (all os bs f) o.parent) where
  abbrev pub os' : List Origin
  os' = os ++ o ∷ []

  abbrev pub bs' : List Bool
  bs' = bs ++ true ∷ []

  parent_before : (c : ℕ) → c < length os → parent_at os' c ≡ parent_at os c
  parent_before c h = ap (option_and_then (λ (o : Origin). o.parent)) (slice_get-append_left os _ c h)

  parent_last : (c : ℕ) → c ≡ length os → parent_at os' c ≡ o.parent
  parent_last c e = ap (option_and_then (λ (o : Origin). o.parent)) (push_last os o c e)

  parent_beyond : (c : ℕ) → length os < c → parent_at os' c ≡ None
  parent_beyond c h = ap (option_and_then (λ (o : Origin). o.parent)) (push_beyond os o c h)

  lives_before : (c : ℕ) → c < length os → lives bs' c ≡ lives bs c
  lives_before c h = ap (λ g. unwrap_or g false) (slice_get-append_left bs _ c (omega (arith, f.marks)))

  lives_last : (c : ℕ) → c ≡ length os → lives bs' c ≡ true
  lives_last c e = ap (λ g. unwrap_or g false) (push_last bs true c (omega (arith, e, f.marks)))

  within : (c : ℕ) → lives bs' c ≡ true → c < length os + 1
  within c h = omega (arith, lives_within bs' c h, length-append bs (true ∷ []), f.marks)

  -- the parent of the new one, if it has one, lives
  parent_lives : (q : ℕ × ℕ) → o.parent ≡ Some q → (lives bs q.0 ≡ true) × (occupant (all os bs f) q.0 q.1 ≡ None)
  parent_lives q e = let m = subst (MayHang (all os bs f)) e may in (sym (alive_is os bs f q.0) ∙ m.0, m.1)

  -- with no parent it is the first
  first_of_all : o.parent ≡ None → length os ≡ 0
  first_of_all e = let m = subst (MayHang (all os bs f)) e may in omega (arith, length-all os bs f, ap length m)

  parent_within : (q : ℕ × ℕ) → o.parent ≡ Some q → q.0 < length os
  parent_within q e = omega (arith, f.marks, lives_within bs q.0 (parent_lives q e).0)

  -- who has a parent at all, and which
  parents : (c : ℕ) (q : ℕ × ℕ) → parent_at os' c ≡ Some q → ((c < length os) × (parent_at os c ≡ Some q)) ⊎ ((c ≡ length os) × (o.parent ≡ Some q))
  parents c q e = elim (place (length os) c) [
    | before h ↦ inl (h, sym (parent_before c h) ∙ e)
    | last h ↦ inr (h, sym (parent_last c h) ∙ e)
    | beyond h ↦ absurd (cc (parent_beyond c h))
  ]

  older_than : (c : ℕ) (q : ℕ × ℕ) → parent_at os' c ≡ Some q → (q.0 < c) × (q.0 < length os)
  older_than c q e = ⊎_elim (λ h. (f.older c q h.1, omega (arith, f.older c q h.1, h.0))) (λ h. (omega (arith, h.0, parent_within q h.1), parent_within q h.1)) (parents c q e)

  pub forest_more : IsForest os' bs'
  forest_more = record {
    marks = omega (arith, length-append bs (true ∷ []), length-append os (o ∷ []), f.marks);
    few = omega (arith, length-append os (o ∷ []));
    root = rootless (parent_at os' 0) refl;
    older = λ c q e. (older_than c q e).0;
    hung = λ c h e. elim (place (length os) c) [
      | before l ↦ f.hung c l (sym (parent_before c l) ∙ e)
      | last l ↦ omega (arith, l, first_of_all (sym (parent_last c l) ∙ e))
      | beyond l ↦ absurd (omega (arith, length-append os (o ∷ []), l, h))
    ];
    rooted = λ c q h e. let low = older_than c q e in lives_before q.0 low.1 ∙ ⊎_elim (λ l. f.rooted c q (sym (lives_before c l.0) ∙ h) l.1) (λ l. (parent_lives q l.1).0) (parents c q e);
    alone = λ c d q h g x y. ⊎_elim
        (λ l. ⊎_elim (λ m. f.alone c d q (sym (lives_before c l.0) ∙ h) (sym (lives_before d m.0) ∙ g) l.1 m.1) (λ m. absurd (taken c q (sym (lives_before c l.0) ∙ h) l.1 m.1)) (parents d q y))
        (λ l. ⊎_elim (λ m. absurd (taken d q (sym (lives_before d m.0) ∙ g) m.1 l.1)) (λ m. l.0 ∙ sym m.0) (parents d q y))
        (parents c q x);
  }
    where
      rootless : (q : Option (ℕ × ℕ)) → parent_at os' 0 ≡ q → parent_at os' 0 ≡ None
      rootless None e = e
      rootless (Some q) e = absurd (omega (arith, (older_than 0 q e).0))

      -- the slot of the new one was empty
      taken : (c : ℕ) (q : ℕ × ℕ) → lives bs c ≡ true → parent_at os c ≡ Some q → o.parent ≡ Some q → ⊥
      taken c q h up e = cc ((parent_lives q e).1, sitter_is os bs f q.0 q.1 (Some c) (ap (λ b. b && hangs_in q.0 q.1 (parent_at os c)) h ∙ ap (hangs_in q.0 q.1) up ∙ slot_in q.0 q.1))

  -- ---- chains

  newest_more : (c b : ℕ) → b ≤ length os → newest os' bs' c b ≡ newest os bs c b
  unfolding newest
  newest_more c zero h = refl
  newest_more c (suc b) h =
      let life = lives_before b (omega arith) in
      let up : hangs_at os' c b ≡ hangs_at os c b = ap (λ q. option_map_or (λ (q : ℕ × ℕ). eqb q.0 c) q false) (parent_before b (omega arith)) in
      ap (λ t. cond (t && hangs_at os' c b) (Some b) (newest os' bs' c b)) life ∙ ap (λ t. cond (lives bs b && t) (Some b) (newest os' bs' c b)) up ∙ ap (cond (lives bs b && hangs_at os c b) (Some b)) (newest_more c b (omega arith))

  newest_all : (c : ℕ) → newest os' bs' c (length os') ≡ cond (hangs_at os' c (length os)) (Some (length os)) (newest os bs c (length os))
  unfolding newest
  newest_all c =
      let e : length os' ≡ suc (length os) = omega (arith, length-append os (o ∷ [])) in
      ap (newest os' bs' c) e ∙ ap (λ t. cond (t && hangs_at os' c (length os)) (Some (length os)) (newest os' bs' c (length os))) (lives_last (length os) refl)
      ∙ ap (cond (hangs_at os' c (length os)) (Some (length os))) (newest_more c (length os) (omega arith))

  hung_last : (q : ℕ × ℕ) (c : ℕ) → o.parent ≡ Some q → hangs_at os' c (length os) ≡ eqb q.0 c
  hung_last q c e = ap (λ q. option_map_or (λ (q : ℕ × ℕ). eqb q.0 c) q false) (parent_last (length os) refl ∙ e)

  hung_nowhere : (c : ℕ) → o.parent ≡ None → hangs_at os' c (length os) ≡ false
  hung_nowhere c e = ap (λ q. option_map_or (λ (q : ℕ × ℕ). eqb q.0 c) q false) (parent_last (length os) refl ∙ e)

  module _ (old new : Family) (is : old.origins.items ≡ os) (chained : IsChained os bs old.links.items) (older : Option ℕ) (h : Hangs old new o.parent (length os) older) where
    heads : (c : ℕ) → child_at new.links.items c ≡ cond (hangs_at os' c (length os)) (Some (length os)) (child_at old.links.items c)
    heads c = at o.parent refl h
      where
        at : (q : Option (ℕ × ℕ)) → o.parent ≡ q → Hangs old new q (length os) older → child_at new.links.items c ≡ cond (hangs_at os' c (length os)) (Some (length os)) (child_at old.links.items c)
        at None e g = ap (λ (m : Family). child_at m.links.items c) g.0 ∙ sym (ap (λ b. cond b (Some (length os)) (child_at old.links.items c)) (hung_nowhere c e))
        at (Some q) e g = ⊎_elim
            (λ same. ap (child_at new.links.items) same ∙ g.0.here ∙ sym (ap (λ b. cond b (Some (length os)) (child_at old.links.items c)) (hung_last q c e ∙ eq-eqb q.0 c (sym same))))
            (λ other. g.0.others c other ∙ sym (ap (λ b. cond b (Some (length os)) (child_at old.links.items c)) (hung_last q c e ∙ ne_eqb q.0 c (λ s. other (sym s)))))
            (same_number c q.0)

    sides : (c : ℕ) → sibling_at new.links.items c ≡ sibling_at old.links.items c
    sides c = at o.parent h
      where
        at : (q : Option (ℕ × ℕ)) → Hangs old new q (length os) older → sibling_at new.links.items c ≡ sibling_at old.links.items c
        at None g = ap (λ (m : Family). sibling_at m.links.items c) g.0
        at (Some q) g = g.0.siblings c

    pub hung_length : length new.links.items ≡ length os
    hung_length = at o.parent h ∙ chained.long
      where
        at : (q : Option (ℕ × ℕ)) → Hangs old new q (length os) older → length new.links.items ≡ length old.links.items
        at None g = ap (λ (m : Family). length m.links.items) g.0
        at (Some q) g = g.0.keeps.long

    older_is : (q : ℕ × ℕ) → o.parent ≡ Some q → older ≡ child_at old.links.items q.0
    older_is q e = (subst (λ q. Hangs old new q (length os) older) e h).1

    pub chains_more : IsChained os' bs' (new.links.items ++ record { child = None; sibling = older } ∷ [])
    chains_more = record {
      long = omega (arith, length-append os (o ∷ []), length-append new.links.items (record { child = None; sibling = older } ∷ []), hung_length);
      youngest = λ c g. elim (place (length os) c) [
        | before l ↦ child_old c l ∙ heads c ∙ ap (cond (hangs_at os' c (length os)) (Some (length os))) (chained.youngest c (sym (lives_before c l) ∙ g)) ∙ sym (newest_all c)
        | last l ↦ child_new c l ∙ sym (newest_all c ∙ childless c l)
        | beyond l ↦ absurd (omega (arith, within c g, l))
      ];
      next = λ c q g up. ⊎_elim
          (λ l. sibling_old c l.0 ∙ sides c ∙ chained.next c q (sym (lives_before c l.0) ∙ g) l.1 ∙ sym (newest_more q.0 c (omega (arith, l.0))))
          (λ l. sibling_new c l.0 ∙ older_is q l.1 ∙ chained.youngest q.0 (parent_lives q l.1).0 ∙ sym (ap (newest os' bs' q.0) l.0 ∙ newest_more q.0 (length os) (omega arith)))
          (parents c q up);
    }
      where
        child_old : (c : ℕ) → c < length os → child_at (new.links.items ++ record { child = None; sibling = older } ∷ []) c ≡ child_at new.links.items c
        child_old c l = ap (option_and_then (λ (k : Links). k.child)) (slice_get-append_left new.links.items _ c (omega (arith, hung_length, l)))

        child_new : (c : ℕ) → c ≡ length os → child_at (new.links.items ++ record { child = None; sibling = older } ∷ []) c ≡ None
        child_new c l = ap (option_and_then (λ (k : Links). k.child)) (push_last new.links.items (record { child = None; sibling = older }) c (omega (arith, hung_length, l)))

        sibling_old : (c : ℕ) → c < length os → sibling_at (new.links.items ++ record { child = None; sibling = older } ∷ []) c ≡ sibling_at new.links.items c
        sibling_old c l = ap (option_and_then (λ (k : Links). k.sibling)) (slice_get-append_left new.links.items _ c (omega (arith, hung_length, l)))

        sibling_new : (c : ℕ) → c ≡ length os → sibling_at (new.links.items ++ record { child = None; sibling = older } ∷ []) c ≡ older
        sibling_new c l = ap (option_and_then (λ (k : Links). k.sibling)) (push_last new.links.items (record { child = None; sibling = older }) c (omega (arith, hung_length, l)))

        -- the new one has no child yet
        childless : (c : ℕ) → c ≡ length os → cond (hangs_at os' c (length os)) (Some (length os)) (newest os bs c (length os)) ≡ None
        childless c l = ap (λ b. cond b (Some (length os)) (newest os bs c (length os))) (not_true _ own) ∙ none (newest os bs c (length os)) refl
          where
            own : hangs_at os' c (length os) ≡ true → ⊥
            own e = let q = hangs_from os' c (length os) e in omega (arith, (older_than (length os) (c, q.0) q.1).0, l)

            none : (g : Option ℕ) → newest os bs c (length os) ≡ g → newest os bs c (length os) ≡ None
            none None e = e
            none (Some d) e = let i = newest_is os bs c (length os) d e in let q = hangs_from os c d i.0.1 in absurd (omega (arith, f.older d (c, q.0) q.1, i.1, l))

  -- ---- the view

  pub view_more : all os' bs' forest_more ≡ with_child (all os bs f) o.parent o.kind
  view_more =
      ap (λ l. marked l bs') (made_more os o)
      ∙ marked_more (made os) bs (record { kind = o.kind; line = line_under (made os) o.parent; living = true }) true (same_length os bs f)
      ∙ ap (λ l. all os bs f ++ record { kind = o.kind; line = l; living = true } ∷ []) (sym (line_under-marked (made os) bs o.parent (same_length os bs f)))

  pub occupants_more : (p s : ℕ) → occupant (all os' bs' forest_more) p s ≡ cond (hangs_in p s o.parent) (Some (length os)) (occupant (all os bs f) p s)
  occupants_more p s = at (hangs_in p s o.parent) refl
    where
      at : (b : Bool) → hangs_in p s o.parent ≡ b → occupant (all os' bs' forest_more) p s ≡ cond (hangs_in p s o.parent) (Some (length os)) (occupant (all os bs f) p s)
      at true h = sitter_is os' bs' forest_more p s (Some (length os)) (ap (λ b. b && hangs_in p s (parent_at os' (length os))) (lives_last (length os) refl) ∙ ap (hangs_in p s) (parent_last (length os) refl) ∙ h)
          ∙ sym (ap (λ b. cond b (Some (length os)) (occupant (all os bs f) p s)) h)
      at false h = sitter_is os' bs' forest_more p s (occupant (all os bs f) p s) (kept (occupant (all os bs f) p s) refl)
          ∙ sym (ap (λ b. cond b (Some (length os)) (occupant (all os bs f) p s)) h)
        where
          sits_old : (c : ℕ) → c < length os → sits os' bs' p s c ≡ sits os bs p s c
          sits_old c l = ap (λ b. b && hangs_in p s (parent_at os' c)) (lives_before c l) ∙ ap (λ q. lives bs c && hangs_in p s q) (parent_before c l)

          kept : (g : Option ℕ) → occupant (all os bs f) p s ≡ g → IsSitter os' bs' p s g
          kept None none = λ c. not_true _ (λ i.
              let up = in_slot p s (parent_at os' c) (both_right (lives bs' c) _ i) in
              ⊎_elim (λ l. cc (none, sitter_is os bs f p s (Some c) (sym (sits_old c l.0) ∙ i))) (λ l. cc (h, slot_in p s, ap (hangs_in p s) l.1)) (parents c (p, s) up))
          kept (Some x) some = let old = occupant_sits os bs f p s x some in sits_old x (omega (arith, f.marks, lives_within bs x (both_left _ _ old))) ∙ old
