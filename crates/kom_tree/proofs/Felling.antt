-- What is left of a tree when an instance and all below it have ended.
use Rattle.std.proofs.Common.{◌≡◌, ◌≢◌, ℕ, zero, suc, ◌<◌, Bool, true, false, cond, not, ◌&&◌, ◌||◌, List, [], ◌∷◌, length, map, set, Option, Some, None, refl, sym, ap, ◌∙◌, arith, length-set}
use Rattle.std.specs.List.{slice_get, list_any}
use Rattle.std.specs.Option.{option_map, option_map_or}
use Rattle.std.proofs.lemmas.Option.{slice_get-map}
use Rattle.kom_tree.specs.declared.family.Origin.{Origin}
use Rattle.kom_tree.specs.declared.family.Links.{Links}
use Rattle.kom_tree.specs.Forest.{Instance, line_of, line_under, is_slot, hangs_in, occupant, felled}
use Rattle.kom_tree.specs.Parts.{parent_at, lives, sits, IsSitter, hangs_at, newest, made, IsForest, IsChained, EndsBelow, IsRootedBut, parent_ended}
use Rattle.kom_tree.proofs.Views.{both_left, both_right, not_true, in_slot, slot_in, marked_at, all, same_length, line_is, line_of-marked, sits_alone, sitter_is, occupant_sits, occupant_none}
use Rattle.kom_tree.proofs.Chains.{hangs_from, newest_is}
use Rattle.kom_tree.proofs.Ending.{not_cleared, still}
use Rattle.kom_tree.proofs.Unlinking.{at_other, newest_without}

-- lists that agree at each place are equal
pub same_list : {X : Type 0} (xs ys : List X) → ((k : ℕ) → slice_get xs k ≡ slice_get ys k) → xs ≡ ys
same_list [] [] e = refl
same_list [] (y ∷ ys) e = absurd (cc (e 0))
same_list (x ∷ xs) [] e = absurd (cc (e 0))
same_list (x ∷ xs) (y ∷ ys) e =
    let head : x ≡ y = cc (e 0) in
    let rest = same_list xs ys (λ k. e (suc k)) in
    ap (λ z. z ∷ xs) head ∙ ap (λ zs. y ∷ zs) rest

newest_agree : (os : List Origin) (bs now : List Bool) (c b : ℕ) → ((d : ℕ) → hangs_at os c d ≡ true → lives bs d ≡ lives now d) → newest os bs c b ≡ newest os now c b
unfolding newest
newest_agree os bs now c zero same = refl
newest_agree os bs now c (suc b) same =
    let here : (lives bs b && hangs_at os c b) ≡ (lives now b && hangs_at os c b) = at (hangs_at os c b) refl in
    ap (λ t. cond t (Some b) (newest os bs c b)) here ∙ ap (cond (lives now b && hangs_at os c b) (Some b)) (newest_agree os bs now c b same)
  where
    at : (h : Bool) → hangs_at os c b ≡ h → (lives bs b && hangs_at os c b) ≡ (lives now b && hangs_at os c b)
    at true e = ap (λ t. t && hangs_at os c b) (same b e)
    at false e = ap (λ h. lives bs b && h) e ∙ none (lives bs b) (lives now b) ∙ sym (ap (λ h. lives now b && h) e)
      where
        none : (a b : Bool) → (a && false) ≡ (b && false)
        none true true = refl
        none true false = refl
        none false true = refl
        none false false = refl

ended_parent : (os : List Origin) (bs : List Bool) (c : ℕ) (q : ℕ × ℕ) → parent_at os c ≡ Some q → parent_ended os bs c ≡ true → lives bs q.0 ≡ false
ended_parent os bs c q up h = flip _ (sym (ap (λ q. option_map_or (λ (q : ℕ × ℕ). not (lives bs q.0)) q false) up) ∙ h)
  where
    flip : (b : Bool) → not b ≡ true → b ≡ false
    flip true e = absurd (cc)
    flip false e = refl

module _ (os : List Origin) (bs : List Bool) (f : IsForest os bs) (p s top : ℕ) (here : sits os bs p s top ≡ true) where
  abbrev left : List Bool
  left = set bs top false

  up : parent_at os top ≡ Some (p, s)
  up = in_slot p s (parent_at os top) (both_right (lives bs top) _ here)

  pub rooted_but : IsRootedBut os left top
  rooted_but = λ c q h e n. not_cleared bs top q.0 n ∙ f.rooted c q (still bs top c h).1 e

  -- the top is no child of its own
  pub own_children : newest os left top (length os) ≡ newest os bs top (length os)
  own_children = newest_without os bs top top (length os) ∙ at_other top _ (newest os bs top (length os)) (λ e.
      let is = newest_is os bs top (length os) top e in
      let q = hangs_from os top top is.0.1 in
      omega (arith, f.older top (top, q.0) q.1))

  module _ (now : List Bool) (e : EndsBelow os top left now) where
    was : (c : ℕ) → lives now c ≡ true → lives bs c ≡ true
    was c h = (still bs top c (e.shrinks c h)).1

    abbrev pub hit : ℕ → Bool
    hit c = list_any (is_slot p s) (line_of (all os bs f) c)

    hit_none : (c : ℕ) → parent_at os c ≡ None → hit c ≡ false
    hit_none c none = ap (list_any (is_slot p s)) (line_is os bs f c ∙ ap (line_under (all os bs f)) none)

    hit_some : (c : ℕ) (q : ℕ × ℕ) → parent_at os c ≡ Some q → hit c ≡ (is_slot p s q || hit q.0)
    hit_some c q some = ap (list_any (is_slot p s)) (line_is os bs f c ∙ ap (line_under (all os bs f)) some)

    -- who lived goes on where its parent does, but for the top
    goes_on : (c : ℕ) (q : ℕ × ℕ) → lives bs c ≡ true → parent_at os c ≡ Some q → c ≢ top → lives now c ≡ lives now q.0
    goes_on c q h some n = at (lives now c) refl
      where
        at : (b : Bool) → lives now c ≡ b → lives now c ≡ lives now q.0
        at true l = l ∙ sym (e.closed c q l some)
        at false d = d ∙ sym (ended_parent os now c q some (e.cause c (not_cleared bs top c n ∙ h) d))

    now_below : (n c : ℕ) → c < n → lives bs c ≡ true → lives now c ≡ not (hit c)
    now_below zero c less h = absurd (omega arith)
    now_below (suc n) c less h = at (parent_at os c) refl (now_below n)
      where
        at : (q : Option (ℕ × ℕ)) → parent_at os c ≡ q → ((d : ℕ) → d < n → lives bs d ≡ true → lives now d ≡ not (hit d)) → lives now c ≡ not (hit c)
        at None none rest = life (lives now c) refl ∙ sym (ap not (hit_none c none))
          where
            life : (b : Bool) → lives now c ≡ b → lives now c ≡ true
            life true l = l
            life false d =
                let other : c ≢ top = λ same. cc (up, ap (parent_at os) same) in
                absurd (cc (e.cause c (not_cleared bs top c other ∙ h) d, ap (λ q. option_map_or (λ (q : ℕ × ℕ). not (lives now q.0)) q false) none))
        at (Some q) some rest = by (is_slot p s q) refl
          where
            by : (b : Bool) → is_slot p s q ≡ b → lives now c ≡ not (hit c)
            by true slot =
                let same : c ≡ top = sits_alone os bs f p s c top (ap (λ b. b && hangs_in p s (parent_at os c)) h ∙ ap (hangs_in p s) some ∙ slot) here in
                ap (lives now) same ∙ e.gone ∙ sym (ap not (hit_some c q some ∙ ap (λ b. b || hit q.0) slot))
            by false slot =
                let other : c ≢ top = λ same. cc (slot, slot_in p s, ap (hangs_in p s) (sym some ∙ ap (parent_at os) same ∙ up)) in
                goes_on c q h some other ∙ rest q.0 (omega (arith, f.older c q some)) (f.rooted c q h some) ∙ sym (ap not (hit_some c q some ∙ ap (λ b. b || hit q.0) slot))

    pub now_is : (c : ℕ) → lives now c ≡ (lives bs c && not (hit c))
    now_is c = at (lives bs c) refl
      where
        at : (b : Bool) → lives bs c ≡ b → lives now c ≡ (lives bs c && not (hit c))
        at true h = now_below (suc c) c (omega arith) h ∙ sym (ap (λ b. b && not (hit c)) h)
        at false d = not_true _ (λ h. cc (was c h)) ∙ sym (ap (λ b. b && not (hit c)) d)

    pub forest_left : IsForest os now
    forest_left = record {
      marks = e.marks ∙ length-set bs top false ∙ f.marks;
      few = f.few;
      root = f.root;
      older = f.older;
      hung = f.hung;
      rooted = e.closed;
      alone = λ c d q h g. f.alone c d q (was c h) (was d g);
    }

    pub chains_left : (ls : List Links) → IsChained os left ls → IsChained os now ls
    chains_left ls chained = record {
      long = chained.long;
      youngest = λ c h. chained.youngest c (e.shrinks c h) ∙ newest_agree os left now c (length os) (agree c h);
      next = λ c q h some. chained.next c q (e.shrinks c h) some ∙ newest_agree os left now q.0 c (agree q.0 (e.closed c q h some));
    }
      where
        agree : (c : ℕ) → lives now c ≡ true → (d : ℕ) → hangs_at os c d ≡ true → lives left d ≡ lives now d
        agree c h d hung = at (lives left d) (lives now d) refl refl
          where
            at : (a b : Bool) → lives left d ≡ a → lives now d ≡ b → lives left d ≡ lives now d
            at true true x y = x ∙ sym y
            at true false x y = let q = hangs_from os c d hung in absurd (cc (ended_parent os now d (c, q.0) q.1 (e.cause d x y)))
            at false true x y = absurd (cc (e.shrinks d y))
            at false false x y = x ∙ sym y

    pub view_left : all os now forest_left ≡ map (felled p s) (all os bs f)
    view_left = same_list _ _ (λ k.
        marked_at (made os) now k (same_length os now forest_left)
        ∙ at k (slice_get (made os) k) refl
        ∙ sym (slice_get-map (felled p s) (all os bs f) k ∙ ap (option_map (felled p s)) (marked_at (made os) bs k (same_length os bs f))))
      where
        at : (k : ℕ) (g : Option Instance) → slice_get (made os) k ≡ g
            → option_map (λ (i : Instance). record i { living = lives now k }) (slice_get (made os) k) ≡ option_map (felled p s) (option_map (λ (i : Instance). record i { living = lives bs k }) (slice_get (made os) k))
        at k None none = ap (option_map (λ (i : Instance). record i { living = lives now k })) none ∙ sym (ap (λ g. option_map (felled p s) (option_map (λ (i : Instance). record i { living = lives bs k }) g)) none)
        at k (Some i) some =
            let line : line_of (all os bs f) k ≡ i.line = line_of-marked (made os) bs k (same_length os bs f) ∙ ap (λ g. option_map_or (λ (i : Instance). i.line) g []) some in
            let mark : lives now k ≡ (lives bs k && not (list_any (is_slot p s) i.line)) = now_is k ∙ ap (λ l. lives bs k && not (list_any (is_slot p s) l)) line in
            ap (option_map (λ (i : Instance). record i { living = lives now k })) some ∙ ap (λ b. Some (record i { living = b })) mark ∙ sym (ap (λ g. option_map (felled p s) (option_map (λ (i : Instance). record i { living = lives bs k }) g)) some)

    sits_before : (a t c : ℕ) → sits os now a t c ≡ true → sits os bs a t c ≡ true
    sits_before a t c h = ap (λ b. b && hangs_in a t (parent_at os c)) (was c (both_left _ _ h)) ∙ both_right (lives now c) _ h

    pub occupants_left : (a t : ℕ) → occupant (all os now forest_left) a t ≡ (cond (lives now a && not (is_slot p s (a, t))) (occupant (all os bs f) a t) None)
    occupants_left a t = life (lives now a) refl
      where
        life : (b : Bool) → lives now a ≡ b → occupant (all os now forest_left) a t ≡ (cond (lives now a && not (is_slot p s (a, t))) (occupant (all os bs f) a t) None)
        life false d = occupant_none os now forest_left a t (λ c. not_true _ (λ h. cc (e.closed c (a, t) (both_left _ _ h) (in_slot a t (parent_at os c) (both_right (lives now c) _ h)))))
            ∙ sym (ap (λ b. cond (b && not (is_slot p s (a, t))) (occupant (all os bs f) a t) None) d)
        life true l = slot (is_slot p s (a, t)) refl ∙ sym (ap (λ b. cond (b && not (is_slot p s (a, t))) (occupant (all os bs f) a t) None) l)
          where
            slot : (b : Bool) → is_slot p s (a, t) ≡ b → occupant (all os now forest_left) a t ≡ cond (not (is_slot p s (a, t))) (occupant (all os bs f) a t) None
            slot true same = occupant_none os now forest_left a t (λ c. not_true _ (λ h.
                let old = sits_before a t c h in
                let up_c = in_slot a t (parent_at os c) (both_right (lives bs c) _ old) in
                let c_is : c ≡ top = sits_alone os bs f p s c top (ap (λ b. b && hangs_in p s (parent_at os c)) (both_left _ _ old) ∙ ap (hangs_in p s) up_c ∙ same) here in
                cc (both_left (lives now c) (hangs_in a t (parent_at os c)) h, e.gone, ap (lives now) c_is))) ∙ sym (ap (λ b. cond (not b) (occupant (all os bs f) a t) None) same)
            slot false other = sitter_is os now forest_left a t (occupant (all os bs f) a t) (kept (occupant (all os bs f) a t) refl) ∙ sym (ap (λ b. cond (not b) (occupant (all os bs f) a t) None) other)
              where
                kept : (o : Option ℕ) → occupant (all os bs f) a t ≡ o → IsSitter os now a t o
                kept None none = λ c. not_true _ (λ h. cc (none, sitter_is os bs f a t (Some c) (sits_before a t c h)))
                kept (Some x) some =
                    let old = occupant_sits os bs f a t x some in
                    let up_x = in_slot a t (parent_at os x) (both_right (lives bs x) _ old) in
                    let not_top : x ≢ top = λ e. cc (other, slot_in p s, ap (hangs_in p s) (sym up_x ∙ ap (parent_at os) e ∙ up)) in
                    ap (λ b. b && hangs_in a t (parent_at os x)) (goes_on x (a, t) (both_left _ _ old) up_x not_top ∙ l) ∙ both_right (lives bs x) _ old
