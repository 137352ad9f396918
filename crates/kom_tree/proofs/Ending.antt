-- How a subtree is ended, step by step.
use Rattle.std.proofs.Common.{◌≡◌, ◌≢◌, ℕ, zero, suc, ◌+◌, ◌*◌, ◌<◌, ◌≤◌, Bool, true, false, cond, not, ◌⊎◌, inl, inr, ⊎_elim, eqb, List, [], ◌∷◌, ◌++◌, length, set, get_or, Option, Some, None, refl, sym, ap, ◌∙◌, subst, arith, length-append, length-set}
use Rattle.std.specs.List.{count_by}
use Rattle.std.specs.Option.{option_map_or}
use Rattle.std.proofs.lemmas.Bool.{eq-eqb, eqb-true}
use Rattle.std.proofs.lemmas.List.Sums.{count_by-le-length, sum_by-set}
use Rattle.std.proofs.Math.Nat.{mul-le-mul_right}
use Rattle.std.proofs.lemmas.Option.{unwrap_or-slice_get}
use Rattle.kom_tree.specs.declared.family.Origin.{Origin}
use Rattle.kom_tree.specs.declared.family.Links.{Links}
use Rattle.kom_tree.specs.Parts.{parent_at, lives, hangs_at, newest, child_at, sibling_at, IsChained, IsEnding, EndsBelow, IsAmong, IsAhead, parent_ended, place_of}
use Rattle.kom_tree.proofs.Views.{lives_within}
use Rattle.kom_tree.proofs.Chains.{hangs, hangs_from, newest_is, newest_above}

-- ---- one mark cleared

pub clear : List Bool → ℕ → List Bool
clear bs c = set bs c false

pub cleared : (bs : List Bool) (c : ℕ) → lives (set bs c false) c ≡ false
cleared [] c = refl
cleared (b ∷ bs) zero = refl
cleared (b ∷ bs) (suc c) = cleared bs c

pub not_cleared : (bs : List Bool) (c d : ℕ) → d ≢ c → lives (set bs c false) d ≡ lives bs d
not_cleared [] c d n = refl
not_cleared (b ∷ bs) zero zero n = absurd (n refl)
not_cleared (b ∷ bs) zero (suc d) n = refl
not_cleared (b ∷ bs) (suc c) zero n = refl
not_cleared (b ∷ bs) (suc c) (suc d) n = not_cleared bs c d (λ e. n (ap suc e))

pub still : (bs : List Bool) (c d : ℕ) → lives (set bs c false) d ≡ true → (d ≢ c) × (lives bs d ≡ true)
still bs c d h =
    let other : d ≢ c = λ e. cc (cleared bs c, ap (lives (set bs c false)) e) in
    (other, sym (not_cleared bs c d other) ∙ h)

pub dead_stays : (bs : List Bool) (c d : ℕ) → lives bs d ≡ false → lives (set bs c false) d ≡ false
dead_stays [] c d h = refl
dead_stays (b ∷ bs) zero zero h = refl
dead_stays (b ∷ bs) zero (suc d) h = h
dead_stays (b ∷ bs) (suc c) zero h = h
dead_stays (b ∷ bs) (suc c) (suc d) h = dead_stays bs c d h

pub same_number : (a b : ℕ) → (a ≡ b) ⊎ (a ≢ b)
same_number a b = go (eqb a b) refl
  where
    go : (t : Bool) → eqb a b ≡ t → (a ≡ b) ⊎ (a ≢ b)
    go true e = inl (eqb-true a b e)
    go false e = inr (λ s. cc (e, eq-eqb a b s))

parent_ended-set : (os : List Origin) (bs : List Bool) (c d : ℕ) → parent_ended os bs d ≡ true → parent_ended os (set bs c false) d ≡ true
parent_ended-set os bs c d h = go (parent_at os d) refl
  where
    at : Option (ℕ × ℕ) → List Bool → Bool
    at q bs = option_map_or (λ (q : ℕ × ℕ). not (lives bs q.0)) q false

    go : (q : Option (ℕ × ℕ)) → parent_at os d ≡ q → parent_ended os (set bs c false) d ≡ true
    go None e = absurd (cc)
    go (Some q) e =
        let dead : lives bs q.0 ≡ false = not_true _ (sym (ap (λ q. option_map_or (λ (q : ℕ × ℕ). not (lives bs q.0)) q false) e) ∙ h) in
        ap (λ q. option_map_or (λ (q : ℕ × ℕ). not (lives (set bs c false) q.0)) q false) e ∙ ap not (dead_stays bs c q.0 dead)
      where
        not_true : (b : Bool) → not b ≡ true → b ≡ false
        not_true true e = absurd (cc)
        not_true false e = refl

pub parent_ended_by : (os : List Origin) (bs : List Bool) (c : ℕ) (q : ℕ × ℕ) → parent_at os c ≡ Some q → lives bs q.0 ≡ false → parent_ended os bs c ≡ true
parent_ended_by os bs c q e dead = ap (λ q. option_map_or (λ (q : ℕ × ℕ). not (lives bs q.0)) q false) e ∙ ap not dead

count_cleared : (bs : List Bool) (c : ℕ) → lives bs c ≡ true → count_by (λ b. b) (set bs c false) + 1 ≡ count_by (λ b. b) bs
count_cleared bs c h =
    let here : get_or bs c false ≡ true = sym (unwrap_or-slice_get bs c false) ∙ h in
    let one : cond {A = ℕ} (get_or bs c false) 1 0 ≡ 1 = ap (λ b. cond b 1 0) here in
    let total : count_by (λ b. b) (set bs c false) + cond {A = ℕ} (get_or bs c false) 1 0 ≡ count_by (λ b. b) bs + 0 = sum_by-set (λ (b : Bool). cond b 1 0) bs c false false (lives_within bs c h) in
    omega arith

among_push : (ds : List ℕ) (d c : ℕ) → IsAmong (ds ++ d ∷ []) c → IsAmong ds c ⊎ (c ≡ d)
among_push [] d c h = ⊎_elim (λ e. inr e) (λ n. absurd n) h
among_push (x ∷ ds) d c h = ⊎_elim (λ e. inl (inl e)) (λ r. ⊎_elim (λ i. inl (inr i)) (λ e. inr e) (among_push ds d c r)) h

among_left : (ds es : List ℕ) (c : ℕ) → IsAmong ds c → IsAmong (ds ++ es) c
among_left [] es c h = absurd h
among_left (x ∷ ds) es c h = ⊎_elim (λ e. inl e) (λ r. inr (among_left ds es c r)) h

pub among_last : (ds : List ℕ) (d : ℕ) → IsAmong (ds ++ d ∷ []) d
among_last [] d = inl refl
among_last (x ∷ ds) d = inr (among_last ds d)

module _ (os : List Origin) (top : ℕ) (was : List Bool) (ls : List Links) (marks : length was ≡ length os) (chained : IsChained os was ls) where
  -- the children of c that the new head of a chain leaves ahead
  pub ahead_of_all : (p c : ℕ) (q : ℕ × ℕ) → child_at ls p ≡ newest os was p (length os) → lives was c ≡ true → parent_at os c ≡ Some q → q.0 ≡ p → IsAhead os (child_at ls p) q.0 c
  ahead_of_all p c q youngest alive up same =
      let under : hangs_at os p c ≡ true = hangs os p q.1 c (up ∙ ap (λ n. Some (n, q.1)) same) in
      let first = newest_above os was p (length os) c (alive, under) (omega (arith, marks, lives_within was c alive)) in
      let is = newest_is os was p (length os) first.0 first.1 in
      record { at = first.0; is = youngest ∙ first.1; hangs = subst (λ n. hangs_at os n first.0 ≡ true) (sym same) is.0.1; not_younger = first.2 }

  pub ahead_of_next : (d c : ℕ) (q : ℕ × ℕ) → lives was d ≡ true → hangs_at os q.0 d ≡ true → lives was c ≡ true → parent_at os c ≡ Some q → c < d → IsAhead os (sibling_at ls d) q.0 c
  ahead_of_next d c q living under alive up less =
      let here = hangs_from os q.0 d under in
      let rest = newest_above os was q.0 d c (alive, hangs os q.0 q.1 c up) less in
      let is = newest_is os was q.0 d rest.0 rest.1 in
      record { at = rest.0; is = chained.next d (q.0, here.0) living here.1 ∙ rest.1; hangs = is.0.1; not_younger = rest.2 }

  heading_child : (p : ℕ) → child_at ls p ≡ newest os was p (length os) → (now : List Bool) → lives now p ≡ false → (c : ℕ) → child_at ls p ≡ Some c → (lives was c ≡ true) × (parent_ended os now c ≡ true)
  heading_child p youngest now dead c e =
      let is = newest_is os was p (length os) c (sym youngest ∙ e) in
      let up = hangs_from os p c is.0.1 in
      (is.0.0, parent_ended_by os now c (p, up.0) up.1 dead)

  pub begin : lives was top ≡ false → child_at ls top ≡ newest os was top (length os) → ((c : ℕ) (q : ℕ × ℕ) → lives was c ≡ true → parent_at os c ≡ Some q → q.0 ≢ top → lives was q.0 ≡ true) → IsEnding os top was was [] (child_at ls top)
  begin gone youngest rooted = record {
    marks = refl;
    shrinks = λ c h. h;
    gone = gone;
    closed = λ c q h up. ⊎_elim
        (λ e. inr (inr (ahead_of_all top c q youngest h up e)))
        (λ n. inl (rooted c q h up n))
        (same_number q.0 top);
    cause = λ c h g. absurd (cc);
    waiting = λ c h. absurd h;
    heading = heading_child top youngest was gone;
    room = omega (arith, count_by-le-length {X = Bool});
  }

  module _ (now : List Bool) (pending : List ℕ) where
    -- who is alive is not the head of the chain, or the head is passed
    closed_past : (c : ℕ) → IsEnding os top was now pending (Some c) → (d : ℕ) (q : ℕ × ℕ) → d ≢ c → lives now d ≡ true → parent_at os d ≡ Some q
        → (lives now q.0 ≡ true) ⊎ (IsAmong pending q.0 ⊎ IsAhead os (sibling_at ls c) q.0 d)
    closed_past c s d q n alive up = ⊎_elim (λ l. inl l) (λ r. ⊎_elim (λ a. inr (inl a)) (λ a. inr (inr (past a))) r) (s.closed d q alive up)
      where
        past : IsAhead os (Some c) q.0 d → IsAhead os (sibling_at ls c) q.0 d
        past a =
            let same : c ≡ a.at = cc (a.is) in
            ahead_of_next c d q (s.heading c refl).0 (subst (λ x. hangs_at os q.0 x ≡ true) (sym same) a.hangs) (s.shrinks d alive) up (omega (arith, n, same, a.not_younger))

    heading_next : (c : ℕ) → IsEnding os top was now pending (Some c) → (e : ℕ) → sibling_at ls c ≡ Some e → (lives was e ≡ true) × (parent_ended os now e ≡ true)
    heading_next c s e is = go (parent_at os c) refl
      where
        go : (q : Option (ℕ × ℕ)) → parent_at os c ≡ q → (lives was e ≡ true) × (parent_ended os now e ≡ true)
        go None up = absurd (cc ((s.heading c refl).1))
        go (Some q) up =
            let is = newest_is os was q.0 c e (sym (chained.next c q (s.heading c refl).0 up) ∙ is) in
            let at = hangs_from os q.0 e is.0.1 in
            let ended : lives now q.0 ≡ false = not_true _ (sym (ap (λ q. option_map_or (λ (q : ℕ × ℕ). not (lives now q.0)) q false) up) ∙ (s.heading c refl).1) in
            (is.0.0, parent_ended_by os now e (q.0, at.0) at.1 ended)
          where
            not_true : (b : Bool) → not b ≡ true → b ≡ false
            not_true true e = absurd (cc)
            not_true false e = refl

    -- the chain leads down
    pub next_lower : (c : ℕ) → IsEnding os top was now pending (Some c) → place_of (sibling_at ls c) < place_of (Some c)
    next_lower c s = go (sibling_at ls c) refl
      where
        go : (n : Option ℕ) → sibling_at ls c ≡ n → place_of (sibling_at ls c) < suc c
        go None e = omega (arith, ap place_of e)
        go (Some d) e = up (parent_at os c) refl
          where
            up : (q : Option (ℕ × ℕ)) → parent_at os c ≡ q → place_of (sibling_at ls c) < suc c
            up None f = absurd (cc ((s.heading c refl).1))
            up (Some q) f =
                let is = newest_is os was q.0 c d (sym (chained.next c q (s.heading c refl).0 f) ∙ e) in
                omega (arith, is.1, ap place_of e)

    pub skip : (c : ℕ) → IsEnding os top was now pending (Some c) → lives now c ≡ false → IsEnding os top was now pending (sibling_at ls c)
    skip c s dead = record {
      marks = s.marks;
      shrinks = s.shrinks;
      gone = s.gone;
      closed = λ d q alive up. closed_past c s d q (λ e. cc (ap (lives now) e)) alive up;
      cause = s.cause;
      waiting = s.waiting;
      heading = heading_next c s;
      room = s.room;
    }

    pub mark : (c : ℕ) → IsEnding os top was now pending (Some c) → lives now c ≡ true → IsEnding os top was (set now c false) (pending ++ c ∷ []) (sibling_at ls c)
    mark c s alive = record {
      marks = length-set now c false ∙ s.marks;
      shrinks = λ d h. s.shrinks d (still now c d h).1;
      gone = dead_stays now c top s.gone;
      closed = λ d q h up. ⊎_elim
          (λ l. ⊎_elim (λ e. inr (inl (subst (IsAmong (pending ++ c ∷ [])) (sym e) (among_last pending c)))) (λ n. inl (not_cleared now c q.0 n ∙ l)) (same_number q.0 c))
          (λ r. ⊎_elim (λ a. inr (inl (among_left pending _ q.0 a))) (λ a. inr (inr a)) r)
          (closed_past c s d q (still now c d h).0 (still now c d h).1 up);
      cause = λ d h g. ⊎_elim
          (λ e. subst (λ x. parent_ended os (set now c false) x ≡ true) (sym e) (parent_ended-set os now c c (s.heading c refl).1))
          (λ o. parent_ended-set os now c d (s.cause d h (sym (not_cleared now c d o) ∙ g)))
          (same_number d c);
      waiting = λ d a. ⊎_elim
          (λ b. ((s.waiting d b).0, dead_stays now c d (s.waiting d b).1))
          (λ e. (subst (λ x. lives was x ≡ true) (sym e) (s.shrinks c alive), subst (λ x. lives (set now c false) x ≡ false) (sym e) (cleared now c)))
          (among_push pending c d a);
      heading = λ e is. ((heading_next c s e is).0, parent_ended-set os now c e (heading_next c s e is).1);
      room = omega (arith, s.room, count_cleared now c alive, length-append pending (c ∷ []));
    }

    pub next_pending : (c : ℕ) → IsEnding os top was now (pending ++ c ∷ []) None → IsEnding os top was now pending (child_at ls c)
    next_pending c s =
        let here = s.waiting c (among_last pending c) in
        record {
          marks = s.marks;
          shrinks = s.shrinks;
          gone = s.gone;
          closed = λ d q alive up. ⊎_elim (λ l. inl l)
              (λ r. ⊎_elim (λ a. ⊎_elim (λ b. inr (inl b)) (λ e. inr (inr (ahead_of_all c d q (chained.youngest c here.0) (s.shrinks d alive) up e))) (among_push pending c q.0 a)) (λ a. absurd (cc (a.is))) r)
              (s.closed d q alive up);
          cause = s.cause;
          waiting = λ d a. s.waiting d (among_left pending _ d a);
          heading = heading_child c (chained.youngest c here.0) now here.1;
          room = omega (arith, s.room, length-append pending (c ∷ []));
        }

    pub ended : IsEnding os top was now [] None → EndsBelow os top was now
    ended s = record {
      marks = s.marks;
      shrinks = s.shrinks;
      gone = s.gone;
      closed = λ c q alive up. ⊎_elim (λ l. l) (λ r. ⊎_elim (λ a. absurd a) (λ a. absurd (cc (a.is))) r) (s.closed c q alive up);
      cause = s.cause;
    }

-- ---- who heads the chain is a place of the list, and a mark cleared is one less

pub count_one : (bs : List Bool) (c : ℕ) → lives bs c ≡ true → 1 ≤ count_by (λ b. b) bs
count_one bs c h = omega (arith, count_cleared bs c h)

pub head_within : {os : List Origin} {top : ℕ} {was now : List Bool} {pending : List ℕ} {c : ℕ} → IsEnding os top was now pending (Some c) → c < length now
head_within {os} {top} {was} {now} {pending} {c} s = omega (arith, s.marks, lives_within was c (s.heading c refl).0)

pub fewer : (bs : List Bool) (c : ℕ) → lives bs c ≡ true → count_by (λ b. b) (set bs c false) + 1 ≡ count_by (λ b. b) bs
fewer = count_cleared

-- one step of work less weighs more than any place in a chain
pub less_work : (a b k place other : ℕ) → a + 1 ≤ b → place < k → a * k + place < b * k + other
less_work a b k place other h l = omega (arith, mul-le-mul_right k h)

-- the next in a chain is a place of the list
pub place_small : {os : List Origin} {top : ℕ} {was now : List Bool} {pending : List ℕ} {next : Option ℕ} → IsEnding os top was now pending next → place_of next < length was + 2
place_small {next = None} s = omega arith
place_small {next = Some c} s = omega (arith, s.marks, head_within s)

pub no_items : {X : Type 0} (xs : List X) → length xs ≡ 0 → xs ≡ []
no_items [] e = refl
no_items (x ∷ xs) e = absurd (omega arith)
