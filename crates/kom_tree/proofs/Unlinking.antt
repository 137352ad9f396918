-- What a chain is without one of its members.
use Rattle.std.proofs.Common.{◌≡◌, ◌≢◌, ℕ, zero, suc, ◌<◌, ◌≤◌, Bool, true, false, cond, ◌&&◌, ⊎_elim, eqb, List, length, set, Option, Some, None, refl, sym, ap, ◌∙◌, arith}
use Rattle.std.specs.Option.{option_and_then}
use Rattle.std.proofs.lemmas.Bool.{eq-eqb, ne_eqb, cases_lt}
use Rattle.std.proofs.lemmas.Option.{some_pair_parts}
use Rattle.kom_tree.specs.declared.family.Origin.{Origin}
use Rattle.kom_tree.specs.declared.family.Links.{Links}
use Rattle.kom_tree.specs.Parts.{parent_at, lives, hangs_at, newest, child_at, sibling_at, IsForest, IsChained}
use Rattle.kom_tree.proofs.Views.{lives_within}
use Rattle.kom_tree.proofs.Chains.{hangs, hangs_from, newest_is, newest_above}
use Rattle.kom_tree.proofs.Ending.{cleared, not_cleared, still, same_number}

-- the chain's next, where `after` comes in place of the one that is gone
abbrev pub without : ℕ → Option ℕ → Option ℕ → Option ℕ
without gone after o = option_and_then (λ d. cond (eqb d gone) after (Some d)) o

pub at_gone : (gone : ℕ) (after : Option ℕ) → without gone after (Some gone) ≡ after
at_gone gone after = ap (λ b. cond b after (Some gone)) (eq-eqb gone gone refl)

pub at_other : (gone : ℕ) (after o : Option ℕ) → o ≢ Some gone → without gone after o ≡ o
at_other gone after None n = refl
at_other gone after (Some d) n = ap (λ b. cond b after (Some d)) (ne_eqb d gone (λ e. n (ap Some e)))

pub hangs_once : (os : List Origin) (p q c : ℕ) → hangs_at os p c ≡ true → hangs_at os q c ≡ true → p ≡ q
hangs_once os p q c h k = let a = hangs_from os p c h in let b = hangs_from os q c k in (some_pair_parts p q a.0 b.0 (sym a.1 ∙ b.1)).0

module _ (os : List Origin) (bs : List Bool) (gone c : ℕ) where
  abbrev left : List Bool
  left = set bs gone false

  -- below the one that is gone nothing is another
  newest_below : (b : ℕ) → b ≤ gone → newest os left c b ≡ newest os bs c b
  unfolding newest
  newest_below zero h = refl
  newest_below (suc b) h =
      let same : lives left b ≡ lives bs b = not_cleared bs gone b (λ e. absurd (omega (arith, e))) in
      ap (λ t. cond (t && hangs_at os c b) (Some b) (newest os left c b)) same ∙ ap (cond (lives bs b && hangs_at os c b) (Some b)) (newest_below b (omega arith))

  newest_here : (b : ℕ) → newest os left c b ≡ without gone (newest os bs c gone) (newest os bs c b) → b ≡ gone → newest os left c (suc b) ≡ without gone (newest os bs c gone) (newest os bs c (suc b))
  unfolding newest
  newest_here b rest e =
      let low : newest os left c b ≡ newest os bs c gone = ap (newest os left c) e ∙ newest_below gone (omega arith) in
      let dead : lives left b ≡ false = ap (lives left) e ∙ cleared bs gone in
      let lhs : newest os left c (suc b) ≡ newest os left c b = ap (λ t. cond (t && hangs_at os c b) (Some b) (newest os left c b)) dead in
      elim (lives bs b && hangs_at os c b) as (λ t. newest os left c (suc b) ≡ without gone (newest os bs c gone) (cond t (Some b) (newest os bs c b))) [
        | true ↦ lhs ∙ low ∙ sym (ap (λ d. without gone (newest os bs c gone) (Some d)) e ∙ at_gone gone _)
        | false ↦ lhs ∙ rest
      ]

  newest_other : (b : ℕ) → newest os left c b ≡ without gone (newest os bs c gone) (newest os bs c b) → b ≢ gone → newest os left c (suc b) ≡ without gone (newest os bs c gone) (newest os bs c (suc b))
  unfolding newest
  newest_other b rest n =
      let same : lives left b ≡ lives bs b = not_cleared bs gone b n in
      let lhs : newest os left c (suc b) ≡ cond (lives bs b && hangs_at os c b) (Some b) (newest os left c b) = ap (λ t. cond (t && hangs_at os c b) (Some b) (newest os left c b)) same in
      lhs ∙ elim (lives bs b && hangs_at os c b) as (λ t. cond t (Some b) (newest os left c b) ≡ without gone (newest os bs c gone) (cond t (Some b) (newest os bs c b))) [
        | true ↦ sym (at_other gone _ (Some b) (λ e. n (cc)))
        | false ↦ rest
      ]

  pub newest_without : (b : ℕ) → newest os left c b ≡ without gone (newest os bs c gone) (newest os bs c b)
  unfolding newest
  newest_without zero = refl
  newest_without (suc b) = ⊎_elim (λ e. newest_here b (newest_without b) e) (λ n. newest_other b (newest_without b) n) (same_number b gone)

module _ (os : List Origin) (bs : List Bool) (ls : List Links) (f : IsForest os bs) (chained : IsChained os bs ls) (p gone : ℕ) (alive : lives bs gone ≡ true) (under : hangs_at os p gone ≡ true) where
  -- the head of another chain, and one that is no elder of it, lead elsewhere
  pub heads_elsewhere : (c : ℕ) → lives bs c ≡ true → child_at ls c ≡ Some gone → c ≡ p
  heads_elsewhere c living e =
      let is = newest_is os bs c (length os) gone (sym (chained.youngest c living) ∙ e) in
      hangs_once os c p gone is.0.1 under

  pub next_elsewhere : (c : ℕ) (q : ℕ × ℕ) → lives bs c ≡ true → parent_at os c ≡ Some q → sibling_at ls c ≡ Some gone → (q.0 ≡ p) × (gone < c)
  next_elsewhere c q living up e =
      let is = newest_is os bs q.0 c gone (sym (chained.next c q living up) ∙ e) in
      (hangs_once os q.0 p gone is.0.1 under, is.1)

  -- a younger child of p is no further from the head than gone
  pub not_passed : (b c : ℕ) → lives bs c ≡ true → hangs_at os p c ≡ true → c < b → gone < c → newest os bs p b ≢ Some gone
  not_passed b c living h less above e =
      let first = newest_above os bs p b c (living, h) less in
      let same : first.0 ≡ gone = cc (first.1) in
      omega (arith, same, first.2)

  module _ (nl : List Links) (long : length nl ≡ length ls) where
    pub chain_is : ((c : ℕ) → c ≢ gone → lives bs c ≡ true → child_at nl c ≡ without gone (newest os bs c gone) (child_at ls c))
        → ((c : ℕ) (q : ℕ × ℕ) → c ≢ gone → lives bs c ≡ true → parent_at os c ≡ Some q → sibling_at nl c ≡ without gone (newest os bs q.0 gone) (sibling_at ls c))
        → IsChained os (set bs gone false) nl
    chain_is heads nexts = record {
      long = long ∙ chained.long;
      youngest = λ c h. let s = still bs gone c h in heads c s.0 s.1 ∙ ap (without gone (newest os bs c gone)) (chained.youngest c s.1) ∙ sym (newest_without os bs gone c (length os));
      next = λ c q h up. let s = still bs gone c h in nexts c q s.0 s.1 up ∙ ap (without gone (newest os bs q.0 gone)) (chained.next c q s.1 up) ∙ sym (newest_without os bs gone q.0 c);
    }

    after_is : newest os bs p gone ≡ sibling_at ls gone
    after_is = let h = hangs_from os p gone under in sym (chained.next gone (p, h.0) alive h.1)

    -- the head of p was gone
    pub unlinked_head : child_at ls p ≡ Some gone → child_at nl p ≡ sibling_at ls gone → ((d : ℕ) → d ≢ p → child_at nl d ≡ child_at ls d) → ((d : ℕ) → sibling_at nl d ≡ sibling_at ls d)
        → lives bs p ≡ true → IsChained os (set bs gone false) nl
    unlinked_head was here others siblings living = chain_is
        (λ c n h. ⊎_elim
        (λ e. ap (child_at nl) e ∙ here ∙ sym after_is ∙ sym (at_gone gone _) ∙ ap (λ x. without gone (newest os bs x gone) (Some gone)) (sym e) ∙ ap (without gone (newest os bs c gone)) (sym (ap (child_at ls) e ∙ was)))
        (λ o. others c o ∙ sym (at_other gone _ (child_at ls c) (λ e. o (heads_elsewhere c h e))))
        (same_number c p))
        (λ c q n h up. siblings c ∙ sym (at_other gone _ (sibling_at ls c) (λ e.
        let at = next_elsewhere c q h up e in
        not_passed (length os) c h (hangs os p q.1 c (up ∙ ap (λ x. Some (x, q.1)) at.0)) (omega (arith, f.marks, lives_within bs c h)) at.1 (sym (chained.youngest p living) ∙ was))))

    -- the next after y was gone
    pub unlinked_after : (y : ℕ) → lives bs y ≡ true → hangs_at os p y ≡ true → sibling_at ls y ≡ Some gone → sibling_at nl y ≡ sibling_at ls gone
        → ((d : ℕ) → d ≢ y → sibling_at nl d ≡ sibling_at ls d) → ((d : ℕ) → child_at nl d ≡ child_at ls d) → lives bs p ≡ true → IsChained os (set bs gone false) nl
    unlinked_after y living hung was here others children parent = chain_is
        (λ c n h. children c ∙ sym (at_other gone _ (child_at ls c) (λ e.
        let same = heads_elsewhere c h e in
        let up = hangs_from os p y hung in
        let at = next_elsewhere y (p, up.0) living up.1 was in
        not_passed (length os) y living hung (omega (arith, f.marks, lives_within bs y living)) at.1 (sym (chained.youngest p parent) ∙ ap (child_at ls) (sym same) ∙ e))))
        (λ c q n h up. ⊎_elim
        (λ e. ap (sibling_at nl) e ∙ here ∙ sym after_is ∙ sym (at_gone gone _) ∙ ap (λ x. without gone (newest os bs x gone) (Some gone)) (sym (parent_same c q e up)) ∙ ap (without gone (newest os bs q.0 gone)) (sym (ap (sibling_at ls) e ∙ was)))
        (λ o. others c o ∙ sym (at_other gone _ (sibling_at ls c) (λ e. one_only c q h up e o)))
        (same_number c y))
      where
        parent_same : (c : ℕ) (q : ℕ × ℕ) → c ≡ y → parent_at os c ≡ Some q → q.0 ≡ p
        parent_same c q e up = hangs_once os q.0 p y (hangs os q.0 q.1 y (sym (ap (parent_at os) e) ∙ up)) hung

        one_only : (c : ℕ) (q : ℕ × ℕ) → lives bs c ≡ true → parent_at os c ≡ Some q → sibling_at ls c ≡ Some gone → c ≢ y → ⊥
        one_only c q h up e o =
            let yp = hangs_from os p y hung in
            let ya = next_elsewhere y (p, yp.0) living yp.1 was in
            let ca = next_elsewhere c q h up e in
            let ch = hangs os p q.1 c (up ∙ ap (λ x. Some (x, q.1)) ca.0) in
            let cp = hangs_from os p c ch in
            ⊎_elim
            (λ less. not_passed y c h ch less ca.1 (sym (chained.next y (p, yp.0) living yp.1) ∙ was))
            (λ more. not_passed c y living hung (omega (arith, o, more)) ya.1 (sym (chained.next c (p, cp.0) h cp.1) ∙ e))
            (cases_lt c y)
