-- Settling, mark by mark.
use Rattle.std.proofs.Common.{◌≡◌, ℕ, ◌+◌, ◌<◌, ◌≤◌, Bool, true, false, if◌then◌else◌, not, ◌&&◌, ◌||◌, ◌==◌, refl, sym, ap, ◌∙◌, subst, List, [], ◌∷◌, ◌++◌, length, Some, None, arith}
use Rattle.std.proofs.lemmas.Bool.{eqb-true, eq-eqb}
use Rattle.std.proofs.lemmas.List.{append-nil, length-append}
use Rattle.kom_base.specs.Lists.{holds_number}
use Rattle.kom_comps.specs.Members.{IsLeast, Members, has}
use Rattle.kom_refine.specs.States.{State}
use Rattle.kom_turns.specs.Runs.{IsRunnableBy}
use Rattle.kom_turns.proofs.Taking.{turned}
use Rattle.kom_marks.specs.Settling.{IsSettled, RisesFrom}
use Rattle.kom_marks.proofs.Rising.{held_in_both, rises_on}

-- the component was marked and is settled
abbrev pub done : Members → Members → ℕ → Bool
done marks left c = has marks c && not (has left c)

-- the marks are settled but for those that are left
pub record IsHalfSettled (m : State) (busy : Members) (closed : Bool) (old new marks left : Members) (woken : List ℕ) : Type 0 where
  pub among : (c : ℕ) → has left c ≡ true → has marks c ≡ true
  pub again : (c : ℕ) → done marks left c ≡ true → IsRunnableBy m busy c (has new c)
  pub same : (c : ℕ) → done marks left c ≡ false → has new c ≡ has old c
  pub rise : RisesFrom 0 woken
  pub before : (c d : ℕ) → holds_number woken c ≡ true → has left d ≡ true → c < d
  pub woken_are : (c : ℕ) → holds_number woken c ≡ (not closed && (done marks left c && (has new c && not (has old c))))
  pub bound : new.bound ≡ old.bound
  pub marks_bound : left.bound ≡ marks.bound

none_both : (b : Bool) → (b && not b) ≡ false
none_both true = refl
none_both false = refl

off : (b : Bool) → (b && false) ≡ false
off true = refl
off false = refl

on : (b : Bool) → (b && true) ≡ b
on true = refl
on false = refl

or_off : (b : Bool) → (b || false) ≡ b
or_off true = refl
or_off false = refl

-- a set with a mark has one at least
pub one_fewer : (marks : Members) (c : ℕ) → has marks c ≡ true → 1 ≤ length marks.list
unfolding has
one_fewer marks c h = go marks.list h
  where
    go : (ms : List ℕ) → holds_number ms c ≡ true → 1 ≤ length ms
    go [] e = absurd (cc (e))
    go (m ∷ ms) e = omega arith

-- a list with one number more at most
pub one_longer : (ws vs : List ℕ) (c : ℕ) (b : Bool) → vs ≡ ws ++ (if b then c ∷ [] else []) → length vs ≤ length ws + 1
one_longer ws vs c true e = let a = ap length e in let l = length-append ws (c ∷ []) in omega (arith, a, l)
one_longer ws vs c false e = let a = ap length e in let l = length-append ws [] in omega (arith, a, l)

-- nothing is settled at first
pub none_settled : (m : State) (busy : Members) (closed : Bool) (old marks : Members) (woken : List ℕ) → woken ≡ [] → IsHalfSettled m busy closed old old marks marks woken
none_settled m busy closed old marks woken e = subst (λ ws. IsHalfSettled m busy closed old old marks marks ws) (sym e) (record {
  among = λ c h. h;
  again = λ c h. absurd (cc (h, none_both (has marks c)));
  same = λ c h. refl;
  rise = tt;
  before = λ c d h t. absurd (cc (h));
  woken_are = λ c. sym (ap (λ b. not closed && (b && (has old c && not (has old c)))) (none_both (has marks c)) ∙ off (not closed));
  bound = refl;
  marks_bound = refl;
})

-- all is settled at last
pub all_settled : (m : State) (busy : Members) (closed : Bool) (old new marks left : Members) (woken : List ℕ) → IsHalfSettled m busy closed old new marks left woken → IsLeast left None
    → IsSettled m busy closed old new marks left woken
all_settled m busy closed old new marks left woken h none = record {
  unmarked = none;
  again = λ c e. h.again c (all c ∙ e);
  others = λ c e. h.same c (all c ∙ e);
  rise = h.rise;
  woken_are = λ c. h.woken_are c ∙ ap (λ b. not closed && (b && (has new c && not (has old c)))) (all c);
  bound = h.bound;
  marks_bound = h.marks_bound;
}
  where
    all : (c : ℕ) → done marks left c ≡ has marks c
    all c = ap (λ b. has marks c && not b) (none c) ∙ on (has marks c)

-- ---- the least of the marks that are left

module _ (m : State) (busy : Members) (closed : Bool) (old marks new left : Members) (woken : List ℕ) (c : ℕ) (next rest : Members) (more : List ℕ)
    (h : IsHalfSettled m busy closed old new marks left woken) (least : IsLeast left (Some c))
    (again : IsRunnableBy m busy c (has next c)) (others : (d : ℕ) → (d == c) ≡ false → has next d ≡ has new d)
    (added : more ≡ woken ++ (if not closed && (has next c && not (has new c)) then c ∷ [] else []))
    (taken : (d : ℕ) → has rest d ≡ (if d == c then false else has left d)) where
  abbrev wakes : Bool
  wakes = not closed && (has next c && not (has new c))

  not_done : done marks left c ≡ false
  not_done = ap (λ b. has marks c && not b) least.0 ∙ off (has marks c)

  own_done : (d : ℕ) → (d == c) ≡ true → done marks rest d ≡ true
  own_done d e =
      ap (λ b. has marks d && not b) (taken d ∙ ap (λ b. if b then false else has left d) e)
      ∙ ap (λ b. b && true) (ap (λ k. has marks k) (eqb-true d c e) ∙ h.among c least.0)

  other_done : (d : ℕ) → (d == c) ≡ false → done marks rest d ≡ done marks left d
  other_done d e = ap (λ b. has marks d && not b) (taken d ∙ ap (λ b. if b then false else has left d) e)

  -- of one number that may be there
  held_one : (b : Bool) → holds_number (if b then c ∷ [] else []) c ≡ b
  held_one true = ap (λ b. b || false) (eq-eqb c c refl)
  held_one false = refl

  held_other : (b : Bool) (d : ℕ) → (d == c) ≡ false → holds_number (if b then c ∷ [] else []) d ≡ false
  held_other true d e = ap (λ b. b || false) (turned c d ∙ e)
  held_other false d e = refl

  held : (d : ℕ) → holds_number more d ≡ (holds_number woken d || holds_number (if wakes then c ∷ [] else []) d)
  held d = ap (λ ws. holds_number ws d) added ∙ held_in_both woken (if wakes then c ∷ [] else []) d

  own_held : holds_number more c ≡ wakes
  own_held =
      held c
      ∙ ap (λ b. b || holds_number (if wakes then c ∷ [] else []) c)
      (h.woken_are c ∙ ap (λ b. not closed && (b && (has new c && not (has old c)))) not_done ∙ off (not closed))
      ∙ held_one wakes

  other_held : (d : ℕ) → (d == c) ≡ false → holds_number more d ≡ holds_number woken d
  other_held d e = held d ∙ ap (λ b. holds_number woken d || b) (held_other wakes d e) ∙ or_off (holds_number woken d)

  still_left : (d : ℕ) → has rest d ≡ true → ((d == c) ≡ false) × (has left d ≡ true)
  still_left d e = go (d == c) refl
    where
      go : (b : Bool) → (d == c) ≡ b → ((d == c) ≡ false) × (has left d ≡ true)
      go true t = absurd (cc (e, taken d ∙ ap (λ b. if b then false else has left d) t))
      go false t = (t, sym (taken d ∙ ap (λ b. if b then false else has left d) t) ∙ e)

  rise_on : (b : Bool) → RisesFrom 0 (woken ++ (if b then c ∷ [] else []))
  rise_on true = rises_on 0 c woken h.rise (omega arith) (λ d e. h.before d c e least.0)
  rise_on false = subst (RisesFrom 0) (sym (append-nil woken)) h.rise

  before_on : (d k : ℕ) → holds_number more d ≡ true → has rest k ≡ true → d < k
  before_on d k e t = go (d == c) refl
    where
      go : (b : Bool) → (d == c) ≡ b → d < k
      go false s = h.before d k (sym (other_held d s) ∙ e) (still_left k t).1
      go true s =
          let same : d ≡ c = eqb-true d c s in
          let a : c ≤ k = least.1 k (still_left k t).1 in
          let n : (k ≡ c → ⊥) = λ q. cc ((still_left k t).0, eq-eqb k c q) in
          omega (arith, same, a, n)

  woken_on : (d : ℕ) → (b : Bool) → (d == c) ≡ b → holds_number more d ≡ (not closed && (done marks rest d && (has next d && not (has old d))))
  woken_on d false e =
      other_held d e ∙ h.woken_are d
      ∙ (λ i. not closed && (sym (other_done d e) i && (sym (others d e) i && not (has old d))))
  woken_on d true e =
      let same : d ≡ c = eqb-true d c e in
      subst (λ k. holds_number more k ≡ (not closed && (done marks rest k && (has next k && not (has old k))))) (sym same)
      (own_held ∙ (λ i. not closed && (sym (own_done c (eq-eqb c c refl)) i && (has next c && not (h.same c not_done i)))))

  pub one_more : next.bound ≡ new.bound → rest.bound ≡ left.bound → IsHalfSettled m busy closed old next marks rest more
  one_more bound marks_bound = record {
    among = λ d e. h.among d (still_left d e).1;
    again = λ d e. go_again d e (d == c) refl;
    same = λ d e. go_same d e (d == c) refl;
    rise = subst (RisesFrom 0) (sym added) (rise_on wakes);
    before = before_on;
    woken_are = λ d. woken_on d (d == c) refl;
    bound = bound ∙ h.bound;
    marks_bound = marks_bound ∙ h.marks_bound;
  }
    where
      go_again : (d : ℕ) → done marks rest d ≡ true → (b : Bool) → (d == c) ≡ b → IsRunnableBy m busy d (has next d)
      go_again d e true t = subst (λ k. IsRunnableBy m busy k (has next k)) (sym (eqb-true d c t)) again
      go_again d e false t = subst (IsRunnableBy m busy d) (sym (others d t)) (h.again d (sym (other_done d t) ∙ e))

      go_same : (d : ℕ) → done marks rest d ≡ false → (b : Bool) → (d == c) ≡ b → has next d ≡ has old d
      go_same d e true t = absurd (cc (e, own_done d t))
      go_same d e false t = others d t ∙ h.same d (sym (other_done d t) ∙ e)
