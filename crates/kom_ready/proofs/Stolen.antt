-- What a lot is after it stole.
use Rattle.std.proofs.Common.{◌≡◌, ℕ, ◌<◌, ◌≤◌, ◌⊎◌, List, [], ◌∷◌, ◌++◌, length, refl, sym, ap, ◌∙◌, ⊎_elim}
use Rattle.crossbeam_deque.specs.declared.steal.Steal.{Steal}
use Rattle.crossbeam_deque.specs.declared.steal.Steal.TheVariants.{Empty, Success, Retry}
use Rattle.crossbeam_deque.specs.Steals.{MatchSteal}
use Rattle.crossbeam_deque.specs.Tasks.{ordered}
use Rattle.kom_ready.specs.declared.rule.Hand.{Hand}
use Rattle.kom_ready.specs.Rule.{hand}

append_none : (xs : List ℕ) → xs ++ [] ≡ xs
append_none [] = refl
append_none (x ∷ xs) = ap (λ ys. x ∷ ys) (append_none xs)

-- v and u are the views of the pass and of the own deque before, w and x those after
module _ (v u w x : Hand) (from to : ℕ) (E F G : Type 0) where
  -- nothing moved, or some numbers went from the one deque to the other
  abbrev pub Answers : Steal (Unit {0}) → Type 0
  Answers r = MatchSteal r ((w ≡ v) × (x ≡ u) × E) ((w ≡ v) × (x ≡ u) × F) (λ _. ((xs : List ℕ) × (0 < length xs) × (length xs ≤ 32) × (w ≡ hand v.parts v.pushed v.put (v.taken ++ xs)) × (x ≡ hand u.parts u.pushed (u.put ++ ordered from to xs) u.taken)) ⊎ ((w ≡ v) × (x ≡ u) × G))

  none_moved : w ≡ v → x ≡ u → (xs : List ℕ) × (w ≡ hand v.parts v.pushed v.put (v.taken ++ xs)) × (x ≡ hand u.parts u.pushed (u.put ++ xs) u.taken)
  none_moved a b = ([], a ∙ (λ i. hand v.parts v.pushed v.put (sym (append_none v.taken) i)), b ∙ (λ i. hand u.parts u.pushed (sym (append_none u.put) i) u.taken))

  -- some or none
  pub moved : (r : Steal (Unit {0})) → Answers r → from ≡ 0 → to ≡ 0 → (xs : List ℕ) × (w ≡ hand v.parts v.pushed v.put (v.taken ++ xs)) × (x ≡ hand u.parts u.pushed (u.put ++ xs) u.taken)
  moved Empty a e f = none_moved a.0 a.1
  moved (Success t) a e f = ⊎_elim (λ m. (m.0, m.3, m.4 ∙ (λ i. hand u.parts u.pushed (u.put ++ ordered (e i) (f i) m.0) u.taken))) (λ m. none_moved m.0 m.1) a
  moved Retry a e f = none_moved a.0 a.1

  pub same_parts : (r : Steal (Unit {0})) → Answers r → x.parts ≡ u.parts
  same_parts Empty a = ap (λ (y : Hand). y.parts) a.1
  same_parts (Success t) a = ⊎_elim (λ m. ap (λ (y : Hand). y.parts) m.4) (λ m. ap (λ (y : Hand). y.parts) m.1) a
  same_parts Retry a = ap (λ (y : Hand). y.parts) a.1
