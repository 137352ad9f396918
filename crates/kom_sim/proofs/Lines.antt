-- Who is in a line after some have gone to its end.
use Rattle.std.proofs.Common.{◌≡◌, ℕ, Bool, true, false, cond, not, ◌&&◌, ◌||◌, ◌==◌, refl, sym, ap, ◌∙◌, List, [], ◌∷◌, ◌++◌, filter, inl, inr}
use Rattle.std.proofs.lemmas.List.{append_assoc, append-nil}
use Rattle.std.proofs.lemmas.List.Folds.{list_any-append}
use Rattle.std.proofs.lemmas.Bool.{eqb-true}
use Rattle.std.proofs.lemmas.Bool.Decides.{eqb_tells}
use Rattle.kom_base.specs.Lists.{holds_number}
use Rattle.kom_sim.specs.Line.{at_end, all_at_end}

kept_at : (f : ℕ → Bool) (c : ℕ) (cs : List ℕ) (d : ℕ) (b : Bool) → f c ≡ b → holds_number (filter f cs) d ≡ (f d && holds_number cs d)
    → holds_number (cond b (c ∷ filter f cs) (filter f cs)) d ≡ (f d && ((c == d) || holds_number cs d))
kept_at f c cs d true e rest = elim (eqb_tells c d) [
  | inl t ↦
      let kept : f d ≡ true = ap f (sym (eqb-true c d t.0)) ∙ e in
      ap (λ v. v || holds_number (filter f cs) d) t.0 ∙ sym (ap (λ v. v && ((c == d) || holds_number cs d)) kept ∙ ap (λ v. v || holds_number cs d) t.0)
  | inr t ↦ ap (λ v. v || holds_number (filter f cs) d) t.0 ∙ rest ∙ ap (λ v. f d && (v || holds_number cs d)) (sym t.0)
]
kept_at f c cs d false e rest = elim (eqb_tells c d) [
  | inl t ↦
      let dropped : f d ≡ false = ap f (sym (eqb-true c d t.0)) ∙ e in
      rest ∙ ap (λ v. v && holds_number cs d) dropped ∙ sym (ap (λ v. v && ((c == d) || holds_number cs d)) dropped)
  | inr t ↦ rest ∙ ap (λ v. f d && (v || holds_number cs d)) (sym t.0)
]

-- who is left by a test
pub holds_filter : (f : ℕ → Bool) (cs : List ℕ) (d : ℕ) → holds_number (filter f cs) d ≡ (f d && holds_number cs d)
holds_filter f [] d = none (f d)
  where
    none : (b : Bool) → false ≡ (b && false)
    none true = refl
    none false = refl
holds_filter f (c ∷ cs) d = kept_at f c cs d (f c) refl (holds_filter f cs d)

pub holds_append : (cs ds : List ℕ) (d : ℕ) → holds_number (cs ++ ds) d ≡ (holds_number cs d || holds_number ds d)
holds_append cs ds d = list_any-append (λ c. c == d) cs ds

-- each of them stands there once
abbrev pub AreDistinct : List ℕ → Type 0
AreDistinct [] = Unit {0}
AreDistinct (c ∷ cs) = (holds_number cs c ≡ false) × AreDistinct cs

abbrev pub without : List ℕ → List ℕ → List ℕ
without ws cs = filter (λ d. not (holds_number ws d)) cs

filter_append : (f : ℕ → Bool) (cs ds : List ℕ) → filter f (cs ++ ds) ≡ filter f cs ++ filter f ds
filter_append f [] ds = refl
filter_append f (c ∷ cs) ds = at (f c) (filter_append f cs ds)
  where
    at : (b : Bool) → filter f (cs ++ ds) ≡ filter f cs ++ filter f ds → cond b (c ∷ filter f (cs ++ ds)) (filter f (cs ++ ds)) ≡ cond b (c ∷ filter f cs) (filter f cs) ++ filter f ds
    at true e = ap (λ l. c ∷ l) e
    at false e = e

without_both : (w : ℕ) (ws cs : List ℕ) → without ws (filter (λ d. not (w == d)) cs) ≡ without (w ∷ ws) cs
without_both w ws [] = refl
without_both w ws (c ∷ cs) = at (w == c) (holds_number ws c) refl (without_both w ws cs)
  where
    at : (a h : Bool) → holds_number ws c ≡ h → without ws (filter (λ d. not (w == d)) cs) ≡ without (w ∷ ws) cs
        → without ws (cond (not a) (c ∷ filter (λ d. not (w == d)) cs) (filter (λ d. not (w == d)) cs)) ≡ cond (not (a || h)) (c ∷ without (w ∷ ws) cs) (without (w ∷ ws) cs)
    at true h e rest = rest
    at false h e rest = ap (λ b. cond (not b) (c ∷ without ws (filter (λ d. not (w == d)) cs)) (without ws (filter (λ d. not (w == d)) cs))) e ∙ ap (λ l. cond (not h) (c ∷ l) l) rest

-- those that went to the end of a line stand there in their order, behind all others
pub at_end_of : (ws cs : List ℕ) → AreDistinct ws → all_at_end cs ws ≡ without ws cs ++ ws
at_end_of [] cs h = all_kept cs ∙ sym (append-nil (without [] cs))
  where
    all_kept : (cs : List ℕ) → cs ≡ without [] cs
    all_kept [] = refl
    all_kept (c ∷ cs) = ap (λ l. c ∷ l) (all_kept cs)
at_end_of (w ∷ ws) cs h =
    at_end_of ws (at_end cs w) h.1
    ∙ ap (λ l. l ++ ws) (filter_append (λ d. not (holds_number ws d)) (filter (λ d. not (w == d)) cs) (w ∷ []))
    ∙ ap (λ b. (without ws (filter (λ d. not (w == d)) cs) ++ cond (not b) (w ∷ []) []) ++ ws) h.0
    ∙ append_assoc (without ws (filter (λ d. not (w == d)) cs)) (w ∷ []) ws
    ∙ ap (λ l. l ++ w ∷ ws) (without_both w ws cs)
