-- What a worker puts into its lot.
use Rattle.std.proofs.Common.{◌≡◌, ℕ, ◌+◌, List, [], ◌∷◌, ◌++◌, take, Some, Result, Ok, Err, sym, ap, ◌∙◌, subst, append_assoc}
use Rattle.std.specs.Prelude.{MatchResult, slice_get}
use Rattle.std.proofs.lemmas.List.{append-nil, take_more}
use Rattle.kom_ready.proofs.Guested.{below_there}
use Rattle.kom_crew.specs.Parts.{IsPart}
use Rattle.kom_crew.specs.Parts.IsPart.{none, kept, left_out}
use Rattle.kom_crew.proofs.Crowds.{index_there}

all_left_out : (ys : List ℕ) → IsPart [] ys
all_left_out [] = none
all_left_out (y ∷ ys) = left_out y (all_left_out ys)

-- what comes behind is left out
behind : {xs ys : List ℕ} → IsPart xs ys → (zs : List ℕ) → IsPart xs (ys ++ zs)
behind none zs = all_left_out zs
behind (kept c p) zs = kept c (behind p zs)
behind (left_out c p) zs = left_out c (behind p zs)

kept_behind : {xs ys : List ℕ} → IsPart xs ys → (d : ℕ) → IsPart (xs ++ d ∷ []) (ys ++ d ∷ [])
kept_behind none d = kept d none
kept_behind (kept c p) d = kept c (kept_behind p d)
kept_behind (left_out c p) d = left_out c (kept_behind p d)

-- so far it is a part of the first i
abbrev pub Put : List ℕ → ℕ → List ℕ → List ℕ → Type 0
Put cs i old new = (put : List ℕ) × IsPart put (take i cs) × (new ≡ old ++ put)

one_on : (cs : List ℕ) (i c : ℕ) → slice_get cs i ≡ Some c → take (i + 1) cs ≡ take i cs ++ c ∷ []
one_on cs i c e = take_more cs i 0 (below_there cs i c e) ∙ ap (λ d. take i cs ++ d ∷ []) (index_there cs i c 0 e)

pub none_put : (cs old : List ℕ) → Put cs 0 old old
none_put cs old = ([], none, sym (append-nil old))

one_put : (cs : List ℕ) (i c : ℕ) (old mid new : List ℕ) → slice_get cs i ≡ Some c → new ≡ mid ++ c ∷ [] → Put cs i old mid → Put cs (i + 1) old new
one_put cs i c old mid new at e p = (
  p.0 ++ c ∷ [],
  subst (IsPart (p.0 ++ c ∷ [])) (sym (one_on cs i c at)) (kept_behind p.1 c),
  e ∙ (ap (λ xs. xs ++ c ∷ []) p.2 ∙ append_assoc old p.0 (c ∷ [])),
)

one_left_out : (cs : List ℕ) (i c : ℕ) (old mid new : List ℕ) → slice_get cs i ≡ Some c → new ≡ mid → Put cs i old mid → Put cs (i + 1) old new
one_left_out cs i c old mid new at e p = (p.0, subst (IsPart p.0) (sym (one_on cs i c at)) (behind p.1 (c ∷ [])), e ∙ p.2)

-- one more was tried
pub one_tried : {A : Type 0} (r : Result A ℕ) (cs : List ℕ) (i c : ℕ) (old mid new : List ℕ) → slice_get cs i ≡ Some c → MatchResult r (λ _. new ≡ mid ++ c ∷ []) (λ x. (x ≡ c) × (new ≡ mid)) → Put cs i old mid → Put cs (i + 1) old new
one_tried (Ok u) cs i c old mid new at e p = one_put cs i c old mid new at e p
one_tried (Err x) cs i c old mid new at e p = one_left_out cs i c old mid new at e.1 p
