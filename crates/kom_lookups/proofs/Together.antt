-- The names of one component type more.
use Rattle.std.proofs.Common.{◌≡◌, ℕ, zero, suc, ◌+◌, ◌<◌, ◌≤◌, List, [], ◌∷◌, ◌++◌, take, length, get_or, Some, slice_get, unwrap_or, refl, sym, ap, ◌∙◌, subst}
use Rattle.std.proofs.lemmas.List.{take_more, take_all}
use Rattle.kom_system.specs.declared.parts.ComponentPart.{ComponentPart}
use Rattle.kom_lookups.specs.declared.tables.Names.{Names}
use Rattle.kom_lookups.specs.Tabled.{HasNames, AllHaveNames}

-- each component type with its names
abbrev pub Paired : List Names → List ComponentPart → Type 0
Paired [] [] = Unit {0}
Paired [] (c ∷ parts) = ⊥
Paired (names ∷ inside) [] = ⊥
Paired (names ∷ inside) (c ∷ parts) = HasNames names c × Paired inside parts

all_push : (inside : List Names) (parts : List ComponentPart) (names : Names) (c : ComponentPart) → Paired inside parts → HasNames names c → Paired (inside ++ names ∷ []) (parts ++ c ∷ [])
all_push [] [] names c all h = (h, tt)
all_push [] (d ∷ parts) names c all h = absurd all
all_push (m ∷ inside) [] names c all h = absurd all
all_push (m ∷ inside) (d ∷ parts) names c all h = (all.0, all_push inside parts names c all.1 h)

pub all_more : (inside now : List Names) (parts : List ComponentPart) (i : ℕ) (names : Names) (c : ComponentPart) → i < length parts → c ≡ get_or parts i c → Paired inside (take i parts) → HasNames names c
    → now ≡ inside ++ names ∷ [] → Paired now (take (i + 1) parts)
all_more inside now parts i names c lt e all h pushed =
    let same : take (i + 1) parts ≡ take i parts ++ c ∷ [] = take_more parts i c lt ∙ ap (λ y. take i parts ++ y ∷ []) (sym e) in
    subst (λ xs. Paired xs (take (i + 1) parts)) (sym pushed) (subst (λ ps. Paired (inside ++ names ∷ []) ps) (sym same) (all_push inside (take i parts) names c all h))

-- a component type has its names
pub have_names : (inside : List Names) (parts : List ComponentPart) (k : ℕ) (names : Names) (c : ComponentPart) → Paired inside parts → slice_get inside k ≡ Some names → slice_get parts k ≡ Some c → HasNames names c
have_names [] parts k names c all e f = cc
have_names (m ∷ inside) [] k names c all e f = absurd all
have_names (m ∷ inside) (d ∷ parts) zero names c all e f =
    let same_names : m ≡ names = ap (λ o. unwrap_or o m) e in
    let same_part : d ≡ c = ap (λ o. unwrap_or o d) f in
    subst (λ n. HasNames n c) same_names (subst (λ p. HasNames m p) same_part all.0)
have_names (m ∷ inside) (d ∷ parts) (suc k) names c all e f = have_names inside parts k names c all.1 e f

as_many : (inside : List Names) (parts : List ComponentPart) → Paired inside parts → length inside ≡ length parts
as_many [] [] all = refl
as_many [] (d ∷ parts) all = absurd all
as_many (m ∷ inside) [] all = absurd all
as_many (m ∷ inside) (d ∷ parts) all = ap suc (as_many inside parts all.1)

pub all_have : (inside : List Names) (parts : List ComponentPart) (i : ℕ) → length parts ≤ i → Paired inside (take i parts) → AllHaveNames inside parts
all_have inside parts i h all =
    let whole : Paired inside parts = subst (λ ps. Paired inside ps) (take_all i parts h) all in
    record { count = as_many inside parts whole; each = λ k names c e f. have_names inside parts k names c whole e f }
