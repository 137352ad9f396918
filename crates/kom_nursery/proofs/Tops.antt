-- The room for control items of the first components of broods.
use Rattle.std.proofs.Common.{◌≡◌, ℕ, ◌+◌, ◌<◌, ◌≤◌, true, refl, sym, ap, ◌∙◌, subst, List, [], ◌∷◌, ◌++◌, length, get_or, take, if◌then◌else◌, ◌==◌, arith}
use Rattle.std.proofs.lemmas.List.{length-append}
use Rattle.kom_state.specs.Parts.{Parts, control_spare}
use Rattle.kom_state.specs.Plantings.{items_of}
use Rattle.kom_state.specs.Rooms.{HasNoLess}
use Rattle.kom_state.proofs.Keeping.{itself}
use Rattle.kom_births.specs.declared.seed.Seed.{Seed}
use Rattle.kom_births.specs.Sowing.{items_for}
use Rattle.kom_births.proofs.Sums.{items_one}
use Rattle.kom_nursery.specs.Nurseries.{all_of}
use Rattle.kom_nursery.specs.Tops.{TopsHaveRoom}
use Rattle.kom_nursery.proofs.Broods.{next_part}

-- the first of a brood is created with one item at most
one_item : (c : ℕ) (b : List Seed) → items_for c c b ≤ 1
one_item c [] = omega arith
one_item c (s ∷ ss) = let e = ap (λ t. if t then length (items_of s.init) else items_for c (c + 1) ss) (itself c) in let o = items_one s.init in omega (arith, e, o)

pub tops_kept : (n : ℕ) (bs : List (List Seed)) (count : ℕ) (v w : Parts) → HasNoLess v w → TopsHaveRoom n bs count v → TopsHaveRoom n bs count w
tops_kept n [] count v w keeps r = tt
tops_kept n (b ∷ bs) count v w keeps r = ((let a = keeps.controls count in let z = r.0 in omega (arith, a, z)), tops_kept n bs (count + length b) v w keeps r.1)

tops_push : (n : ℕ) (bs : List (List Seed)) (b : List Seed) (count first : ℕ) (v : Parts) → first ≡ count + length (all_of bs) → n + 1 ≤ control_spare v first → TopsHaveRoom n bs count v → TopsHaveRoom n (bs ++ b ∷ []) count v
tops_push n [] b count first v e room r =
    let same : first ≡ count = omega (arith, e) in
    let a = ap (control_spare v) same in
    let o = one_item count b in
    (omega (arith, a, o, room), tt)
tops_push n (x ∷ xs) b count first v e room r = (r.0, tops_push n xs b (count + length x) first v (let l = length-append x (all_of xs) in omega (arith, e, l)) room r.1)

-- one brood more
pub tops_next : (n : ℕ) (bs : List (List Seed)) (k : ℕ) (b : List Seed) (count first : ℕ) (v w : Parts) → k < length bs → b ≡ get_or bs k b → HasNoLess v w → first ≡ count + length (all_of (take k bs)) → n + 1 ≤ control_spare w first
    → TopsHaveRoom n (take k bs) count v → TopsHaveRoom n (take (k + 1) bs) count w
tops_next n bs k b count first v w h e keeps at room r = subst (λ l. TopsHaveRoom n l count w) (sym (next_part bs k b h e)) (tops_push n (take k bs) b count first w at room (tops_kept n (take k bs) count v w keeps r))
