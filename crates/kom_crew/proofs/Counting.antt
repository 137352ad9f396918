-- What the workers counted is what their lots gave.
use Rattle.std.proofs.Common.{◌≡◌, ℕ, suc, ◌+◌, List, [], ◌∷◌, length, refl, sym, subst, arith}
use Rattle.std.specs.Prelude.{All, min}
use Rattle.std.proofs.lemmas.List.Sums.{sum_by-cons}
use Rattle.kom_ready.specs.declared.lots.Lot.{Lot}
use Rattle.kom_ready.specs.Counts.{last_count}
use Rattle.kom_ready.specs.Lots.{given_of}
use Rattle.kom_crew.specs.declared.worker.Worker.{Worker}
use Rattle.kom_crew.specs.Seated.{given_by_all, given_in_all, lots_of}
use Rattle.kom_crew.specs.Workers.{EachOf, IsCounted}
use Rattle.kom_crew.proofs.Crowds.{there_at, index_there}

-- a fact of each of them
pub each_all : (n : ℕ) (P Q : Worker → Type 0) (ws : List Worker) → ((w : Worker) → P w → Q w) → EachOf n P ws → All Q ws
each_all n P Q ws f each k d lt =
    let x = there_at ws k lt in
    subst Q (sym (index_there ws k x.0 d x.1)) (f x.0 (each.1 k x.0 x.1).1)

one_more : (m n s t : ℕ) → m ≡ min n last_count → min s last_count ≡ min t last_count → min (m + s) last_count ≡ min (n + t) last_count
one_more m n s t e r = omega (arith, e, r)

pub all_counted : (ws : List Worker) → All IsCounted ws → given_in_all ws ≡ given_by_all (lots_of ws)
all_counted [] all = refl
all_counted (w ∷ ws) all =
    let a = sum_by-cons (λ (x : Worker). x.given) w ws in
    let b = sum_by-cons (λ (l : Lot). length (given_of l)) w.lot (lots_of ws) in
    let e : IsCounted w = all 0 w (omega arith) in
    let r = all_counted ws (λ k d lt. all (suc k) d (omega (arith, lt))) in
    let s = one_more w.given (length (given_of w.lot)) _ _ e r in
    omega (arith, a, b, s)
