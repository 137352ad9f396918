-- What a blank row at the end of the rows changes: nothing that tells it from no row.
use Rattle.std.proofs.Common.{◌≡◌, ℕ, zero, suc, true, List, [], ◌∷◌, ◌++◌, Option, Some, None, refl}
use Rattle.std.specs.List.{slice_get}
use Rattle.kom_life.specs.declared.row.Row.{Row}
use Rattle.kom_life.specs.Rows.{has_room}

pub one_more : {X : Type 0} (g : Option Row → X) (r : Row) → g (Some r) ≡ g None → (m : List Row) (y : ℕ) → g (slice_get (m ++ r ∷ []) y) ≡ g (slice_get m y)
one_more g r same [] zero = same
one_more g r same [] (suc y) = refl
one_more g r same (x ∷ m) zero = refl
one_more g r same (x ∷ m) (suc y) = one_more g r same m y

pub room_stays : (r : Row) (m : List Row) (y : ℕ) → has_room m y ≡ true → has_room (m ++ r ∷ []) y ≡ true
room_stays r [] y h = absurd (cc)
room_stays r (x ∷ m) zero h = refl
room_stays r (x ∷ m) (suc y) h = room_stays r m y h
