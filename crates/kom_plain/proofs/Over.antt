-- The first over a limit, and the second that passes a test.
use Rattle.std.proofs.Common.{◌≡◌, ℕ, zero, suc, Bool, List, [], ◌∷◌, map, take, drop, filter, slice_get, Some, None, unwrap_or, if◌then◌else◌, refl, ap, ◌∙◌}
use Rattle.kom_system.specs.declared.parts.Spot.{Spot}
use Rattle.kom_system.specs.declared.parts.HandlerPart.{HandlerPart}
use Rattle.kom_rules.specs.Names.{first_place}
use Rattle.kom_rules.specs.Spaces.{is_init}
use Rattle.kom_rules.specs.Declaring.{over}

pub over_some : {X : Type 0} (f : X → Spot) (xs : List X) (n : ℕ) (x : X) (at : ℕ) → Some x ≡ slice_get xs n → at ≡ (f x).at → Some at ≡ first_place (over n (map f xs))
over_some f [] n x at e h = cc
over_some f (y ∷ ys) zero x at e h = ap Some (h ∙ ap (λ o. (f (unwrap_or o x)).at) e)
over_some f (y ∷ ys) (suc n) x at e h = over_some f ys n x at e h

-- what is left of the second one, where one was seen already or not
abbrev pub second_of : Bool → List HandlerPart → List HandlerPart
second_of seen rest = if seen then take 1 (filter (λ h. is_init h.on) rest) else take 1 (drop 1 (filter (λ h. is_init h.on) rest))

pub over_none : {X : Type 0} (f : X → Spot) (xs : List X) (n : ℕ) → None ≡ slice_get xs n → None ≡ first_place (over n (map f xs))
over_none f [] zero e = refl
over_none f [] (suc n) e = refl
over_none f (y ∷ ys) zero e = cc
over_none f (y ∷ ys) (suc n) e = over_none f ys n e
