-- Words on lists that std lacks.
use Rattle.std.specs.Prelude.{ℕ, Bool, true, false, if◌then◌else◌, List, [], ◌∷◌, Option, Some, None, Result, Ok, Err}
use Rattle.std.specs.List.{list_any}
use Rattle.std.specs.Prelude.{◌==◌}

-- the first that is not none
abbrev pub either : {A : Type 0} → Option A → Option A → Option A
either None o = o
either (Some x) o = Some x

-- what f gives of the first element of which it gives anything
abbrev pub find_map : {A B : Type 0} → (A → Option B) → List A → Option B
find_map f [] = None
find_map f (x ∷ xs) = either (f x) (find_map f xs)

abbrev pub first : {A : Type 0} → List A → Option A
first [] = None
first (x ∷ xs) = Some x

-- whichever comes before the other; the first of two that are equal
abbrev pub lesser : {A : Type 0} → (A → A → Bool) → A → Option A → A
lesser before x None = x
lesser before x (Some y) = if before y x then y else x

-- the element that comes before all others; the first of those that are equal
abbrev pub least : {A : Type 0} → (A → A → Bool) → List A → Option A
least before [] = None
least before (x ∷ xs) = Some (lesser before x (least before xs))

abbrev pub holds_number : List ℕ → ℕ → Bool
holds_number ns n = list_any (λ m. m == n) ns

-- the list only where the test holds
abbrev pub if_so : {A : Type 0} → Bool → List A → List A
if_so true xs = xs
if_so false xs = []

-- goes on with the value of an `Ok`
abbrev pub on_ok : {A B E : Type 0} → Result A E → (A → Result B E) → Result B E
on_ok (Ok x) f = f x
on_ok (Err e) f = Err e
