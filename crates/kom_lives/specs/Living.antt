-- Effects of components that were alive when they had them.
use Rattle.std.specs.Prelude.{◌≡◌, ℕ, true, List, [], ◌∷◌, None}
use Rattle.kom_lang.specs.Declarations.{Declarations}
use Rattle.kom_lang.specs.declared.body.Effect.{Effect}
use Rattle.kom_lang.specs.declared.body.Effect.TheVariants as effect
use Rattle.kom_record.specs.declared.item.Item.{Item}
use Rattle.kom_record.specs.Entries.{Act}
use Rattle.kom_record.specs.Instances.{alive, occupant}

-- each of these effects is by a component that was alive before it
abbrev pub AreByLiving : Declarations → List Act → Type 0
AreByLiving S [] = Unit {0}
AreByLiving S (a ∷ done) = AreByLiving S done × (alive S done a.by ≡ true)

-- c is alive before each of its effects, and after them
abbrev pub StaysAlive : Declarations → List Act → ℕ → Item → List Effect → Type 0
StaysAlive S done c item [] = alive S done c ≡ true
StaysAlive S done c item (e ∷ es) = (alive S done c ≡ true) × StaysAlive S (record { by = c; item = item; effect = e } ∷ done) c item es

-- a Create finds its slot empty
abbrev pub FindsEmpty : Declarations → List Act → ℕ → Effect → Type 0
FindsEmpty S done c (effect.Create slot kind birth) = occupant S done c slot ≡ None
FindsEmpty S done c e = Unit {0}

-- each of these effects is by a component that was alive, and each Create among them found its slot empty
abbrev pub AreOrderly : Declarations → List Act → Type 0
AreOrderly S [] = Unit {0}
AreOrderly S (a ∷ done) = AreOrderly S done × (alive S done a.by ≡ true) × FindsEmpty S done a.by a.effect
