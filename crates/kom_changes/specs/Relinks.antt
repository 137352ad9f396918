-- What an effect on a channel makes of the state.
use Rattle.std.specs.Prelude.{◌≡◌, ℕ, true, Some}
use Rattle.kom_base.specs.declared.numbers.Dir.{Dir}
use Rattle.kom_base.specs.declared.numbers.Half.{Half}
use Rattle.kom_lang.specs.Declarations.{Declarations}
use Rattle.kom_lang.specs.declared.body.Effect.TheVariants as effect
use Rattle.kom_lang.specs.declared.kind.Place.{Place}
use Rattle.kom_record.specs.declared.item.Item.{Item}
use Rattle.kom_record.specs.Channels.{half_of}
use Rattle.kom_numbers.specs.Numbering.{is_wire}
use Rattle.kom_refine.specs.Points.{Point, acts_at, StandsAt}
use Rattle.kom_refine.specs.Steps.{IsEffect}
use Rattle.kom_state.specs.Parts.{Parts, IsOf, state_of}
use Rattle.kom_changes.specs.Ends.{is_held}

-- the channel k of c is held
abbrev pub IsWireHeld : Parts → ℕ → ℕ → Type 0
IsWireHeld v c k = (x : ℕ) → is_wire v.numbers c k x ≡ true → is_held (state_of v) x ≡ true

-- each is the step of the effect at every point of a run for which the old state stands
abbrev pub Holds : ℕ → ℕ → Parts → Parts → Type 0
Holds c k v w = (S : Declarations) (p : Point) (item : Item) → IsOf S v → StandsAt S p (state_of v) → IsEffect S p c item (effect.Hold k) (state_of v) (state_of w)

abbrev pub Resumes : ℕ → ℕ → Parts → Parts → Type 0
Resumes c k v w = (S : Declarations) (p : Point) (item : Item) → IsOf S v → StandsAt S p (state_of v) → IsEffect S p c item (effect.Resume k) (state_of v) (state_of w)

-- the place names the half at which the end is plugged
abbrev pub Plugs : ℕ → ℕ → Dir → Half → Parts → Parts → Type 0
Plugs c k e at v w = (S : Declarations) (p : Point) (item : Item) (place : Place) → IsOf S v → StandsAt S p (state_of v) → half_of S (acts_at p) c place ≡ Some at
    → IsEffect S p c item (effect.Plug k e place) (state_of v) (state_of w)

abbrev pub Unplugs : ℕ → ℕ → Dir → Parts → Parts → Type 0
Unplugs c k e v w = (S : Declarations) (p : Point) (item : Item) → IsOf S v → StandsAt S p (state_of v) → IsEffect S p c item (effect.Unplug k e) (state_of v) (state_of w)
