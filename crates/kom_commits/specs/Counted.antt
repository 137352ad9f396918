-- How many events wait in the channels, and how many end with an effect.
use Rattle.std.specs.Prelude.{ℕ}
use Rattle.kom_lang.specs.declared.body.Effect.{Effect}
use Rattle.kom_lang.specs.declared.body.Effect.TheVariants as effect
use Rattle.kom_numbers.specs.Numbering.{total}
use Rattle.kom_refine.specs.States.{State}
use Rattle.kom_state.specs.Parts.{Parts, state_of}
use Rattle.kom_state.specs.Removals.{dies_with}
use Rattle.kom_changes.specs.Ends.{ChildrenAreInSlots}
use Rattle.kom_losses.specs.Owned.{waiting_of}
use Rattle.kom_waits.specs.Waits.{waits_below}

-- how many events wait in all channels
abbrev pub waits_in_all : Parts → ℕ
waits_in_all v = waits_below (state_of v) (total v.numbers)

-- how many of them end with an effect of c
abbrev pub lost_by : Parts → ℕ → Effect → ℕ
lost_by v c (effect.Destroy slot) = waiting_of v (dies_with v c slot)
lost_by v c e = 0

-- what a Destroy asks of the bodies below c
abbrev pub ChildrenFit : ℕ → Effect → State → Type 0
ChildrenFit c (effect.Destroy slot) m = ChildrenAreInSlots c m
ChildrenFit c e m = Unit {0}
