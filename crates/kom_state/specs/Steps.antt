-- What one call puts where.
use Rattle.std.specs.Prelude.{◌≡◌, ℕ, ◌-◌, Bool, false, ◌&&◌, ◌==◌, if◌then◌else◌, List, [], ◌∷◌}
use Rattle.kom_base.specs.declared.numbers.Dir.{Dir}
use Rattle.kom_base.specs.declared.numbers.EntryNo.{EntryNo}
use Rattle.kom_base.specs.Numbers.{same_dir}
use Rattle.kom_lang.specs.declared.body.Body.{Body}
use Rattle.kom_lang.specs.declared.body.Effect.{Effect}
use Rattle.kom_record.specs.declared.item.Control.{Control as ControlItem}
use Rattle.kom_record.specs.declared.item.Item.{Item}
use Rattle.kom_record.specs.declared.entry.Outcome.TheVariants as outcome
use Rattle.kom_refine.specs.States.{State}
use Rattle.kom_refine.specs.Steps.{comes_by, is_control, IsTaken, IsEnded}
use Rattle.kom_state.specs.Parts.{Parts, control_spare, queue_spare}

-- the item for c alone
abbrev pub to_one : ℕ → ControlItem → ℕ → List ControlItem
to_one c item d = if d == c then item ∷ [] else []

-- the number into direction d of channel x alone
abbrev pub into_one : ℕ → Dir → EntryNo → ℕ → Dir → List EntryNo
into_one x d n y e = if y == x && same_dir d e then n ∷ [] else []

-- an item that is no control item, and comes by direction d of channel x, is taken by whatever component
abbrev pub IsTakenFrom : ℕ → Dir → State → State → Type 0
IsTakenFrom x d m n = (c : ℕ) (item : Item) → is_control item ≡ false → ((y : ℕ) (e : Dir) → comes_by item y e ≡ (y == x && same_dir d e)) → IsTaken c item m n

-- a handling of c ends with the body, whatever effects it had
abbrev pub EndsWith : (Body → Bool) → ℕ → Body → State → State → Type 0
EndsWith catches c body m n = (effects : List Effect) → IsEnded catches c (outcome.Done body effects) m n

-- a handling of c faults, whatever the number of the fault
abbrev pub Faults : (Body → Bool) → ℕ → State → State → Type 0
Faults catches c m n = (number : ℕ) → IsEnded catches c (outcome.Fault number) m n

-- room for one control item of c less
abbrev pub UsesControl : ℕ → Parts → Parts → Type 0
UsesControl c m n = (d : ℕ) → control_spare n d ≡ (if d == c then control_spare m d - 1 else control_spare m d)

-- room for one number in direction d of x less
abbrev pub UsesQueue : ℕ → Dir → Parts → Parts → Type 0
UsesQueue x d m n = (y : ℕ) (e : Dir) → queue_spare n y e ≡ (if y == x && same_dir d e then queue_spare m y e - 1 else queue_spare m y e)
