-- Whether a handling that ended raises a fault, and who is told of it.
use Rattle.std.specs.Prelude.{◌≡◌, ℕ, Bool, ◌&&◌, if◌then◌else◌, List, Option, Some, None, is_none, is_some}
use Rattle.std.specs.List.{list_any}
use Rattle.std.specs.Option.{option_map}
use Rattle.kom_lang.specs.Declarations.{Declarations}
use Rattle.kom_lang.specs.declared.body.Body.{Body}
use Rattle.kom_lang.specs.declared.body.Effect.{Effect}
use Rattle.kom_lang.specs.Steps.{is_escalate}
use Rattle.kom_record.specs.declared.item.Item.{Item}
use Rattle.kom_record.specs.declared.entry.Outcome.TheVariants as outcome
use Rattle.kom_record.specs.declared.entry.Entry.TheVariants.{Did}
use Rattle.kom_record.specs.Bodies.{nearest}
use Rattle.kom_record.specs.Controls.{fault_in, told}
use Rattle.kom_record.specs.Entries.{History, item_at}
use Rattle.kom_record.specs.Ready.{is_unhandled}

-- the handling of the item escalates its fault
abbrev pub is_raised : Item → List Effect → Bool
is_raised item effects = is_some (fault_in item) && list_any is_escalate effects

-- of a handling of an item by c that ended with these effects: whom its entry tells, and whether a fault is
-- unhandled by it, where `near` is who is told of a fault of c
pub record IsToldOf (S : Declarations) (P : History) (w c took : ℕ) (item : Item) (body : Body) (effects : List Effect) (to : Option ℕ) (places : List ℕ) (near : Option (ℕ × ℕ)) : Type 0 where
  pub told_is : told S P (Did w c took (outcome.Done body effects) to places) c ≡ (if is_raised item effects then option_map (λ q. q.0) near else None)
  pub unhandled : is_unhandled S P (Did w c took (outcome.Done body effects) to places) ≡ (is_raised item effects && is_none near)

abbrev pub DonesAreTold : Type 0
DonesAreTold = (S : Declarations) (P : History) (w c took : ℕ) (item : Item) (body : Body) (effects : List Effect) (to : Option ℕ) (places : List ℕ) (near : Option (ℕ × ℕ))
    → item_at P took ≡ Some item → near ≡ nearest S P c → IsToldOf S P w c took item body effects to places near
