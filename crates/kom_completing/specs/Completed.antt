-- What a handling that went through came to, and whom its entry tells.
use Rattle.std.specs.Prelude.{ℕ, if◌then◌else◌, List, Option, Some, None}
use Rattle.std.specs.Option.{option_map}
use Rattle.kom_lang.specs.declared.body.Body.{Body}
use Rattle.kom_lang.specs.declared.body.Effect.{Effect}
use Rattle.kom_record.specs.declared.entry.Outcome.{Outcome}
use Rattle.kom_record.specs.declared.entry.Outcome.TheVariants as outcome
use Rattle.kom_record.specs.declared.item.Item.{Item}
use Rattle.kom_raised.specs.Raised.{is_raised}

-- the body after it and its effects
abbrev pub done_of : Outcome → Option (Body × List Effect)
done_of (outcome.Done body effects) = Some (body, effects)
done_of o = None

-- whom the entry tells, where `near` is told of a fault of the component
abbrev pub told_by : Item → List Effect → Option (ℕ × ℕ) → Option ℕ
told_by item effects near = if is_raised item effects then option_map (λ q. q.0) near else None
