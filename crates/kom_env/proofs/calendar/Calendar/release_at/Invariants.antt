use Rattle.std.proofs.Common.{◌≡◌, ◌++◌, map, take}
use Rattle.std.specs.List.{filter}
use Rattle.kom_index.specs.Stock.{items}
use Rattle.kom_record.specs.declared.plan.Raise.{Raise}
use Rattle.kom_env.specs.declared.keys.Place.{Place}
use Rattle.kom_env.specs.Raised.{is_raised_at, released}
use Rattle.kom_env.proofs.calendar.Calendar.release_at.Given as goal

abbrev pub invariant-loop-place : goal.invariant-loop-place
invariant-loop-place l = l.out.items ≡ l.fn.out.items ++ map (λ (e : Place × Raise). released e.1) (take l.place-index (filter (λ (e : Place × Raise). is_raised_at l.fn.time e.1) l.self-inside.raises.0))
