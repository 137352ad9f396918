-- A syntax tree that breaks no rule stands for a well-formed system.
use Rattle.std.specs.Prelude.{◌≡◌, ◌≤◌, None}
use Rattle.kom_system.specs.declared.parts.Parts.{Parts}
use Rattle.kom_system.specs.WellFormed.{IsWellFormed}
use Rattle.kom_rules.specs.Broken.{broken_rule}
use Rattle.kom_resolve.specs.Counted.{IsCounted}
use Rattle.kom_resolve.specs.Resolved.{resolved}

abbrev pub AcceptedAreCounted : Type 0
AcceptedAreCounted = (P : Parts) → broken_rule P ≡ None → IsCounted P

abbrev pub AcceptedAreWellFormed : Type 0
AcceptedAreWellFormed = (P : Parts) → broken_rule P ≡ None → 1 ≤ P.version → P.version ≤ 2 → IsWellFormed (resolved P)
