use Rattle.std.proofs.Common.{◌≡◌, ℕ, List, take}
use Rattle.std.specs.Prelude.{bytes_eq}
use Rattle.kom_scenario.specs.Names.{found}
use Rattle.kom_scenario.specs.Named.{number_from}
use Rattle.kom_scenario.proofs.known.kind_names.Given as goal

abbrev pub invariant-loop-k : goal.invariant-loop-k
invariant-loop-k l = (q : List ℕ) → found l.names q ≡ number_from (bytes_eq q) 0 (take l.k l.system.event_names)
