use Rattle.std.proofs.Common.{◌≡◌, ℕ, List, take}
use Rattle.std.specs.Prelude.{bytes_eq}
use Rattle.kom_scenario.specs.Names.{found}
use Rattle.kom_scenario.specs.Named.{number_from, root_ports}
use Rattle.kom_scenario.proofs.known.port_names.Given as goal

abbrev pub invariant-loop-q : goal.invariant-loop-q
invariant-loop-q l = (x : List ℕ) → found l.names x ≡ number_from (λ p. bytes_eq x p.name) 0 (take l.q (root_ports l.system))
