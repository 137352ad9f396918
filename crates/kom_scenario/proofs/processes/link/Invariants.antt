use Rattle.std.proofs.Common.{◌≡◌, [], take}
use Rattle.kom_scenario.specs.Names.{Knows}
use Rattle.kom_scenario.specs.Named.{process_number}
use Rattle.kom_scenario.specs.Rules.{first_place, along, named_twice, process_unknown}
use Rattle.kom_scenario.proofs.processes.link.Given as goal

abbrev pub invariant-loop-k : goal.invariant-loop-k
invariant-loop-k l = record {
  names : Knows l.names (process_number (take l.k l.sources));
  twice : l.twice ≡ first_place (along named_twice [] (take l.k l.sources));
  unknown : l.unknown ≡ first_place (along process_unknown [] (take l.k l.sources));
}
