use Rattle.std.proofs.Common.{◌≡◌, [], drop}
use Rattle.kom_scenario.specs.Rules.{late_from}
use Rattle.kom_scenario.specs.Sound.{longest}
use Rattle.kom_scenario.specs.Early.{Early}
use Rattle.kom_scenario.proofs.late.late.Given as goal

abbrev pub invariant-loop-k : goal.invariant-loop-k
invariant-loop-k l = record {
  early : Early longest l.spans.items;
  same : late_from [] l.parts l.sources ≡ late_from l.spans.items (drop l.k l.parts) (drop l.k l.sources);
}
