use Rattle.std.proofs.Common.{◌≡◌, ◌≤◌, drop}
use Rattle.kom_scenario.specs.Rules.{crowded}
use Rattle.kom_scenario.specs.Sound.{most}
use Rattle.kom_scenario.proofs.counts.crowded.Given as goal

abbrev pub invariant-loop-source : goal.invariant-loop-source
invariant-loop-source l = (l.events ≤ most) × (crowded 0 l.sources ≡ crowded l.events (drop l.source-index l.sources))
