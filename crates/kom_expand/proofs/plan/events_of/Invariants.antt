use Rattle.std.proofs.Common.{◌≡◌, ◌*◌, ◌++◌, [], take, drop}
use Rattle.std.specs.Prelude.{sum_by}
use Rattle.kom_scenario.specs.Sound.{longest, events_of}
use Rattle.kom_expand.specs.Drawn.{events_from}
use Rattle.kom_expand.specs.Expansion.{generator_of}
use Rattle.kom_scenario.specs.Early.{Early}
use Rattle.kom_expand.proofs.plan.events_of.Given as goal

abbrev pub invariant-loop-source : goal.invariant-loop-source
invariant-loop-source l = record {
  events : l.raises.items ++ events_from l.spans.items (drop l.source-index l.sources) l.generator ≡ events_from [] l.sources (generator_of l.seed);
  soon : Early (longest * sum_by events_of (take l.source-index l.sources)) l.spans.items;
}
