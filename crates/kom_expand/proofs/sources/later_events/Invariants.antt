use Rattle.std.proofs.Common.{◌≡◌, ◌≤◌, ◌+◌, ◌*◌, ◌-◌, ◌++◌}
use Rattle.kom_scenario.specs.Sound.{longest}
use Rattle.kom_expand.specs.Drawn.{later_events}
use Rattle.kom_expand.proofs.sources.later_events.Given as goal

abbrev pub invariant-loop-index : goal.invariant-loop-index
invariant-loop-index l =
    let all = later_events l.pace.low l.pace.high l.raising (l.pace.count - 1) 1 l.start l.fn.generator in
    let left = later_events l.pace.low l.pace.high l.raising (l.pace.count - l.index) l.index l.time l.generator in
    record {
      events : l.raises.items ++ left.events ≡ l.fn.raises.items ++ all.events;
      last : left.last ≡ all.last;
      generator : left.generator ≡ all.generator;
      soon : l.time + longest ≤ l.start + longest * l.index;
    }
