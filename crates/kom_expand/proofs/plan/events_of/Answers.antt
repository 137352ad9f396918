use Rattle.std.proofs.Common.{◌<◌, length, sym, arith, add-one}
use Rattle.std.proofs.lemmas.List.Sums.{sum_by_more}
use Rattle.kom_scenario.specs.Sound.{events_of, source_is_sound}
use Rattle.kom_expand.proofs.Onward.{all_at, next_early, events_step, events_end}
use Rattle.kom_expand.proofs.plan.events_of.Goals as goal

pub loop-source-preserved : goal.loop-source-preserved
loop-source-preserved c =
    let s = c.loop-source in
    let xs = c.args.sources.now in
    let x = c.source-item.result in
    let less : s.source-index < length xs = omega arith in
    let f = rw c.as_slice.ensures.value at c.in_ok-span.ensures in
    let sound = all_at source_is_sound xs s.source-index x c.requires.sound less c.source-item.is in
    record {
      events = rw add-one (events_step s.spans.items xs s.source-index x s.generator s.raises.items _ _ _ c.in_ok-span.span _ less c.source-item.is f.adds f.start c.in_ok-push.ensures.items s.invariant.events);
      soon = rw (c.in_ok-push.ensures.items, sum_by_more events_of xs s.source-index x less, sym c.source-item.is) (next_early _ s.spans.items x c.in_ok-span.span s.invariant.soon sound f.start f.soon);
    }

pub returns : goal.returns
returns c = events_end c.loop-source.spans.items c.args.sources.now c.loop-source.source-index c.loop-source.generator c.loop-source.raises.items _ (omega arith) c.loop-source.invariant.events
