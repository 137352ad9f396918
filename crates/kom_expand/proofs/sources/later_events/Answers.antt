use Rattle.std.proofs.Common.{◌<◌, ◌+◌, ◌-◌, ◌++◌, ◌∷◌, [], sym, ◌∙◌, ap, arith, append_assoc}
use Rattle.kom_expand.specs.Drawn.{Run, later_events}
use Rattle.kom_expand.proofs.Runs.{later_step}
use Rattle.kom_expand.proofs.sources.later_events.Goals as goal

pub loop-index-preserved : goal.loop-index-preserved
loop-index-preserved c =
    let p = c.args.pace in
    let l = c.loop-index in
    let event = c.in_ok-event_at.field-0 in
    let less : l.index < p.count = omega arith in
    let step = later_step p.low p.high c.args.raising.now p.count l.index l.time c.drawn-gap.result l.generator c.drawn-gap.new.generator c.event_at.new.generator event less
    c.drawn-gap.ensures.value c.in_ok-event_at.ensures in
    let rest = later_events p.low p.high c.args.raising.now (p.count - (l.index + 1)) (l.index + 1) (l.time + c.drawn-gap.result) c.event_at.new.generator in
    record {
      events = rw c.in_ok-push.ensures.items (append_assoc l.raises.items (event ∷ []) rest.events) ∙ ap (λ (r : Run). l.raises.items ++ r.events) (sym step) ∙ l.invariant.events;
      last = ap (λ (r : Run). r.last) (sym step) ∙ l.invariant.last;
      generator = ap (λ (r : Run). r.generator) (sym step) ∙ l.invariant.generator;
      soon = omega (arith, l.invariant.soon, c.drawn-gap.ensures.within, c.requires.longest);
    }
