use Rattle.std.proofs.Common.{◌∷◌, cond, sym, ap, ◌∙◌}
use Rattle.kom_sim.specs.Line.{last_of_each}
use Rattle.kom_sim.proofs.Counts.{still_counted, last_of_popped}
use Rattle.kom_sim.proofs.line.Line.pop.Goals as goal

pub returns-then-count_one_less : goal.returns-then-count_one_less
returns-then-count_one_less c = record {
  first =
      sym c.self.view_is ∙ sym c.loop-c.invariant.0
      ∙ last_of_popped c.loop-c.self-inside.counts.items c.count_one_less.new.counts.items c.in-Some.c c.loop-c.self-inside.queue.items c.pop_front.new.self.items c.in-Some.ensures.items c.loop-c.invariant.1 c.count_one_less.ensures.counts c.count_one_less.result c.count_one_less.ensures.last
      ∙ ap (λ b. cond b (c.in-Some.c ∷ last_of_each c.pop_front.new.self.items) (last_of_each c.pop_front.new.self.items)) c.if-count_one_less.true;
  none = tt;
}

pub loop-c-preserved : goal.loop-c-preserved
loop-c-preserved c = (
  sym (last_of_popped c.loop-c.self-inside.counts.items c.count_one_less.new.counts.items c.in-Some.c c.loop-c.self-inside.queue.items c.pop_front.new.self.items c.in-Some.ensures.items c.loop-c.invariant.1 c.count_one_less.ensures.counts c.count_one_less.result c.count_one_less.ensures.last
      ∙ ap (λ b. cond b (c.in-Some.c ∷ last_of_each c.pop_front.new.self.items) (last_of_each c.pop_front.new.self.items)) c.if-count_one_less.false)
      ∙ c.loop-c.invariant.0,
  still_counted c.loop-c.self-inside.counts.items c.count_one_less.new.counts.items c.in-Some.c c.loop-c.self-inside.queue.items c.pop_front.new.self.items c.in-Some.ensures.items c.loop-c.invariant.1 c.count_one_less.ensures.counts,
)
