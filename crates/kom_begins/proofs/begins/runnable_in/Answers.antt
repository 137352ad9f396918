use Rattle.kom_state.specs.Parts.{state_of}
use Rattle.std.proofs.Common.{◌∙◌}
use Rattle.kom_begins.proofs.Begun.{tested_on}
use Rattle.kom_begins.proofs.begins.runnable_in.Goals as goal

pub loop-c-preserved : goal.loop-c-preserved
loop-c-preserved c = record {
  tested = tested_on (state_of c.args.state.now) c.args.busy.now c.loop-c.comps c.set.new.self c.loop-c.c c.is_runnable.result c.loop-c.invariant.tested c.is_runnable.ensures c.set.ensures.each;
  bound = c.set.ensures.bound ∙ c.loop-c.invariant.bound;
}
