use Rattle.std.proofs.Common.{refl}
use Rattle.kom_scenario.specs.Answers.{in_the_tree}
use Rattle.kom_scenario.proofs.Soundness.{sound}
use Rattle.kom_scenario.proofs.read.judged.Goals as goal

pub of-requires : goal.of-requires
of-requires c = let found = rw c.in-Ok-Scene.field-0-is at c.in-Ok-Scene.ensures in rw found.1 (sound c.args.system.now c.args.tree.now found.0)

pub returns-in-Ok-Broken : goal.returns-in-Ok-Broken
returns-in-Ok-Broken c = rw c.refused.ensures (record {
  at = c.in-Ok-Broken.at;
  breaks = in_the_tree c.in-Ok-Broken.rule c.in-Ok-Broken.at c.args.tree.now c.requires.spelled (rw c.in-Ok-Broken.field-0-is at c.in-Ok-Broken.ensures);
  line_is = refl;
  column_is = refl;
})
