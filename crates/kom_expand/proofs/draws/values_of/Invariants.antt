use Rattle.std.proofs.Common.{◌≡◌, ◌++◌, drop}
use Rattle.kom_expand.specs.Drawn.{values_of}
use Rattle.kom_expand.proofs.draws.values_of.Given as goal

abbrev pub invariant-loop-arg : goal.invariant-loop-arg
invariant-loop-arg l = record {
  values : l.values ++ (values_of l.index (drop l.arg-index l.args) l.generator).0 ≡ (values_of l.index l.args l.fn.generator).0;
  generator : (values_of l.index (drop l.arg-index l.args) l.generator).1 ≡ (values_of l.index l.args l.fn.generator).1;
}
