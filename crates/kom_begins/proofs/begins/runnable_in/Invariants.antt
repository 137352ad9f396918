use Rattle.std.proofs.Common.{◌≡◌, length}
use Rattle.kom_state.specs.Parts.{state_of}
use Rattle.kom_begins.specs.Begun.{AreTested}
use Rattle.kom_begins.proofs.begins.runnable_in.Given as goal

abbrev pub invariant-loop-c : goal.invariant-loop-c
invariant-loop-c l = record {
  tested : AreTested (state_of l.state) l.busy l.c l.comps;
  bound : l.comps.bound ≡ length (state_of l.state).nodes;
}
