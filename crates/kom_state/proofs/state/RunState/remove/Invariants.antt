use Rattle.kom_tree.specs.Forest.{IsGrown}
use Rattle.kom_state.specs.Removals.{IsCut, IsDeepest}
use Rattle.kom_state.proofs.Lines.{living_count}
use Rattle.kom_state.proofs.state.RunState.remove.Given as goal

abbrev pub invariant-loop-next : goal.invariant-loop-next
invariant-loop-next l = record {
  cut : IsCut l.c l.slot l.fn.self l.self;
  deepest : IsDeepest l.self.tree.instances l.c l.slot l.next;
  grown : IsGrown l.self.tree.instances;
}

abbrev pub decreases-loop-next : goal.decreases-loop-next
decreases-loop-next l = living_count l.self.tree.instances
