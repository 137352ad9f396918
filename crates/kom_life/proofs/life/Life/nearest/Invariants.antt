use Rattle.std.proofs.Common.{◌≡◌}
use Rattle.kom_tree.specs.Forest.{line_of, line_under}
use Rattle.kom_life.specs.Rows.{nearest_of}
use Rattle.kom_life.proofs.Lines.{place_of, IsMade}
use Rattle.kom_life.proofs.life.Life.nearest.Given as goal

abbrev pub invariant-loop-above : goal.invariant-loop-above
invariant-loop-above l = record {
  same : nearest_of l.self (line_of l.tree.instances l.fn.c) ≡ nearest_of l.self (line_under l.tree.instances l.above);
  made : IsMade l.tree.instances l.above;
}

abbrev pub decreases-loop-above : goal.decreases-loop-above
decreases-loop-above l = place_of l.above
