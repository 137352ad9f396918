use Rattle.std.proofs.Math.Logic.{∥∥₁_elim}
use Rattle.kom_core.proofs.Deciding.{never_void}
use Rattle.kom_core.proofs.ends.end_living.Goals as goal

pub unreachable-requires : goal.unreachable-requires
unreachable-requires c = ∥∥₁_elim c.args.ran.now.reacted (λ x. absurd x) (λ r. never_void _ _ _ _ c.in-Void.is r)
