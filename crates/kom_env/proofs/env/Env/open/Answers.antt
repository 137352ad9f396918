use Rattle.std.proofs.Common.{sym, ap, subst, arith}
use Rattle.kom_env.specs.Seen.{AreRaisedBy, AreDueBy, farthest}
use Rattle.kom_env.proofs.Pending.{raised_within}
use Rattle.kom_env.proofs.env.Env.open.Goals as goal

pub invariant_of-result : goal.invariant_of-result
invariant_of-result c = record {
  pair = c.requires.pair;
  most = c.requires.greatest;
  raised = subst (AreRaisedBy 4611686018427387904) (sym c.in_ok-calendar.ensures) (raised_within c.args.plan.raises c.requires.times);
  up_to = ap (λ m. m.0) c.new-2.ensures;
  due_by = subst (λ m. AreDueBy (farthest 1) m.0) (sym c.new-2.ensures) tt;
  clock = omega arith;
}
