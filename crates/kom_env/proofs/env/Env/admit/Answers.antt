use Rattle.std.proofs.Common.{sym, ap, subst}
use Rattle.kom_env.specs.Seen.{AreRaisedBy}
use Rattle.kom_env.proofs.Pending.{raised_more}
use Rattle.kom_env.proofs.env.Env.admit.Goals as goal

pub invariant_of-self : goal.invariant_of-self
invariant_of-self c =
    let i = c.self.inside in
    let v = c.self.invariant in
    record {
      pair = v.pair;
      most = v.most;
      raised = subst (AreRaisedBy 4611686018427387904) (sym c.admit.ensures.admits) (raised_more 4611686018427387904 c.args.raise i.calendar.0 c.requires.time v.raised);
      up_to = v.up_to;
      due_by = v.due_by;
      clock = v.clock;
    }
