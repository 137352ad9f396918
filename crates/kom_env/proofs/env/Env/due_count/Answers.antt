use Rattle.std.proofs.Common.{length, sym, ap}
use Rattle.kom_env.specs.Outside.{pending_of, next_time}
use Rattle.kom_env.proofs.Pending.{none_pending}
use Rattle.kom_env.proofs.env.Env.due_count.Goals as goal

pub returns-in-None : goal.returns-in-None
returns-in-None c = sym (ap length (none_pending (pending_of c.args.self.now) (next_time c.args.self.now) (sym c.in-None.ensures)))
