use Rattle.kom_ready.proofs.Keeping.{comes}
use Rattle.kom_ready.proofs.lots.Lot.push.Goals as goal

pub push_as-requires-clause-pushes : goal.push_as-requires-clause-pushes
push_as-requires-clause-pushes c = comes _ _ _ _ c.args.self.now.part
