use Rattle.kom_ready.proofs.Keeping.{drains, settles}
use Rattle.kom_ready.proofs.store.Store.pop.Goals as goal

pub pop_as-requires-clause-fifo : goal.pop_as-requires-clause-fifo
pop_as-requires-clause-fifo c = λ _. drains _ _ c.args.self.now.part

pub pop_as-requires-clause-empty : goal.pop_as-requires-clause-empty
pop_as-requires-clause-empty c = settles _ _
