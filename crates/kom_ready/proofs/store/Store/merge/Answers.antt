use Rattle.kom_ready.proofs.Keeping.{merges, within}
use Rattle.kom_ready.proofs.store.Store.merge.Goals as goal

pub absorb-requires-clause-rule : goal.absorb-requires-clause-rule
absorb-requires-clause-rule c = merges _ _ _ _ c.args.self.now.part

pub len_as-requires : goal.len_as-requires
len_as-requires c = within _ _
