use Rattle.kompics.proofs.top.write_run.Goals as goal

pub write_trace-requires-clause-legal : goal.write_trace-requires-clause-legal
write_trace-requires-clause-legal g c = rw c.deref.ensures c.args.run.legal
