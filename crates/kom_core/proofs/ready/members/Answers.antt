use Rattle.kom_core.proofs.Listing.{one_tested}
use Rattle.kom_core.proofs.ready.members.Goals as goal

pub loop-c-preserved : goal.loop-c-preserved
loop-c-preserved c = one_tested c.args.set.now c.loop-c.c c.loop-c.comps.items c.list_one.new.comps.items c.loop-c.invariant c.in_ok-list_one.ensures
