use Rattle.std.proofs.Common.{arith}
use Rattle.kom_commits.proofs.Counting.{few_wait}
use Rattle.kom_commits.proofs.counted.lost_by.Goals as goal

pub waiting_under-requires-clause-few : goal.waiting_under-requires-clause-few
waiting_under-requires-clause-few c = few_wait c.args.state.now c.args.queued (omega (arith, c.ranges.queued)) c.requires.queued
