use Rattle.std.proofs.Common.{ap}
use Rattle.kom_wakes.specs.Laws.{queue_length}
use Rattle.kom_waits.proofs.Waiting.{below_same}
use Rattle.kom_waits.proofs.same_queues_count.Goals as goal

pub returns : goal.returns
returns c m n k same = below_same m n k (λ x d l. ap queue_length (same x d))
