use Rattle.std.proofs.Common.{◌≡◌, take}
use Rattle.kom_crew.specs.Seated.{given_in_all}
use Rattle.kom_crew.proofs.seating.given_to_all.Given as goal

abbrev pub invariant-loop-worker : goal.invariant-loop-worker
invariant-loop-worker l = l.given ≡ given_in_all (take l.worker-index l.workers)
