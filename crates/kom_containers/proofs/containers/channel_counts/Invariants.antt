use Rattle.std.proofs.Common.{◌≡◌, map, take, length}
use Rattle.kom_containers.proofs.containers.channel_counts.Given as goal

abbrev pub invariant-loop-part : goal.invariant-loop-part
invariant-loop-part l = l.own ≡ map (λ c. length c.channels) (take l.part-index l.part-items)
