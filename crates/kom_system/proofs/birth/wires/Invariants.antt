use Rattle.std.proofs.Common.{◌≡◌, map, take}
use Rattle.kom_lang.specs.Bodies.{first_wire}
use Rattle.kom_system.proofs.birth.wires.Given as goal

abbrev pub invariant-loop-channel : goal.invariant-loop-channel
invariant-loop-channel l = l.wires ≡ map first_wire (take l.channel-index l.channel-items)
