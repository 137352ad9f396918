-- The parts of a run's state as its fields are seen.
use Rattle.kom_state.specs.declared.state.RunState.TheInside.{Inside}
use Rattle.kom_state.specs.Parts.{Parts}
use Rattle.kom_state.specs.Sound.{IsTied}

abbrev pub parts_of : Inside → Parts
parts_of s = record { tree = s.tree; wires = s.wiring; slots = s.queues; rows = s.life; bodies = s.bodies; numbers = s.numbers }

abbrev pub IsSound : Inside → Type 0
IsSound s = IsTied (parts_of s)
