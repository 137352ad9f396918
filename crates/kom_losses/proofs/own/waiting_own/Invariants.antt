use Rattle.std.proofs.Common.{◌≡◌, ◌+◌}
use Rattle.kom_numbers.specs.Numbering.{first_of}
use Rattle.kom_state.specs.Parts.{state_of}
use Rattle.kom_queued.specs.Counting.{waiting_below}
use Rattle.kom_losses.proofs.own.waiting_own.Given as goal

abbrev pub invariant-loop-k : goal.invariant-loop-k
invariant-loop-k l = l.count + waiting_below (state_of l.state) (first_of l.state.numbers l.d) ≡ waiting_below (state_of l.state) (first_of l.state.numbers l.d + l.k)
