use Rattle.std.proofs.Common.{◌≡◌, ◌+◌, ◌≤◌, length, take}
use Rattle.std.specs.List.{All}
use Rattle.kom_refine.specs.Steps.{HaveCome}
use Rattle.kom_state.specs.Parts.{queue_spare, state_of}
use Rattle.kom_moves.specs.Bringing.{brought, way_in}
use Rattle.kom_moves.proofs.brings.bring.Given as goal

abbrev pub invariant-loop-k : goal.invariant-loop-k
invariant-loop-k l = record {
  step : HaveCome (brought l.fn.state.numbers.outs l.position (take l.k l.released)) (state_of l.fn.state) (state_of l.state);
  numbers : l.state.numbers ≡ l.fn.state.numbers;
  room : All (λ r. length l.released ≤ queue_spare l.state r.chan (way_in l.state.numbers.outs r.chan) + l.k) l.released;
}
