use Rattle.std.proofs.Common.{◌≡◌, length, map}
use Rattle.std.specs.List.{sum_by}
use Rattle.crossbeam_deque.specs.Handles.{stealer_deque, stealer_flavor}
use Rattle.kom_ready.specs.Lots.{AreLent}
use Rattle.kom_ready.proofs.making.open.Given as goal

abbrev pub invariant-loop-number : goal.invariant-loop-number
invariant-loop-number l = record {
  lent : AreLent (map stealer_deque l.thieves.items) 0 0 0 l.lots.items;
  count : length l.thieves.items ≡ l.number;
  fifo : sum_by stealer_flavor l.thieves.items ≡ 0;
}
