use Rattle.std.proofs.Common.{◌≡◌, ◌++◌}
use Rattle.kom_entering.proofs.Spread.{HasSpread, IsWayAmong}
use Rattle.kom_entering.proofs.lists.Entering.into_all.Given as goal

abbrev pub invariant-loop-x : goal.invariant-loop-x
invariant-loop-x l = record {
  rest : l.yielded ++ l.x-iterator ≡ l.initial.x-iterator;
  noted : HasSpread l.fn.system.declarations l.fn.state l.fn.half l.fn.event l.yielded l.fn.self l.self;
  out : IsWayAmong l.fn.system.declarations l.fn.state l.fn.half l.fn.event l.yielded l.out;
}
