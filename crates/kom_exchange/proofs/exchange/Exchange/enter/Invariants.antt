use Rattle.kom_exchange.specs.Calls.{WaitsWith}
use Rattle.kom_exchange.proofs.exchange.Exchange.enter.Given as goal

abbrev pub invariant-loop : goal.invariant-loop
invariant-loop g l = WaitsWith l.ticket l.fn.place l.place
