use Rattle.std.proofs.Common.{take}
use Rattle.kom_state.specs.Openings.{port_links}
use Rattle.kom_state.specs.Plantings.{IsLaid}
use Rattle.kom_state.proofs.opening.lay_ports.Given as goal

abbrev pub invariant-loop-q : goal.invariant-loop-q
invariant-loop-q l = IsLaid l.numbers 0 (take l.q (port_links l.outs)) l.fn.wiring l.wiring l.fn.queues l.queues
