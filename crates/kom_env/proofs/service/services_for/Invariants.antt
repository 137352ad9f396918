use Rattle.std.proofs.Common.{◌≡◌, map, take}
use Rattle.kom_env.specs.Outside.{service_of}
use Rattle.kom_env.proofs.service.services_for.Given as goal

abbrev pub invariant-loop-port : goal.invariant-loop-port
invariant-loop-port l = l.services.items ≡ map service_of (take l.port-index l.ports)
