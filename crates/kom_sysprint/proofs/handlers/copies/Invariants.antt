use Rattle.std.proofs.Common.{◌≡◌, take}
use Rattle.kom_sysprint.proofs.handlers.copies.Given as goal

abbrev pub invariant-loop-name : goal.invariant-loop-name
invariant-loop-name l = l.scope.items ≡ take l.name-index l.names
