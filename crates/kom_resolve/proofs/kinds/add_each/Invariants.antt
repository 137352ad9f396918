use Rattle.std.proofs.Common.{◌≡◌, take, fold}
use Rattle.kom_rules.specs.Names.{names_of, with_name}
use Rattle.kom_resolve.proofs.kinds.add_each.Given as goal

abbrev pub invariant-loop-spot : goal.invariant-loop-spot
invariant-loop-spot l = l.scope ≡ fold with_name l.initial.scope (names_of (take l.spot-index l.spots))
