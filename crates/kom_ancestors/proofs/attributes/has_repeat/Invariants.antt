use Rattle.std.proofs.Common.{◌≡◌, drop}
use Rattle.kom_rules.specs.Declaring.{has_repeat}
use Rattle.kom_ancestors.proofs.attributes.has_repeat.Given as goal

abbrev pub invariant-loop-i : goal.invariant-loop-i
invariant-loop-i l = has_repeat l.names ≡ has_repeat (drop l.i l.names)
