use Rattle.std.proofs.Common.{◌≡◌, ◌++◌, take}
use Rattle.std.specs.List.{flat_map}
use Rattle.kom_sysprint.specs.Canonical.{kind_text}
use Rattle.kom_sysprint.proofs.print.add_kinds.Given as goal

abbrev pub invariant-loop-k : goal.invariant-loop-k
invariant-loop-k l = l.text ≡ l.fn.text ++ flat_map (kind_text l.kinds.names.now) (take l.k l.kinds.names.now.declarations.kinds)
