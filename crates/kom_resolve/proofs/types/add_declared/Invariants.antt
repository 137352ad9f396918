use Rattle.std.proofs.Common.{◌≡◌, ◌++◌, take, map}
use Rattle.kom_rules.specs.Names.{names_of}
use Rattle.kom_resolve.proofs.types.add_declared.Given as goal

abbrev pub invariant-loop-part : goal.invariant-loop-part
invariant-loop-part g l = l.names ≡ l.initial.names ++ names_of (map g.T.Declares.named (take l.part-index l.parts))
