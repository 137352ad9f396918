use Rattle.std.proofs.Common.{◌≡◌, ◌++◌, take}
use Rattle.std.specs.List.{flat_map, enumerate_from}
use Rattle.kom_sysprint.specs.Canonical.{between}
use Rattle.kom_sysprint.proofs.lists.add_separated.Given as goal

abbrev pub invariant-loop-i : goal.invariant-loop-i
invariant-loop-i g l = l.text ≡ l.initial.text ++ flat_map (λ p. between l.separator p.0 ++ g.P.Prints.printed l.prints p.1) (take l.i (enumerate_from 0 l.items))
