use Rattle.std.proofs.Common.{◌≡◌, ◌++◌, take, codes}
use Rattle.std.specs.List.{flat_map, enumerate_from}
use Rattle.kom_sysprint.specs.Canonical.{between, integer}
use Rattle.kom_sysprint.proofs.lists.add_integers.Given as goal

abbrev pub invariant-loop-i : goal.invariant-loop-i
invariant-loop-i l = l.text ≡ l.fn.text ++ flat_map (λ p. between (codes ", ") p.0 ++ integer p.1) (take l.i (enumerate_from 0 l.values))
