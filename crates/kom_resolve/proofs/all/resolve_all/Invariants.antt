use Rattle.std.proofs.Common.{◌≡◌, map, take}
use Rattle.kom_resolve.proofs.all.resolve_all.Given as goal

abbrev pub invariant-loop-part : goal.invariant-loop-part
invariant-loop-part g l = l.values ≡ map (g.S.Resolves.value l.says) (take l.part-index l.parts)
