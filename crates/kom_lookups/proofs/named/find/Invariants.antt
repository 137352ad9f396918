use Rattle.std.proofs.Common.{◌≡◌, drop}
use Rattle.kom_lookups.proofs.Counted.{found}
use Rattle.kom_lookups.proofs.named.find.Given as goal

abbrev pub invariant-loop-part : goal.invariant-loop-part
invariant-loop-part g l = found g.T.Declares.named l.parts l.spot.name ≡ found g.T.Declares.named (drop l.part-index l.parts) l.spot.name
