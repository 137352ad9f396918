use Rattle.std.proofs.Common.{◌≡◌, length, take}
use Rattle.kom_births.specs.Seeds.{links_of}
use Rattle.kom_births.proofs.brood.Brood.channels.Given as goal

abbrev pub invariant-loop-seed : goal.invariant-loop-seed
invariant-loop-seed l = l.channels ≡ length (links_of (take l.seed-index l.self))
