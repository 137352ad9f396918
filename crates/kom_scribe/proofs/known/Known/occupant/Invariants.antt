use Rattle.std.proofs.Common.{◌≡◌, ◌+◌, length, take}
use Rattle.kom_scribe.specs.Drafts.{occupant_in, births, known_occupant}
use Rattle.kom_scribe.proofs.known.Known.occupant.Given as goal

abbrev pub invariant-loop-change : goal.invariant-loop-change
invariant-loop-change l =
    (l.found ≡ occupant_in l.at.comp l.at.slot (length l.self.kinds.items) (known_occupant l.self l.at.comp l.at.slot) (take l.change-index l.change-items))
    × (l.next ≡ length l.self.kinds.items + births (take l.change-index l.change-items))
