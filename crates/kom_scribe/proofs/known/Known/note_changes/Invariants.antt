use Rattle.std.proofs.Common.{◌≡◌, ◌+◌, ◌≤◌, ℕ, length, take}
use Rattle.kom_scribe.specs.Drafts.{occupant_in, births, known_occupant}
use Rattle.kom_scribe.proofs.known.Known.note_changes.Given as goal

abbrev pub invariant-loop-change : goal.invariant-loop-change
invariant-loop-change l =
    (l.self.kinds ≡ l.initial.self.kinds)
    × ((p s : ℕ) → known_occupant l.self p s ≡ occupant_in p s (length l.initial.self.kinds.items) (known_occupant l.initial.self p s) (take l.change-index l.change-items))
    × (l.next ≡ length l.initial.self.kinds.items + births (take l.change-index l.change-items))
    × (l.initial.self.occupants.1 ≤ l.self.occupants.1 + births (take l.change-index l.change-items))
