use Rattle.std.proofs.Common.{arith}
use Rattle.kom_scribe.proofs.Slots.{few_births}
use Rattle.kom_scribe.proofs.known.Known.note.Goals as goal

pub note_changes-requires : goal.note_changes-requires
note_changes-requires c = omega (arith, few_births c.args.draft.now.changes.items, c.requires.slots_room)
