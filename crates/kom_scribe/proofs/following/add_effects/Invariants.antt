use Rattle.std.proofs.Common.{◌≡◌, ◌++◌, take, Some, List}
use Rattle.kom_record.specs.declared.item.Item.{Item}
use Rattle.kom_record.specs.Entries.{Act, acts_for}
use Rattle.kom_record.specs.Trace.{effect_lines, joined}
use Rattle.kom_scribe.specs.Drafts.{IsAfter}
use Rattle.kom_scribe.proofs.following.add_effects.Given as goal

abbrev pub invariant-loop-i : goal.invariant-loop-i
invariant-loop-i l = record {
  lines : (done : List Act) (item : Item) → IsAfter l.names.declarations l.known l.initial.draft done
      → l.text ≡ l.initial.text ++ joined (effect_lines l.names.event_names l.names.declarations done l.c (Some item) l.to (take l.i l.effects));
  after : (done : List Act) (item : Item) → IsAfter l.names.declarations l.known l.initial.draft done
      → IsAfter l.names.declarations l.known l.draft (acts_for l.c (Some item) (take l.i l.effects) ++ done);
}
