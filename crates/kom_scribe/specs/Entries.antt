-- What the text of an entry asks of the record before it.
use Rattle.std.specs.Prelude.{◌≡◌, true, List, [], is_some}
use Rattle.kom_lang.specs.declared.body.Effect.{Effect}
use Rattle.kom_record.specs.declared.entry.Outcome.{Outcome}
use Rattle.kom_record.specs.declared.entry.Outcome.TheVariants as outcome
use Rattle.kom_record.specs.declared.entry.Entry.{Entry}
use Rattle.kom_record.specs.declared.entry.Entry.TheVariants.{Did}
use Rattle.kom_record.specs.Entries.{History, item_at}

-- a Did ends the job of an item that was taken
abbrev pub EndsTaken : History → Entry → Type 0
EndsTaken P (Did w c took o to places) = is_some (item_at P took) ≡ true
EndsTaken P e = Unit {0}

abbrev pub effects_of : Outcome → List Effect
effects_of (outcome.Done body effects) = effects
effects_of o = []
