-- A part of the text of an arrival.
use Rattle.std.specs.Prelude.{ℕ, ◌++◌}
use Rattle.std.specs.Fmt.{decimal}
use Rattle.kom_base.specs.declared.numbers.Dir.{Dir}
use Rattle.kom_base.specs.declared.numbers.EntryNo.{EntryNo}
use Rattle.kom_record.specs.declared.item.Back.{Back}
use Rattle.kom_record.specs.Trace.{Text, word, number, dotted, direction, arrival_word}

-- the direction by which an event arrives, and the number of its offer
abbrev pub way_text : Back → ℕ → Dir → EntryNo → Text
way_text back x d n = word (arrival_word back) ++ number x ++ word (direction d) ++ word (dotted (decimal n.position) (decimal n.place))
