-- The law of a run in which room was made.
use Rattle.kom_turns.specs.declared.run.Run.{Run}
use Rattle.kom_turns.specs.Runs.{Stands}
use Rattle.kom_preparing.specs.Spaces.{IsButForSpace}

abbrev pub SpaciousRunsStand : Type 0
SpaciousRunsStand = (v n : Run) → IsButForSpace v n → Stands v → Stands n
