-- Which settings have come.
use Rattle.std.specs.Prelude.{Bool}
use Rattle.kom_scenario.specs.declared.settings.Setting.{Setting}
use Rattle.kom_scenario.specs.declared.settings.Setting.TheVariants as word
use Rattle.kom_scenario.specs.declared.settings.Seen.{Seen}

abbrev pub has : Seen → Setting → Bool
has s word.Seed = s.seed
has s word.Steps = s.steps
has s word.Instants = s.instants
has s word.Network = s.network
