-- The rules that look at one source after another.
use Rattle.std.specs.Prelude.{ℕ, List}
use Rattle.kom_system.specs.Contents.{Contents}
use Rattle.kom_scengram.specs.declared.parts.SourcePart.{SourcePart}
use Rattle.kom_scenario.specs.declared.raises.Check.{Check}
use Rattle.kom_scenario.specs.declared.raises.Check.TheVariants.{Names, Numbers, Types, Counts}
use Rattle.kom_scenario.specs.Numbers.{source_numbers}
use Rattle.kom_scenario.specs.Rules.{raise_of, raise_unknown, not_in, miscounted}

abbrev pub source_places : Contents → Check → SourcePart → List ℕ
source_places c Names x = raise_unknown c (raise_of x)
source_places c Numbers x = source_numbers x
source_places c Types x = not_in c (raise_of x)
source_places c Counts x = miscounted c (raise_of x)
