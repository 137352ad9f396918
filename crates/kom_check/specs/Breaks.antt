-- The broken rule as the definitions have it.
use Rattle.kom_rules.specs.Broken.{Break}
use Rattle.kom_check.specs.declared.reported.Broken.{Broken}

abbrev pub break_of : Broken → Break
break_of b = record { number = b.number; at = b.at }
