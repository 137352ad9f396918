-- Which handlers of a type are asked for.
use Rattle.std.specs.Prelude.{Bool}
use Rattle.kom_lang.specs.declared.stmt.Handler.{Handler}
use Rattle.kom_lang.specs.Declarations.{is_init, is_on}
use Rattle.kom_eval.specs.declared.prepare.Wanted.{Wanted}
use Rattle.kom_eval.specs.declared.prepare.Wanted.TheVariants.{Init, First}

abbrev pub passes : Wanted → Handler → Bool
passes Init h = is_init h.on
passes First h = is_on h
