-- A number that is written without a sign is not negative.
use Rattle.std.proofs.Common.{◌≡◌, pos, ◌≤ℤ◌, List, arith}
use Rattle.std.proofs.lemmas.Int.{ints}
use Rattle.kom_parse.specs.declared.numeral.Numeral.{Numeral}
use Rattle.kom_parse.specs.Lexemes.{Lexeme}
use Rattle.kom_parse.specs.Input.{Read}
use Rattle.kom_parse.specs.Rules.{number}
use Rattle.kom_parse.proofs.Tokens.{number_reader}
use Rattle.kom_parse.specs.Spelled.{SpellsNumber, numbered}

spelled : {t : List Lexeme} {n : Numeral} → SpellsNumber t n → pos 0 ≤ℤ n.value
spelled (numbered {ds = ds}) = omega (arith, ints)

pub not_negative : (ts after : List Lexeme) (n : Numeral) → number ts ≡ Read n after → pos 0 ≤ℤ n.value
not_negative ts after n e = spelled (number_reader.reads ts n after e).spells
