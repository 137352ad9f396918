-- A name is a word that is not reserved.
use Rattle.std.proofs.Common.{◌≡◌, true, false, List, Option, Some, None, sym, ◌∙◌, ap}
use Rattle.std.specs.Prelude.{option_map}
use Rattle.kom_parse.specs.declared.numeral.WordAt.{WordAt}
use Rattle.kom_parse.specs.Lexemes.{Lexeme}
use Rattle.kom_parse.specs.Input.{Refuse, first}
use Rattle.kom_parse.specs.Rules.{any, spot_of, name_in, name}
use Rattle.kom_parse.proofs.Steps.{name_passes, name_fails, name_absent}
use Rattle.kom_grammar.specs.Words.{is_name}

pub name_taken : (ts : List Lexeme) (o : Option WordAt) (v : WordAt) → o ≡ Some v → option_map spot_of o ≡ name_in any (first ts) → is_name v.bytes.now ≡ true → name is_name ts ≡ name any ts
name_taken ts o v is e h = name_passes is_name ts (spot_of v) (sym e ∙ ap (option_map spot_of) is) h

pub name_is_reserved : (ts : List Lexeme) (o : Option WordAt) (v : WordAt) → o ≡ Some v → option_map spot_of o ≡ name_in any (first ts) → is_name v.bytes.now ≡ false → name is_name ts ≡ Refuse ts
name_is_reserved ts o v is e h = name_fails is_name ts (spot_of v) (sym e ∙ ap (option_map spot_of) is) h

pub no_word : (ts : List Lexeme) (o : Option WordAt) → o ≡ None → option_map spot_of o ≡ name_in any (first ts) → name is_name ts ≡ Refuse ts
no_word ts o is e = name_absent is_name ts (sym e ∙ ap (option_map spot_of) is)
