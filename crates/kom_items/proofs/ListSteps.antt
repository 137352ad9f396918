-- What methods that read lists need of the rules.
use Rattle.std.proofs.Common.{◌≡◌, ℤ, ◌<◌, Bool, true, false, List, [], ◌∷◌, length, refl}
use Rattle.std.specs.Prelude.{codes}
use Rattle.kom_system.specs.declared.parts.TestPart.{TestPart}
use Rattle.kom_text.specs.declared.token.TokenKind.TheVariants.{Sign}
use Rattle.kom_parse.specs.Lexemes.{Lexeme}
use Rattle.kom_parse.specs.Input.{Read, Refuse, eat_if, loop}
use Rattle.kom_parse.specs.Rules.{is_comma, eat, onto, more}
use Rattle.kom_parse.proofs.BetweenLaws.{more_ends, more_refuses, each_turns, each_shorter}
use Rattle.kom_parse.proofs.ListSteps.{commas_turn, commas_shorter}
use Rattle.kom_grammar.specs.Expressions.{SpellsInt}
use Rattle.kom_grammar.specs.Files.{SpellsTest}
use Rattle.kom_exprs.specs.Reading.{int}
use Rattle.kom_exprs.proofs.ExprReads.{int_reader}
use Rattle.kom_items.specs.Reading.{test, is_and, eat_and, tests}
use Rattle.kom_items.proofs.ItemReads.{test_reader, no_and}

pub ints_turn : (xs : List ℤ) (x : ℤ) (ts middle after : List Lexeme) → eat Sign (codes ",") ts ≡ Read true middle → int middle ≡ Read x after
    → loop (more is_comma int) xs ts ≡ loop (more is_comma int) (onto xs x) after
ints_turn xs x ts middle after e e' = commas_turn int SpellsInt int_reader xs x ts middle after e e'

pub ints_shorter : (x : ℤ) (ts middle after : List Lexeme) → eat Sign (codes ",") ts ≡ Read true middle → int middle ≡ Read x after → length after < length ts
ints_shorter x ts middle after e e' = commas_shorter int SpellsInt int_reader x ts middle after e e'

-- ---- tests

pub and_comes : (two found : Bool) (ts after : List Lexeme) → two ≡ true → eat Sign (codes "&&") ts ≡ Read found after → eat_and two ts ≡ Read found after
unfolding eat_and eat eat_if
and_comes true found ts after is e = e
and_comes false found ts after is e = absurd cc

pub no_and_in_one : (two : Bool) (ts : List Lexeme) → two ≡ false → eat_and two ts ≡ Read false ts
unfolding eat_and eat_if
no_and_in_one true ts is = absurd cc
no_and_in_one false ts is = refl

module _ (two : Bool) where
  pub tests_begin : (x : TestPart) (ts after : List Lexeme) → test ts ≡ Read x after → tests two ts ≡ loop (more (is_and two) test) (x ∷ []) after
  unfolding tests
  tests_begin x ts after e = rw e refl

  pub no_test : (ts after : List Lexeme) → test ts ≡ Refuse after → tests two ts ≡ Refuse after
  unfolding tests
  no_test ts after e = rw e refl

  pub tests_end : (xs : List TestPart) (ts after : List Lexeme) → eat_and two ts ≡ Read false after → loop (more (is_and two) test) xs ts ≡ Read xs after
  unfolding eat_and
  tests_end xs ts after e = more_ends (is_and two) test xs ts after e

  pub tests_refuse : (xs : List TestPart) (ts middle after : List Lexeme) → eat_and two ts ≡ Read true middle → test middle ≡ Refuse after → loop (more (is_and two) test) xs ts ≡ Refuse after
  unfolding eat_and
  tests_refuse xs ts middle after e e' = more_refuses (is_and two) test xs ts middle after e e'

  pub tests_turn : (xs : List TestPart) (x : TestPart) (ts middle after : List Lexeme) → eat_and two ts ≡ Read true middle → test middle ≡ Read x after
      → loop (more (is_and two) test) xs ts ≡ loop (more (is_and two) test) (onto xs x) after
  unfolding eat_and
  tests_turn xs x ts middle after e e' = each_turns (is_and two) (no_and two) test SpellsTest test_reader xs x ts middle after e e'

  pub tests_shorter : (x : TestPart) (ts middle after : List Lexeme) → eat_and two ts ≡ Read true middle → test middle ≡ Read x after → length after < length ts
  unfolding eat_and
  tests_shorter x ts middle after e e' = each_shorter (is_and two) (no_and two) test SpellsTest test_reader x ts middle after e e'
