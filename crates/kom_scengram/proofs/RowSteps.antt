-- What methods that read lists and rows need of the rules.
use Rattle.std.proofs.Common.{◌≡◌, ◌≢◌, ◌<◌, true, false, List, [], ◌∷◌, length, refl, arith}
use Rattle.std.specs.Prelude.{is_none, codes}
use Rattle.kom_text.specs.declared.token.TokenKind.TheVariants.{Sign}
use Rattle.kom_parse.specs.Lexemes.{Lexeme}
use Rattle.kom_parse.specs.Input.{Read, Refuse, first, loop}
use Rattle.kom_parse.specs.Rules.{eat, onto, more, is_comma}
use Rattle.kom_parse.specs.Spelled.{SpellsRow, end as row_ends, next as row_goes_on}
use Rattle.kom_parse.proofs.ListSteps.{commas_turn, commas_shorter}
use Rattle.kom_parse.proofs.RowLaws.{row_end, row_stuck, row_goes, row_shorter}
use Rattle.kom_scengram.specs.declared.parts.SettingPart.{SettingPart}
use Rattle.kom_scengram.specs.declared.parts.ArgPart.{ArgPart}
use Rattle.kom_scengram.specs.declared.parts.SourcePart.{SourcePart}
use Rattle.kom_scengram.specs.Grammar.{SpellsSetting, SpellsArg, SpellsSource}
use Rattle.kom_scengram.specs.Reading.{setting_rule, begins_setting, ends_settings, settings, arg_rule, source_rule, sources}
use Rattle.kom_scengram.proofs.Readers.{setting_reader, some_of_setting, arg_reader, source_reader, some_of_source}

-- ---- arguments

pub args_turn : (xs : List ArgPart) (x : ArgPart) (ts middle after : List Lexeme) → eat Sign (codes ",") ts ≡ Read true middle → arg_rule middle ≡ Read x after
    → loop (more is_comma arg_rule) xs ts ≡ loop (more is_comma arg_rule) (onto xs x) after
args_turn = commas_turn arg_rule SpellsArg arg_reader

pub args_shorter : (x : ArgPart) (ts middle after : List Lexeme) → eat Sign (codes ",") ts ≡ Read true middle → arg_rule middle ≡ Read x after → length after < length ts
args_shorter = commas_shorter arg_rule SpellsArg arg_reader

-- ---- settings

pub settings_go : (xs : List SettingPart) (x : SettingPart) (ts after : List Lexeme) → begins_setting (first ts) ≡ true → setting_rule ts ≡ Read x after → settings xs ts ≡ settings (onto xs x) after
unfolding settings
settings_go xs x ts after e e' =
    row_goes ends_settings setting_rule onto SpellsSetting (SpellsRow SpellsSetting) row_ends (λ t ts x xs dx ds. row_goes_on dx ds) some_of_setting setting_reader xs x ts after (rw e refl) e'

pub settings_shorter : (x : SettingPart) (ts after : List Lexeme) → begins_setting (first ts) ≡ true → setting_rule ts ≡ Read x after → length after < length ts
settings_shorter x ts after e e' =
    row_shorter ends_settings setting_rule onto SpellsSetting (SpellsRow SpellsSetting) row_ends (λ t ts x xs dx ds. row_goes_on dx ds) some_of_setting setting_reader [] x ts after (rw e refl) e'

pub settings_refuse : (xs : List SettingPart) (ts after : List Lexeme) → begins_setting (first ts) ≡ true → setting_rule ts ≡ Refuse after → settings xs ts ≡ Refuse after
unfolding settings
settings_refuse xs ts after e e' = row_stuck ends_settings setting_rule onto xs ts after (rw e refl) e'

pub settings_end : (xs : List SettingPart) (ts : List Lexeme) → begins_setting (first ts) ≡ false → settings xs ts ≡ Read xs ts
unfolding settings
settings_end xs ts e = row_end ends_settings setting_rule onto xs ts (rw e refl)

-- ---- sources

some_left : (ts : List Lexeme) → length ts ≢ 0 → is_none (first ts) ≡ false
some_left [] e = absurd (e refl)
some_left (t ∷ ts) e = refl

pub sources_go : (xs : List SourcePart) (x : SourcePart) (ts after : List Lexeme) → length ts ≢ 0 → source_rule ts ≡ Read x after → sources xs ts ≡ sources (onto xs x) after
unfolding sources
sources_go xs x ts after e e' =
    row_goes is_none source_rule onto SpellsSource (SpellsRow SpellsSource) row_ends (λ t ts x xs dx ds. row_goes_on dx ds) some_of_source source_reader xs x ts after (some_left ts e) e'

pub sources_shorter : (x : SourcePart) (ts after : List Lexeme) → length ts ≢ 0 → source_rule ts ≡ Read x after → length after < length ts
sources_shorter x ts after e e' =
    row_shorter is_none source_rule onto SpellsSource (SpellsRow SpellsSource) row_ends (λ t ts x xs dx ds. row_goes_on dx ds) some_of_source source_reader [] x ts after (some_left ts e) e'

pub sources_refuse : (xs : List SourcePart) (ts after : List Lexeme) → length ts ≢ 0 → source_rule ts ≡ Refuse after → sources xs ts ≡ Refuse after
unfolding sources
sources_refuse xs ts after e e' = row_stuck is_none source_rule onto xs ts after (some_left ts e) e'

pub sources_end : (xs : List SourcePart) (ts : List Lexeme) → length ts ≡ 0 → sources xs ts ≡ Read xs ts
unfolding sources
sources_end xs [] e = row_end is_none source_rule onto xs [] refl
sources_end xs (t ∷ ts) e = absurd (omega (arith, e))

pub nothing_left : (ts : List Lexeme) → length ts ≡ 0 → ts ≡ []
nothing_left [] e = refl
nothing_left (t ∷ ts) e = absurd (omega (arith, e))
