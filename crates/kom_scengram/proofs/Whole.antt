-- What spells a scenario is read as it.
use Rattle.std.proofs.Common.{◌≡◌, ℕ, true, false, List, [], ◌∷◌, ◌++◌, None, refl, ◌∙◌, ap, append_assoc}
use Rattle.std.specs.Prelude.{codes, is_none}
use Rattle.std.proofs.lemmas.List.{append-nil}
use Rattle.kom_text.specs.declared.token.TokenKind.TheVariants.{Word, Sign}
use Rattle.kom_parse.specs.Lexemes.{Lexeme}
use Rattle.kom_parse.specs.Input.{Read, first, eat_if}
use Rattle.kom_parse.specs.Rules.{any, closes, eat, name, in_parens, onto}
use Rattle.kom_parse.specs.Spelled.{SpellsParens, SpellsRow, next as row_goes_on, end as row_ends}
use Rattle.kom_parse.proofs.Tokens.{exactly_reads, number_reads, name_reads}
use Rattle.kom_parse.proofs.ListLaws.{parens_whole}
use Rattle.kom_parse.proofs.RowLaws.{onto_all}
use Rattle.kom_system.specs.declared.parts.Spot.{Spot}
use Rattle.kom_grammar.specs.Expressions.{plain, minus}
use Rattle.kom_exprs.proofs.ExprWhole.{int_whole}
use Rattle.kom_files.proofs.Headers.{header_whole}
use Rattle.kom_files.proofs.RowWhole.{row_whole}
use Rattle.kom_scengram.specs.declared.parts.SettingPart.{SettingPart}
use Rattle.kom_scengram.specs.declared.parts.ArgPart.{ArgPart}
use Rattle.kom_scengram.specs.declared.parts.RaisePart.{RaisePart}
use Rattle.kom_scengram.specs.declared.parts.Moment.{Moment}
use Rattle.kom_scengram.specs.declared.parts.Moment.TheVariants as moment
use Rattle.kom_scengram.specs.declared.parts.StartPart.{StartPart}
use Rattle.kom_scengram.specs.declared.parts.SourcePart.{SourcePart}
use Rattle.kom_scengram.specs.declared.parts.ScenarioParts.{ScenarioParts}
use Rattle.kom_scengram.specs.Grammar as g
use Rattle.kom_scengram.specs.Grammar.{w, word_of, d, s, value, SpellsSetting, SpellsArg, SpellsRaise, moment_word, SpellsStart, SpellsSource, SpellsFile}
use Rattle.kom_scengram.specs.Reading.{numbered, paired, valued, network, setting_rule, ends_settings, settings, arg_rule, raise, moment_rule, after, start_rule, process, line, source_rule, sources, header_break, body, file}
use Rattle.kom_scengram.proofs.Readers.{setting_reader, some_of_setting, arg_reader, source_reader, some_of_source}

numbered_whole : (word : List ℕ) (a b : ℕ) (n : List ℕ) (rest : List Lexeme) → numbered word (w word a ∷ d n b ∷ rest) ≡ Read (a, value n b) rest
unfolding numbered
numbered_whole word a b n rest = rw (exactly_reads Word word a, number_reads n b) refl

paired_whole : (word : List ℕ) (a b c : ℕ) (n m : List ℕ) (rest : List Lexeme) → paired word (w word a ∷ d n b ∷ d m c ∷ rest) ≡ Read (a, (value n b, value m c)) rest
unfolding paired
paired_whole word a b c n m rest = rw (exactly_reads Word word a, number_reads n b, number_reads m c) refl

valued_whole : (word : List ℕ) (a b c : ℕ) (n : List ℕ) (rest : List Lexeme) → valued word (w word a ∷ d n b ∷ s (codes ";") c ∷ rest) ≡ Read (a, value n b) rest
unfolding valued
valued_whole word a b c n rest = rw (numbered_whole word a b n, exactly_reads Sign (codes ";") c) refl

any_reads : (n : Spot) (rest : List Lexeme) → name any (word_of n ∷ rest) ≡ Read n rest
any_reads n rest = name_reads any n.name n.at rest refl

-- ---- settings

setting_whole : (t : List Lexeme) (x : SettingPart) (rest : List Lexeme) → SpellsSetting t x → setting_rule (t ++ rest) ≡ Read x rest
unfolding setting_rule network
setting_whole t x rest (g.seed a b c {n = n}) = rw (valued_whole (codes "seed") a b c n) refl
setting_whole t x rest (g.steps a b c {n = n}) = rw (valued_whole (codes "steps") a b c n) refl
setting_whole t x rest (g.instants a b c {n = n}) = rw (valued_whole (codes "instants") a b c n) refl
setting_whole t x rest (g.network a b c e {n = n} {m = m}) = rw (paired_whole (codes "network") a b c n m, exactly_reads Sign (codes ";") e) refl

begins : (t : List Lexeme) (x : SettingPart) (rest : List Lexeme) → SpellsSetting t x → ends_settings (first (t ++ rest)) ≡ false
begins t x rest (g.seed a b c) = refl
begins t x rest (g.steps a b c) = refl
begins t x rest (g.instants a b c) = refl
begins t x rest (g.network a b c e) = refl

settings_whole : {t : List Lexeme} {xs : List SettingPart} → SpellsRow SpellsSetting t xs → (rest : List Lexeme) → ends_settings (first rest) ≡ true → settings [] (t ++ rest) ≡ Read xs rest
unfolding settings
settings_whole {xs = xs} ds rest e = row_whole ends_settings setting_rule onto SpellsSetting some_of_setting setting_reader begins setting_whole ds [] rest e ∙ ap (λ ys. Read ys rest) (onto_all [] xs)

-- ---- raises

arg_whole : (t : List Lexeme) (x : ArgPart) (rest : List Lexeme) → SpellsArg t x → arg_rule (t ++ rest) ≡ Read x rest
unfolding arg_rule
arg_whole t x rest (g.number (plain a {ds = n})) = rw (int_whole (d n a ∷ []) _ rest (plain a)) refl
arg_whole t x rest (g.number (minus a b {ds = n})) = rw (int_whole (s (codes "-") a ∷ d n b ∷ []) _ rest (minus a b)) refl
arg_whole t x rest (g.index a) = rw (exactly_reads Word (codes "index") a) refl
arg_whole t x rest (g.draw a b c {n = n} {m = m}) = rw (paired_whole (codes "draw") a b c n m) refl

begins_arg : (t : List Lexeme) (x : ArgPart) (rest : List Lexeme) → SpellsArg t x → closes (first (t ++ rest)) ≡ false
begins_arg t x rest (g.number (plain a)) = refl
begins_arg t x rest (g.number (minus a b)) = refl
begins_arg t x rest (g.index a) = refl
begins_arg t x rest (g.draw a b c) = refl

args_whole : {t : List Lexeme} {xs : List ArgPart} → SpellsParens SpellsArg t xs → (rest : List Lexeme) → in_parens arg_rule (t ++ rest) ≡ Read xs rest
args_whole ds rest = parens_whole arg_rule SpellsArg arg_reader (λ o. Unit {0}) (λ a. tt) (λ a. tt) (λ t x rest dx stops. arg_whole t x rest dx) begins_arg ds rest

raise_whole : {t : List Lexeme} {x : RaisePart} → SpellsRaise t x → (rest : List Lexeme) → raise (t ++ rest) ≡ Read x rest
unfolding raise
raise_whole (g.raise a b c {t = t} kind port ds) rest =
    simp append_assoc (rw (exactly_reads Word (codes "raise") a, any_reads kind, args_whole ds, exactly_reads Word (codes "at") b, any_reads port, exactly_reads Sign (codes ";") c) refl)

-- ---- sources

moment_whole : (m : Moment) (a : ℕ) (rest : List Lexeme) → moment_rule (w (moment_word m) a ∷ rest) ≡ Read m rest
unfolding moment_rule eat eat_if
moment_whole moment.Start a rest = refl
moment_whole moment.End a rest = rw (exactly_reads Word (codes "end") a) refl

start_whole : {t : List Lexeme} {x : StartPart} → SpellsStart t x → (rest : List Lexeme) → start_rule (t ++ rest) ≡ Read x rest
unfolding start_rule after
start_whole (g.at a b {n = n}) rest = rw (numbered_whole (codes "at") a b n) refl
start_whole (g.after a b c e f {n = n} m process) rest =
    rw (exactly_reads Word (codes "after") a, moment_whole m b, exactly_reads Word (codes "of") c, any_reads process, numbered_whole (codes "by") e f n) refl

source_whole : (t : List Lexeme) (x : SourcePart) (rest : List Lexeme) → SpellsSource t x → source_rule (t ++ rest) ≡ Read x rest
unfolding source_rule process line
source_whole t x rest (g.line a b {n = n} dr) = rw (numbered_whole (codes "at") a b n, raise_whole dr) refl
source_whole t x rest (g.process a b c e f g' h i j k name n l m dt dr) = simp append_assoc (rw (
  exactly_reads Word (codes "process") a,
  any_reads name,
  start_whole dt,
  exactly_reads Sign (codes "{") b,
  valued_whole (codes "count") c e f n,
  paired_whole (codes "gap") g' h i l m,
  exactly_reads Sign (codes ";") j,
  raise_whole dr,
  exactly_reads Sign (codes "}") k,
) refl)

begins_source : (t : List Lexeme) (x : SourcePart) (rest : List Lexeme) → SpellsSource t x → is_none (first (t ++ rest)) ≡ false
begins_source t x rest (g.line a b dr) = refl
begins_source t x rest (g.process a b c e f g' h i j k n v l m dt dr) = refl

sources_whole : {t : List Lexeme} {xs : List SourcePart} → SpellsRow SpellsSource t xs → sources [] t ≡ Read xs []
unfolding sources
sources_whole {t} {xs} ds =
    let e = row_whole is_none source_rule onto SpellsSource some_of_source source_reader begins_source source_whole ds [] [] refl in
    (rw append-nil at e) ∙ ap (λ ys. Read ys []) (onto_all [] xs)

-- the sources do not go on with settings
ends_at_source : {t : List Lexeme} {xs : List SourcePart} → SpellsRow SpellsSource t xs → ends_settings (first t) ≡ true
ends_at_source row_ends = refl
ends_at_source (row_goes_on (g.line a b dr) ds) = refl
ends_at_source (row_goes_on (g.process a b c e f g' h i j k n v l m dt dr) ds) = refl

-- ---- files

pub file_whole : (t : List Lexeme) (x : ScenarioParts) → SpellsFile t x → file t ≡ Read x []
unfolding file body
file_whole t x (g.file a b c {u = u} ds dt) = rw (header_whole (codes "scenario") (codes "1") a b c, settings_whole ds u (ends_at_source dt), sources_whole dt) refl

-- a file has its header
pub file_headed : (t : List Lexeme) (x : ScenarioParts) → SpellsFile t x → header_break t ≡ None
file_headed t x (g.file a b c ds dt) = refl
