-- How scenario files are read from left to right, a function for each method.
use Rattle.std.specs.Prelude.{ℕ, Bool, true, false, not, ◌||◌, List, [], Option, is_none, codes, if◌then◌else◌}
use Rattle.kom_text.specs.declared.token.TokenKind.TheVariants.{Word, Sign}
use Rattle.kom_parse.specs.declared.numeral.Numeral.{Numeral}
use Rattle.kom_parse.specs.Lexemes.{Lexeme}
use Rattle.kom_parse.specs.Input.{Parser, ◌>>=◌, ◌>>◌, pure, by_next, loop}
use Rattle.kom_parse.specs.Rules.{any, is_exactly, exactly, eat, name, number, in_parens, onto, row_turn}
use Rattle.kom_files.specs.Headers.{header as header_of, header_break as header_break_of}
use Rattle.kom_exprs.specs.Reading.{int}
use Rattle.kom_scengram.specs.declared.parts.SettingPart.{SettingPart}
use Rattle.kom_scengram.specs.declared.parts.SettingPart.TheVariants as setting
use Rattle.kom_scengram.specs.declared.parts.ArgPart.{ArgPart}
use Rattle.kom_scengram.specs.declared.parts.ArgPart.TheVariants as arg
use Rattle.kom_scengram.specs.declared.parts.RaisePart.{RaisePart}
use Rattle.kom_scengram.specs.declared.parts.Moment.{Moment}
use Rattle.kom_scengram.specs.declared.parts.Moment.TheVariants as moment
use Rattle.kom_scengram.specs.declared.parts.StartPart.{StartPart}
use Rattle.kom_scengram.specs.declared.parts.StartPart.TheVariants as start
use Rattle.kom_scengram.specs.declared.parts.SourcePart.{SourcePart}
use Rattle.kom_scengram.specs.declared.parts.SourcePart.TheVariants as source
use Rattle.kom_scengram.specs.declared.parts.ScenarioParts.{ScenarioParts}

-- ---- numbers behind a word

-- a word and a number, with the word's place
unfoldable pub numbered : List ℕ → Parser (ℕ × Numeral)
numbered word = do
  a ← exactly Word word
  n ← number
  pure (a, n)

-- a word and two numbers
unfoldable pub paired : List ℕ → Parser (ℕ × (Numeral × Numeral))
paired word = do
  a ← exactly Word word
  n ← number
  m ← number
  pure (a, (n, m))

-- ---- settings

unfoldable pub valued : List ℕ → Parser (ℕ × Numeral)
valued word = do
  x ← numbered word
  exactly Sign (codes ";")
  pure x

unfoldable pub network : Parser SettingPart
network = do
  x ← paired (codes "network")
  exactly Sign (codes ";")
  pure (setting.Network x.0 x.1.0 x.1.1)

abbrev pub setting_by : Option Lexeme → Parser SettingPart
setting_by o =
    if is_exactly Word (codes "seed") o then valued (codes "seed") >>= (λ x. pure (setting.Seed x.0 x.1))
    else (if is_exactly Word (codes "steps") o then valued (codes "steps") >>= (λ x. pure (setting.Steps x.0 x.1))
    else (if is_exactly Word (codes "instants") o then valued (codes "instants") >>= (λ x. pure (setting.Instants x.0 x.1)) else network))

unfoldable pub setting_rule : Parser SettingPart
setting_rule = by_next setting_by

abbrev pub begins_setting : Option Lexeme → Bool
begins_setting o =
    is_exactly Word (codes "seed") o || (is_exactly Word (codes "steps") o || (is_exactly Word (codes "instants") o || is_exactly Word (codes "network") o))

abbrev pub ends_settings : Option Lexeme → Bool
ends_settings o = not (begins_setting o)

unfoldable pub settings : List SettingPart → Parser (List SettingPart)
settings xs = loop (row_turn ends_settings setting_rule onto) xs

-- ---- raises

abbrev pub arg_by : Option Lexeme → Parser ArgPart
arg_by o =
    if is_exactly Word (codes "index") o then exactly Word (codes "index") >> pure arg.Index
    else (if is_exactly Word (codes "draw") o then paired (codes "draw") >>= (λ x. pure (arg.Draw x.1.0 x.1.1)) else (int >>= (λ i. pure (arg.Number i))))

unfoldable pub arg_rule : Parser ArgPart
arg_rule = by_next arg_by

unfoldable pub raise : Parser RaisePart
raise = do
  exactly Word (codes "raise")
  n ← name any
  xs ← in_parens arg_rule
  exactly Word (codes "at")
  q ← name any
  exactly Sign (codes ";")
  pure (record { kind = n; args = xs; port = q })

-- ---- sources

abbrev pub moment_by : Bool → Parser Moment
moment_by true = pure moment.Start
moment_by false = exactly Word (codes "end") >> pure moment.End

unfoldable pub moment_rule : Parser Moment
moment_rule = eat Word (codes "start") >>= moment_by

unfoldable pub after : Parser StartPart
after = do
  exactly Word (codes "after")
  m ← moment_rule
  exactly Word (codes "of")
  n ← name any
  x ← numbered (codes "by")
  pure (start.After m n x.1)

abbrev pub start_by : Option Lexeme → Parser StartPart
start_by o = if is_exactly Word (codes "after") o then after else (numbered (codes "at") >>= (λ x. pure (start.At x.1)))

unfoldable pub start_rule : Parser StartPart
start_rule = by_next start_by

unfoldable pub process : Parser SourcePart
process = do
  exactly Word (codes "process")
  n ← name any
  st ← start_rule
  exactly Sign (codes "{")
  x ← valued (codes "count")
  g ← paired (codes "gap")
  exactly Sign (codes ";")
  r ← raise
  exactly Sign (codes "}")
  pure (source.Process (record { name = n; start = st; count = x.1; low = g.1.0; high = g.1.1; raise = r }))

unfoldable pub line : Parser SourcePart
line = do
  x ← numbered (codes "at")
  r ← raise
  pure (source.At x.0 x.1 r)

abbrev pub source_by : Option Lexeme → Parser SourcePart
source_by o = if is_exactly Word (codes "process") o then process else line

unfoldable pub source_rule : Parser SourcePart
source_rule = by_next source_by

unfoldable pub sources : List SourcePart → Parser (List SourcePart)
sources xs = loop (row_turn is_none source_rule onto) xs

-- ---- files

abbrev pub header : Parser (Unit {0})
header = header_of (codes "scenario") (codes "1")

-- which of the first three tokens is not that of the header, or missing
abbrev pub header_break : List Lexeme → Option ℕ
header_break = header_break_of (codes "scenario") (codes "1")

unfoldable pub body : Parser ScenarioParts
body = do
  xs ← settings []
  ys ← sources []
  pure (record { settings = xs; sources = ys })

unfoldable pub file : Parser ScenarioParts
file = header >> body
