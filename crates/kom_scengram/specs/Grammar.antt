-- Which tokens spell which scenario file. No word is reserved.
use Rattle.std.specs.Prelude.{ℤ, pos, ℕ, List, [], ◌∷◌, ◌++◌, codes}
use Rattle.kom_text.specs.Numbers.{decimal}
use Rattle.kom_parse.specs.declared.numeral.Numeral.{Numeral}
use Rattle.kom_parse.specs.Lexemes.{Lexeme, word_lexeme, sign_lexeme, number_lexeme}
use Rattle.kom_parse.specs.Spelled.{SpellsParens, SpellsRow}
use Rattle.kom_system.specs.declared.parts.Spot.{Spot}
use Rattle.kom_grammar.specs.Expressions.{SpellsInt}
use Rattle.kom_scengram.specs.declared.parts.SettingPart.{SettingPart}
use Rattle.kom_scengram.specs.declared.parts.SettingPart.TheVariants as setting
use Rattle.kom_scengram.specs.declared.parts.ArgPart.{ArgPart}
use Rattle.kom_scengram.specs.declared.parts.ArgPart.TheVariants as arg
use Rattle.kom_scengram.specs.declared.parts.RaisePart.{RaisePart}
use Rattle.kom_scengram.specs.declared.parts.Moment.{Moment}
use Rattle.kom_scengram.specs.declared.parts.Moment.TheVariants as moment
use Rattle.kom_scengram.specs.declared.parts.StartPart.{StartPart}
use Rattle.kom_scengram.specs.declared.parts.StartPart.TheVariants as start
use Rattle.kom_scengram.specs.declared.parts.SourcePart.{SourcePart}
use Rattle.kom_scengram.specs.declared.parts.SourcePart.TheVariants as source
use Rattle.kom_scengram.specs.declared.parts.ScenarioParts.{ScenarioParts}

-- ---- tokens

-- a keyword, a name, a number and a sign at their places
abbrev pub w : List ℕ → ℕ → Lexeme
w bytes at = word_lexeme bytes at

abbrev pub word_of : Spot → Lexeme
word_of n = word_lexeme n.name n.at

abbrev pub d : List ℕ → ℕ → Lexeme
d digits at = number_lexeme digits at

abbrev pub s : List ℕ → ℕ → Lexeme
s bytes at = sign_lexeme bytes at

-- the value of digits at their place
abbrev pub value : List ℕ → ℕ → Numeral
value digits at = record { value = pos (decimal digits); at = at }

-- ---- settings

pub data SpellsSetting : List Lexeme → SettingPart → Type 0 where
  seed : (a b c : ℕ) {n : List ℕ} → SpellsSetting (w (codes "seed") a ∷ d n b ∷ s (codes ";") c ∷ []) (setting.Seed a (value n b))
  steps : (a b c : ℕ) {n : List ℕ} → SpellsSetting (w (codes "steps") a ∷ d n b ∷ s (codes ";") c ∷ []) (setting.Steps a (value n b))
  instants : (a b c : ℕ) {n : List ℕ} → SpellsSetting (w (codes "instants") a ∷ d n b ∷ s (codes ";") c ∷ []) (setting.Instants a (value n b))
  network : (a b c e : ℕ) {n m : List ℕ} → SpellsSetting (w (codes "network") a ∷ d n b ∷ d m c ∷ s (codes ";") e ∷ []) (setting.Network a (value n b) (value m c))

-- ---- raises

pub data SpellsArg : List Lexeme → ArgPart → Type 0 where
  number : {t : List Lexeme} {i : ℤ} → SpellsInt t i → SpellsArg t (arg.Number i)
  index : (a : ℕ) → SpellsArg (w (codes "index") a ∷ []) arg.Index
  draw : (a b c : ℕ) {n m : List ℕ} → SpellsArg (w (codes "draw") a ∷ d n b ∷ d m c ∷ []) (arg.Draw (value n b) (value m c))

pub data SpellsRaise : List Lexeme → RaisePart → Type 0 where
  raise : (a b c : ℕ) {t : List Lexeme} (kind port : Spot) {xs : List ArgPart} → SpellsParens SpellsArg t xs
      → SpellsRaise (w (codes "raise") a ∷ word_of kind ∷ (t ++ w (codes "at") b ∷ word_of port ∷ s (codes ";") c ∷ [])) (record { kind = kind; args = xs; port = port })

-- ---- sources

abbrev pub moment_word : Moment → List ℕ
moment_word moment.Start = codes "start"
moment_word moment.End = codes "end"

pub data SpellsStart : List Lexeme → StartPart → Type 0 where
  at : (a b : ℕ) {n : List ℕ} → SpellsStart (w (codes "at") a ∷ d n b ∷ []) (start.At (value n b))
  after : (a b c e f : ℕ) {n : List ℕ} (m : Moment) (process : Spot)
      → SpellsStart (w (codes "after") a ∷ w (moment_word m) b ∷ w (codes "of") c ∷ word_of process ∷ w (codes "by") e ∷ d n f ∷ []) (start.After m process (value n f))

pub data SpellsSource : List Lexeme → SourcePart → Type 0 where
  line : (a b : ℕ) {n : List ℕ} {t : List Lexeme} {x : RaisePart} → SpellsRaise t x → SpellsSource (w (codes "at") a ∷ d n b ∷ t) (source.At a (value n b) x)
  process : (a b c e f g h i j k : ℕ) (name : Spot) (n l m : List ℕ) {t u : List Lexeme} {st : StartPart} {x : RaisePart} → SpellsStart t st → SpellsRaise u x
      → SpellsSource
      (w (codes "process") a ∷ word_of name ∷ (t ++ s (codes "{") b ∷ w (codes "count") c ∷ d n e ∷ s (codes ";") f
      ∷ w (codes "gap") g ∷ d l h ∷ d m i ∷ s (codes ";") j ∷ (u ++ s (codes "}") k ∷ [])))
      (source.Process (record { name = name; start = st; count = value n e; low = value l h; high = value m i; raise = x }))

-- ---- files

pub data SpellsFile : List Lexeme → ScenarioParts → Type 0 where
  file : (a b c : ℕ) {t u : List Lexeme} {xs : List SettingPart} {ys : List SourcePart} → SpellsRow SpellsSetting t xs → SpellsRow SpellsSource u ys
      → SpellsFile (w (codes "scenario") a ∷ d (codes "1") b ∷ s (codes ";") c ∷ (t ++ u)) (record { settings = xs; sources = ys })
