-- What the rules of scenarios read is spelled so, and what they refuse had begun one.
use Rattle.std.proofs.Common.{ℕ, ◌<◌, List, [], ◌∷◌, ◌++◌, length, refl, ◌∙◌, sym, subst, arith}
use Rattle.std.specs.Prelude.{codes, is_none}
use Rattle.kom_text.specs.declared.token.TokenKind.TheVariants.{Word, Sign}
use Rattle.kom_parse.specs.declared.numeral.Numeral.{Numeral}
use Rattle.kom_parse.specs.Lexemes.{Lexeme}
use Rattle.kom_parse.specs.Input.{Parser, ◌>>=◌, ◌>>◌, pure}
use Rattle.kom_parse.specs.Rules.{any, is_exactly, exactly, name, in_parens, onto}
use Rattle.kom_parse.specs.Spelled.{SpellsParens, SpellsRow, end as row_ends, next as row_goes_on}
use Rattle.kom_parse.proofs.Laws.{IsReader, bind, pure_reader, by_next_reader, wider, then_give, if_reader}
use Rattle.kom_parse.proofs.Tokens.{exactly_then, eat_token_then, number_then, name_then}
use Rattle.kom_parse.proofs.ListLaws.{parens_reader}
use Rattle.kom_parse.proofs.RowLaws.{RowFrom, row_reader, onto_all}
use Rattle.kom_system.specs.declared.parts.Spot.{Spot}
use Rattle.kom_grammar.specs.Expressions.{SpellsInt}
use Rattle.kom_exprs.proofs.ExprReads.{int_reader}
use Rattle.kom_files.proofs.Headers.{SpellsHeader, headed_by, header_reader}
use Rattle.kom_scengram.specs.declared.parts.SettingPart.{SettingPart}
use Rattle.kom_scengram.specs.declared.parts.SettingPart.TheVariants as setting
use Rattle.kom_scengram.specs.declared.parts.ArgPart.TheVariants as arg
use Rattle.kom_scengram.specs.declared.parts.RaisePart.{RaisePart}
use Rattle.kom_scengram.specs.declared.parts.Moment.{Moment}
use Rattle.kom_scengram.specs.declared.parts.Moment.TheVariants as moment
use Rattle.kom_scengram.specs.declared.parts.StartPart.{StartPart}
use Rattle.kom_scengram.specs.declared.parts.StartPart.TheVariants as start
use Rattle.kom_scengram.specs.declared.parts.SourcePart.{SourcePart}
use Rattle.kom_scengram.specs.declared.parts.SourcePart.TheVariants as source
use Rattle.kom_scengram.specs.Grammar as g
use Rattle.kom_scengram.specs.Grammar.{w, word_of, d, s, value, SpellsSetting, SpellsArg, SpellsRaise, moment_word, SpellsStart, SpellsSource, SpellsFile}
use Rattle.kom_scengram.specs.Reading.{numbered, paired, valued, network, setting_by, setting_rule, ends_settings, settings, arg_by, arg_rule, raise, moment_by, moment_rule, after, start_by, start_rule, process, line, source_by, source_rule, sources, header, body, file}

-- ---- numbers behind a word

pub data SpellsNumbered (word : List ℕ) : List Lexeme → ℕ × Numeral → Type 0 where
  numbered_by : (a b : ℕ) {n : List ℕ} → SpellsNumbered word (w word a ∷ d n b ∷ []) (a, value n b)

pub numbered_reader : (word : List ℕ) → IsReader (numbered word) (SpellsNumbered word)
unfolding numbered
numbered_reader word = exactly_then Word word _ (SpellsNumbered word) (λ a.
    number_then _ (λ u x. SpellsNumbered word (w word a ∷ u) x) (λ n b.
    pure_reader (λ u x. SpellsNumbered word (w word a ∷ d n b ∷ u) x) (a, value n b) (numbered_by a b)))

pub data SpellsPaired (word : List ℕ) : List Lexeme → ℕ × (Numeral × Numeral) → Type 0 where
  paired_by : (a b c : ℕ) {n m : List ℕ} → SpellsPaired word (w word a ∷ d n b ∷ d m c ∷ []) (a, (value n b, value m c))

pub paired_reader : (word : List ℕ) → IsReader (paired word) (SpellsPaired word)
unfolding paired
paired_reader word = exactly_then Word word _ (SpellsPaired word) (λ a.
    number_then _ (λ u x. SpellsPaired word (w word a ∷ u) x) (λ n b.
    number_then _ (λ u x. SpellsPaired word (w word a ∷ d n b ∷ u) x) (λ m c.
    pure_reader (λ u x. SpellsPaired word (w word a ∷ d n b ∷ d m c ∷ u) x) (a, (value n b, value m c)) (paired_by a b c))))

pub data SpellsValued (word : List ℕ) : List Lexeme → ℕ × Numeral → Type 0 where
  valued_by : (a b c : ℕ) {n : List ℕ} → SpellsValued word (w word a ∷ d n b ∷ s (codes ";") c ∷ []) (a, value n b)

valued_text : (word : List ℕ) (c : ℕ) {t : List Lexeme} {x : ℕ × Numeral} → SpellsNumbered word t x → SpellsValued word (t ++ s (codes ";") c ∷ []) x
valued_text word c (numbered_by a b) = valued_by a b c

-- the value, and the semicolon behind it
semicolon : {A : Type 0} {L : List Lexeme → A → Type 0} (x : A) → ((a : ℕ) → L (s (codes ";") a ∷ []) x) → IsReader (exactly Sign (codes ";") >> pure x) L
semicolon {A} {L} x f = exactly_then Sign (codes ";") _ L (λ a. pure_reader (λ u y. L (s (codes ";") a ∷ u) y) x (f a))

pub valued_reader : (word : List ℕ) → IsReader (valued word) (SpellsValued word)
unfolding valued
valued_reader word = bind (numbered word) _ (SpellsNumbered word) (SpellsValued word) (numbered_reader word) (λ x t dx. semicolon x (λ c. valued_text word c dx))

-- ---- settings

seed_text : (t : List Lexeme) (x : ℕ × Numeral) → SpellsValued (codes "seed") t x → SpellsSetting t (setting.Seed x.0 x.1)
seed_text t x (valued_by a b c) = g.seed a b c

steps_text : (t : List Lexeme) (x : ℕ × Numeral) → SpellsValued (codes "steps") t x → SpellsSetting t (setting.Steps x.0 x.1)
steps_text t x (valued_by a b c) = g.steps a b c

instants_text : (t : List Lexeme) (x : ℕ × Numeral) → SpellsValued (codes "instants") t x → SpellsSetting t (setting.Instants x.0 x.1)
instants_text t x (valued_by a b c) = g.instants a b c

network_text : (e : ℕ) (t : List Lexeme) (x : ℕ × (Numeral × Numeral)) → SpellsPaired (codes "network") t x → SpellsSetting (t ++ s (codes ";") e ∷ []) (setting.Network x.0 x.1.0 x.1.1)
network_text e t x (paired_by a b c) = g.network a b c e

network_reader : IsReader network SpellsSetting
unfolding network
network_reader = bind (paired (codes "network")) _ (SpellsPaired (codes "network")) SpellsSetting (paired_reader (codes "network")) (λ x t dx. semicolon _ (λ e. network_text e t x dx))

pub setting_reader : IsReader setting_rule SpellsSetting
unfolding setting_rule
setting_reader = by_next_reader setting_by SpellsSetting (λ o.
    if_reader SpellsSetting (is_exactly Word (codes "seed") o) (then_give (SpellsValued (codes "seed")) (λ x. setting.Seed x.0 x.1) SpellsSetting (valued_reader (codes "seed")) seed_text) (
    if_reader SpellsSetting (is_exactly Word (codes "steps") o) (then_give (SpellsValued (codes "steps")) (λ x. setting.Steps x.0 x.1) SpellsSetting (valued_reader (codes "steps")) steps_text) (
    if_reader SpellsSetting (is_exactly Word (codes "instants") o) (then_give (SpellsValued (codes "instants")) (λ x. setting.Instants x.0 x.1) SpellsSetting (valued_reader (codes "instants")) instants_text) network_reader)))

pub some_of_setting : (t : List Lexeme) (x : SettingPart) → SpellsSetting t x → 0 < length t
some_of_setting t x (g.seed a b c) = omega arith
some_of_setting t x (g.steps a b c) = omega arith
some_of_setting t x (g.instants a b c) = omega arith
some_of_setting t x (g.network a b c e) = omega arith

-- a row, and the list of its items
pub rowed : {A : Type 0} (Spells : List Lexeme → A → Type 0) (t : List Lexeme) (z : List A) → RowFrom onto (SpellsRow Spells) [] t z → SpellsRow Spells t z
rowed Spells t z r = subst (λ xs. SpellsRow Spells t xs) (sym (r.is ∙ onto_all [] r.added)) r.spells

settings_reader : IsReader (settings []) (SpellsRow SpellsSetting)
unfolding settings
settings_reader = wider (RowFrom onto (SpellsRow SpellsSetting) []) (SpellsRow SpellsSetting)
    (row_reader ends_settings setting_rule onto SpellsSetting (SpellsRow SpellsSetting) row_ends (λ t ts x xs dx ds. row_goes_on dx ds) some_of_setting setting_reader []) (rowed SpellsSetting)

-- ---- raises

draw_text : (t : List Lexeme) (x : ℕ × (Numeral × Numeral)) → SpellsPaired (codes "draw") t x → SpellsArg t (arg.Draw x.1.0 x.1.1)
draw_text t x (paired_by a b c) = g.draw a b c

pub arg_reader : IsReader arg_rule SpellsArg
unfolding arg_rule
arg_reader = by_next_reader arg_by SpellsArg (λ o.
    if_reader SpellsArg (is_exactly Word (codes "index") o) (exactly_then Word (codes "index") _ SpellsArg (λ a. pure_reader (λ u x. SpellsArg (w (codes "index") a ∷ u) x) arg.Index (g.index a))) (
    if_reader SpellsArg (is_exactly Word (codes "draw") o) (then_give (SpellsPaired (codes "draw")) (λ x. arg.Draw x.1.0 x.1.1) SpellsArg (paired_reader (codes "draw")) draw_text)
    (then_give SpellsInt (λ i. arg.Number i) SpellsArg int_reader (λ t i di. g.number di))))

-- any word, and then what follows it
word_then : {B : Type 0} (q : Spot → Parser B) (L : List Lexeme → B → Type 0) → ((n : Spot) → IsReader (q n) (λ u b. L (word_of n ∷ u) b)) → IsReader (name any >>= q) L
word_then q L r = name_then any (120 ∷ []) refl q L (λ n passes. r n)

pub raise_reader : IsReader raise SpellsRaise
unfolding raise
raise_reader = exactly_then Word (codes "raise") _ SpellsRaise (λ a.
    word_then _ (λ u x. SpellsRaise (w (codes "raise") a ∷ u) x) (λ n.
    bind (in_parens arg_rule) _ (SpellsParens SpellsArg) (λ u x. SpellsRaise (w (codes "raise") a ∷ word_of n ∷ u) x) (parens_reader arg_rule SpellsArg arg_reader) (λ xs t dx.
    exactly_then Word (codes "at") _ (λ u x. SpellsRaise (w (codes "raise") a ∷ word_of n ∷ (t ++ u)) x) (λ b.
    word_then _ (λ u x. SpellsRaise (w (codes "raise") a ∷ word_of n ∷ (t ++ w (codes "at") b ∷ u)) x) (λ q.
    semicolon {L = λ u x. SpellsRaise (w (codes "raise") a ∷ word_of n ∷ (t ++ w (codes "at") b ∷ word_of q ∷ u)) x} _ (λ c. g.raise a b c n q dx))))))

-- ---- sources

pub data SpellsMoment : List Lexeme → Moment → Type 0 where
  moment_by_word : (m : Moment) (a : ℕ) → SpellsMoment (w (moment_word m) a ∷ []) m

moment_reader : IsReader moment_rule SpellsMoment
unfolding moment_rule
moment_reader = eat_token_then Word (codes "start") moment_by SpellsMoment
    (λ a. pure_reader (λ u x. SpellsMoment (w (codes "start") a ∷ u) x) moment.Start (moment_by_word moment.Start a))
    (exactly_then Word (codes "end") _ SpellsMoment (λ a. pure_reader (λ u x. SpellsMoment (w (codes "end") a ∷ u) x) moment.End (moment_by_word moment.End a)))

after_text : (a c : ℕ) (n : Spot) {t u : List Lexeme} {m : Moment} {x : ℕ × Numeral} → SpellsMoment t m → SpellsNumbered (codes "by") u x
    → SpellsStart (w (codes "after") a ∷ (t ++ w (codes "of") c ∷ word_of n ∷ u)) (start.After m n x.1)
after_text a c n (moment_by_word m b) (numbered_by e f) = g.after a b c e f m n

after_reader : IsReader after SpellsStart
unfolding after
after_reader = exactly_then Word (codes "after") _ SpellsStart (λ a.
    bind moment_rule _ SpellsMoment (λ u x. SpellsStart (w (codes "after") a ∷ u) x) moment_reader (λ m t dm.
    exactly_then Word (codes "of") _ (λ u x. SpellsStart (w (codes "after") a ∷ (t ++ u)) x) (λ c.
    word_then _ (λ u x. SpellsStart (w (codes "after") a ∷ (t ++ w (codes "of") c ∷ u)) x) (λ n.
    then_give (SpellsNumbered (codes "by")) (λ x. start.After m n x.1) (λ u y. SpellsStart (w (codes "after") a ∷ (t ++ w (codes "of") c ∷ word_of n ∷ u)) y) (numbered_reader (codes "by")) (λ u x dx. after_text a c n dm dx)))))

start_text : (t : List Lexeme) (x : ℕ × Numeral) → SpellsNumbered (codes "at") t x → SpellsStart t (start.At x.1)
start_text t x (numbered_by a b) = g.at a b

start_reader : IsReader start_rule SpellsStart
unfolding start_rule
start_reader = by_next_reader start_by SpellsStart (λ o.
    if_reader SpellsStart (is_exactly Word (codes "after") o) after_reader (then_give (SpellsNumbered (codes "at")) (λ x. start.At x.1) SpellsStart (numbered_reader (codes "at")) start_text))

process_text : (a b j k : ℕ) (n : Spot) {t u v x : List Lexeme} {st : StartPart} {count : ℕ × Numeral} {gap : ℕ × (Numeral × Numeral)} {r : RaisePart}
    → SpellsStart t st → SpellsValued (codes "count") u count → SpellsPaired (codes "gap") v gap → SpellsRaise x r
    → SpellsSource (w (codes "process") a ∷ word_of n ∷ (t ++ s (codes "{") b ∷ (u ++ (v ++ s (codes ";") j ∷ (x ++ s (codes "}") k ∷ [])))))
    (source.Process (record { name = n; start = st; count = count.1; low = gap.1.0; high = gap.1.1; raise = r }))
process_text a b j k n dt (valued_by c e f {n = v}) (paired_by g' h i {n = l} {m = m}) dr = g.process a b c e f g' h i j k n v l m dt dr

process_reader : IsReader process SpellsSource
unfolding process
process_reader = exactly_then Word (codes "process") _ SpellsSource (λ a.
    word_then _ (λ u y. SpellsSource (w (codes "process") a ∷ u) y) (λ n.
    bind start_rule _ SpellsStart (λ u y. SpellsSource (w (codes "process") a ∷ word_of n ∷ u) y) start_reader (λ st t dt.
    exactly_then Sign (codes "{") _ (λ u y. SpellsSource (w (codes "process") a ∷ word_of n ∷ (t ++ u)) y) (λ b.
    bind (valued (codes "count")) _ (SpellsValued (codes "count")) (λ u y. SpellsSource (w (codes "process") a ∷ word_of n ∷ (t ++ s (codes "{") b ∷ u)) y) (valued_reader (codes "count")) (λ x u dc.
    bind (paired (codes "gap")) _ (SpellsPaired (codes "gap")) (λ v y. SpellsSource (w (codes "process") a ∷ word_of n ∷ (t ++ s (codes "{") b ∷ (u ++ v))) y) (paired_reader (codes "gap")) (λ z v dg.
    exactly_then Sign (codes ";") _ (λ x' y. SpellsSource (w (codes "process") a ∷ word_of n ∷ (t ++ s (codes "{") b ∷ (u ++ (v ++ x')))) y) (λ j.
    bind raise _ SpellsRaise (λ x' y. SpellsSource (w (codes "process") a ∷ word_of n ∷ (t ++ s (codes "{") b ∷ (u ++ (v ++ s (codes ";") j ∷ x')))) y) raise_reader (λ r x' dr.
    exactly_then Sign (codes "}") _ (λ y' y. SpellsSource (w (codes "process") a ∷ word_of n ∷ (t ++ s (codes "{") b ∷ (u ++ (v ++ s (codes ";") j ∷ (x' ++ y'))))) y) (λ k.
    pure_reader (λ y' y. SpellsSource (w (codes "process") a ∷ word_of n ∷ (t ++ s (codes "{") b ∷ (u ++ (v ++ s (codes ";") j ∷ (x' ++ s (codes "}") k ∷ y'))))) y) _ (process_text a b j k n dt dc dg dr))))))))))

line_text : {t u : List Lexeme} {x : ℕ × Numeral} {r : RaisePart} → SpellsNumbered (codes "at") t x → SpellsRaise u r → SpellsSource (t ++ u) (source.At x.0 x.1 r)
line_text (numbered_by a b) dr = g.line a b dr

line_reader : IsReader line SpellsSource
unfolding line
line_reader = bind (numbered (codes "at")) _ (SpellsNumbered (codes "at")) SpellsSource (numbered_reader (codes "at")) (λ x t dx.
    then_give SpellsRaise (λ r. source.At x.0 x.1 r) (λ u y. SpellsSource (t ++ u) y) raise_reader (λ u r dr. line_text dx dr))

pub source_reader : IsReader source_rule SpellsSource
unfolding source_rule
source_reader = by_next_reader source_by SpellsSource (λ o. if_reader SpellsSource (is_exactly Word (codes "process") o) process_reader line_reader)

pub some_of_source : (t : List Lexeme) (x : SourcePart) → SpellsSource t x → 0 < length t
some_of_source t x (g.line a b dr) = omega arith
some_of_source t x (g.process a b c e f g' h i j k n v l m dt dr) = omega arith

sources_reader : IsReader (sources []) (SpellsRow SpellsSource)
unfolding sources
sources_reader = wider (RowFrom onto (SpellsRow SpellsSource) []) (SpellsRow SpellsSource)
    (row_reader is_none source_rule onto SpellsSource (SpellsRow SpellsSource) row_ends (λ t ts x xs dx ds. row_goes_on dx ds) some_of_source source_reader []) (rowed SpellsSource)

-- ---- files

file_text : {t u v : List Lexeme} {x : Unit {0}} {xs : List SettingPart} {ys : List SourcePart} → SpellsHeader (codes "scenario") (codes "1") t x → SpellsRow SpellsSetting u xs → SpellsRow SpellsSource v ys
    → SpellsFile (t ++ (u ++ v)) (record { settings = xs; sources = ys })
file_text (headed_by a b c) du dv = g.file a b c du dv

pub file_reader : IsReader file SpellsFile
unfolding file body
file_reader = bind header _ (SpellsHeader (codes "scenario") (codes "1")) SpellsFile (header_reader (codes "scenario") (codes "1")) (λ x t dh.
    bind (settings []) _ (SpellsRow SpellsSetting) (λ u y. SpellsFile (t ++ u) y) settings_reader (λ xs u du.
    then_give (SpellsRow SpellsSource) (λ ys. record { settings = xs; sources = ys }) (λ v y. SpellsFile (t ++ (u ++ v)) y) sources_reader (λ v ys dv. file_text dh du dv)))
