-- What the rules of files read is spelled so, and what they refuse had begun one.
use Rattle.std.proofs.Common.{◌≡◌, ℕ, ◌<◌, Bool, true, false, List, [], ◌∷◌, ◌++◌, length, Option, Some, None, ◌∙◌, arith, append_assoc}
use Rattle.std.specs.Prelude.{codes, is_none}
use Rattle.kom_base.specs.declared.numbers.Dir.{Dir}
use Rattle.kom_base.specs.declared.numbers.Dir.TheVariants.{Plus, Minus}
use Rattle.kom_system.specs.declared.parts.Spot.{Spot}
use Rattle.kom_system.specs.declared.parts.ComponentPart.{ComponentPart}
use Rattle.kom_system.specs.declared.parts.PortTypePart.{PortTypePart}
use Rattle.kom_system.specs.declared.parts.Parts.{Parts}
use Rattle.kom_grammar.specs.declared.items.DeclPart.{DeclPart}
use Rattle.kom_grammar.specs.declared.items.DeclPart.TheVariants as d
use Rattle.kom_text.specs.declared.token.TokenKind.TheVariants.{Word, Number, Sign}
use Rattle.kom_parse.specs.Lexemes.{Lexeme, number_lexeme}
use Rattle.kom_parse.specs.Input.{◌>>◌, pure}
use Rattle.kom_parse.specs.Rules.{is_exactly, exactly, name, in_parens}
use Rattle.kom_parse.specs.Spelled.{SpellsParens, parens, SpellsRow, end as row_ends, next as row_goes_on}
use Rattle.kom_parse.proofs.Laws.{IsReader, bind, pure_reader, by_next_reader, wider, then_give, if_reader}
use Rattle.kom_parse.proofs.Tokens.{exactly_then, eat_token_then}
use Rattle.kom_parse.proofs.ListLaws.{parens_reader}
use Rattle.kom_parse.proofs.RowLaws.{RowFrom, row_reader}
use Rattle.kom_grammar.specs.Words.{w, s, is_name, SpellsName, end_word}
use Rattle.kom_grammar.specs.Files as g
use Rattle.kom_grammar.specs.Files.{SpellsItem, SpellsListed, SpellsChild, SpellsDecl, SpellsFile, component_of, version_digits}
use Rattle.kom_exprs.proofs.NameLaws.{name_reader, name_and}
use Rattle.kom_stmts.specs.Reading.{ends_block}
use Rattle.kom_stmts.proofs.StmtReads.{direction_then}
use Rattle.kom_items.specs.Reading.{child, item}
use Rattle.kom_items.proofs.ItemReads.{child_reader, item_reader, some_tokens as some_of_item}
use Rattle.kom_sysread.specs.Reading.{no_lines, add_line, no_items, add_item, no_decls, add_decl, parent_by, parent, event, line, lines, port_type, items, component, root, decl_by, decl, version_by, version, header, decls, file}
use Rattle.kom_sysread.proofs.Rows.{lines_of, all_lines, all_items, decls_of, all_decls}

-- the value, and the semicolon behind it
semicolon : {A : Type 0} {L : List Lexeme → A → Type 0} (x : A) → ((a : ℕ) → L (s (codes ";") a ∷ []) x) → IsReader (exactly Sign (codes ";") >> pure x) L
semicolon {A} {L} x f = exactly_then Sign (codes ";") _ L (λ a. pure_reader (λ u y. L (s (codes ";") a ∷ u) y) x (f a))

-- ---- event types

pub data SpellsParent : List Lexeme → Option Spot → Type 0 where
  no_parent : SpellsParent [] None
  a_parent : (b : ℕ) {t : List Lexeme} {m : Spot} → SpellsName t m → SpellsParent (s (codes ":") b ∷ t) (Some m)

parent_reader : IsReader parent SpellsParent
unfolding parent
parent_reader = eat_token_then Sign (codes ":") parent_by SpellsParent
    (λ b. then_give SpellsName (λ m. Some m) (λ u x. SpellsParent (s (codes ":") b ∷ u) x) name_reader (λ t m d. a_parent b d))
    (pure_reader SpellsParent None no_parent)

event_text : {two : Bool} (a e : ℕ) {t u v : List Lexeme} {n : Spot} {p : Option Spot} {ns : List Spot} → SpellsName t n → SpellsParent u p → SpellsParens SpellsName v ns
    → SpellsDecl two (w (codes "event") a ∷ (t ++ (u ++ (v ++ s (codes ";") e ∷ [])))) (d.Event (record { name = n; parent = p; attrs = ns }))
event_text a e dn no_parent (parens b c dl) = rw append_assoc (g.event_type a b c e dn dl)
event_text a e dn (a_parent f dm) (parens b c dl) = rw append_assoc (g.event_subtype a f b c e dn dm dl)

event_reader : (two : Bool) → IsReader event (SpellsDecl two)
unfolding event
event_reader two = exactly_then Word (codes "event") _ (SpellsDecl two) (λ a.
    name_and _ (λ u x. SpellsDecl two (w (codes "event") a ∷ u) x) (λ n t dn.
    bind parent _ SpellsParent (λ u x. SpellsDecl two (w (codes "event") a ∷ (t ++ u)) x) parent_reader (λ p u dp.
    bind (in_parens (name is_name)) _ (SpellsParens SpellsName) (λ v x. SpellsDecl two (w (codes "event") a ∷ (t ++ (u ++ v))) x) (parens_reader (name is_name) SpellsName name_reader) (λ ns v dl.
    semicolon _ (λ e. event_text a e dn dp dl)))))

-- ---- port types

line_text : (x : Dir) (a b : ℕ) {t : List Lexeme} {n : Spot} → SpellsName t n → SpellsListed (w (end_word x) a ∷ (t ++ s (codes ";") b ∷ [])) (x, n)
line_text Plus a b dn = g.indication a b dn
line_text Minus a b dn = g.request a b dn

pub line_reader : IsReader line SpellsListed
unfolding line
line_reader = direction_then _ SpellsListed (λ x a. name_and _ (λ u y. SpellsListed (w (end_word x) a ∷ u) y) (λ n t dn. semicolon _ (λ b. line_text x a b dn)))

pub some_of_line : (t : List Lexeme) (x : Dir × Spot) → SpellsListed t x → 0 < length t
some_of_line t x (g.indication a b dn) = omega arith
some_of_line t x (g.request a b dn) = omega arith

-- the tokens of a row, and what its items make of an empty value
pub record Rowed {A S : Type 0} (Spells : List Lexeme → A → Type 0) (whole : List A → S) (t : List Lexeme) (z : S) : Type 0 where
  pub added : List A
  pub is : z ≡ whole added
  pub spells : SpellsRow Spells t added

lines_reader : (n : Spot) → IsReader (lines (no_lines n)) (Rowed SpellsListed (lines_of n))
unfolding lines
lines_reader n = wider (RowFrom add_line (SpellsRow SpellsListed) (no_lines n)) (Rowed SpellsListed (lines_of n))
    (row_reader ends_block line add_line SpellsListed (SpellsRow SpellsListed) row_ends (λ t ts x xs dx ds. row_goes_on dx ds) some_of_line line_reader (no_lines n))
    (λ t z r. record { added = r.added; is = r.is ∙ all_lines n r.added; spells = r.spells })

port_text : {two : Bool} (a b c : ℕ) {t u : List Lexeme} {n : Spot} {z : PortTypePart} → SpellsName t n → Rowed SpellsListed (lines_of n) u z
    → SpellsDecl two (w (codes "port") a ∷ (t ++ s (codes "{") b ∷ (u ++ s (codes "}") c ∷ []))) (d.Port z)
port_text a b c dn r = rw r.is (g.port_type a b c dn r.spells)

port_reader : (two : Bool) → IsReader port_type (SpellsDecl two)
unfolding port_type
port_reader two = exactly_then Word (codes "port") _ (SpellsDecl two) (λ a.
    name_and _ (λ u x. SpellsDecl two (w (codes "port") a ∷ u) x) (λ n t dn.
    exactly_then Sign (codes "{") _ (λ u x. SpellsDecl two (w (codes "port") a ∷ (t ++ u)) x) (λ b.
    bind (lines (no_lines n)) _ (Rowed SpellsListed (lines_of n)) (λ u x. SpellsDecl two (w (codes "port") a ∷ (t ++ s (codes "{") b ∷ u)) x) (lines_reader n) (λ z u r.
    exactly_then Sign (codes "}") _ (λ v x. SpellsDecl two (w (codes "port") a ∷ (t ++ s (codes "{") b ∷ (u ++ v))) x) (λ c.
    pure_reader (λ v x. SpellsDecl two (w (codes "port") a ∷ (t ++ s (codes "{") b ∷ (u ++ s (codes "}") c ∷ v))) x) (d.Port z) (port_text a b c dn r))))))

-- ---- component types

items_reader : (two : Bool) (n : Spot) → IsReader (items two (no_items n)) (Rowed (SpellsItem two) (component_of n))
unfolding items
items_reader two n = wider (RowFrom add_item (SpellsRow (SpellsItem two)) (no_items n)) (Rowed (SpellsItem two) (component_of n))
    (row_reader ends_block (item two) add_item (SpellsItem two) (SpellsRow (SpellsItem two)) row_ends (λ t ts x xs dx ds. row_goes_on dx ds) (some_of_item two) (item_reader two) (no_items n))
    (λ t z r. record { added = r.added; is = r.is ∙ all_items n r.added; spells = r.spells })

component_text : {two : Bool} (a b c : ℕ) {t u : List Lexeme} {n : Spot} {z : ComponentPart} → SpellsName t n → Rowed (SpellsItem two) (component_of n) u z
    → SpellsDecl two (w (codes "component") a ∷ (t ++ s (codes "{") b ∷ (u ++ s (codes "}") c ∷ []))) (d.Component z)
component_text a b c dn r = rw r.is (g.component a b c dn r.spells)

component_reader : (two : Bool) → IsReader (component two) (SpellsDecl two)
unfolding component
component_reader two = exactly_then Word (codes "component") _ (SpellsDecl two) (λ a.
    name_and _ (λ u x. SpellsDecl two (w (codes "component") a ∷ u) x) (λ n t dn.
    exactly_then Sign (codes "{") _ (λ u x. SpellsDecl two (w (codes "component") a ∷ (t ++ u)) x) (λ b.
    bind (items two (no_items n)) _ (Rowed (SpellsItem two) (component_of n)) (λ u x. SpellsDecl two (w (codes "component") a ∷ (t ++ s (codes "{") b ∷ u)) x) (items_reader two n) (λ z u r.
    exactly_then Sign (codes "}") _ (λ v x. SpellsDecl two (w (codes "component") a ∷ (t ++ s (codes "{") b ∷ (u ++ v))) x) (λ c.
    pure_reader (λ v x. SpellsDecl two (w (codes "component") a ∷ (t ++ s (codes "{") b ∷ (u ++ s (codes "}") c ∷ v))) x) (d.Component z) (component_text a b c dn r))))))

-- ---- all declarations

root_reader : (two : Bool) → IsReader root (SpellsDecl two)
unfolding root
root_reader two = exactly_then Word (codes "root") _ (SpellsDecl two) (λ a.
    bind child _ SpellsChild (λ u x. SpellsDecl two (w (codes "root") a ∷ u) x) child_reader (λ x t dx. semicolon _ (λ b. g.root a b dx)))

pub decl_reader : (two : Bool) → IsReader (decl two) (SpellsDecl two)
unfolding decl
decl_reader two = by_next_reader (decl_by two) (SpellsDecl two) (λ o.
    if_reader (SpellsDecl two) (is_exactly Word (codes "event") o) (event_reader two)
    (if_reader (SpellsDecl two) (is_exactly Word (codes "port") o) (port_reader two)
    (if_reader (SpellsDecl two) (is_exactly Word (codes "component") o) (component_reader two) (root_reader two))))

pub some_of_decl : (two : Bool) (t : List Lexeme) (x : DeclPart) → SpellsDecl two t x → 0 < length t
some_of_decl two t x (g.root a b dx) = omega arith
some_of_decl two t x _ = omega arith

-- ---- files

pub data SpellsVersion : List Lexeme → Bool → Type 0 where
  digits : (b : ℕ) (two : Bool) → SpellsVersion (number_lexeme (version_digits two) b ∷ []) two

version_reader : IsReader version SpellsVersion
unfolding version
version_reader = eat_token_then Number (codes "1") version_by SpellsVersion
    (λ b. pure_reader (λ u x. SpellsVersion (number_lexeme (codes "1") b ∷ u) x) false (digits b false))
    (exactly_then Number (codes "2") _ SpellsVersion (λ b. pure_reader (λ u x. SpellsVersion (number_lexeme (codes "2") b ∷ u) x) true (digits b true)))

pub data SpellsHeader : List Lexeme → Bool → Type 0 where
  head : (a b c : ℕ) (two : Bool) → SpellsHeader (w (codes "system") a ∷ number_lexeme (version_digits two) b ∷ s (codes ";") c ∷ []) two

head_text : (a c : ℕ) {t : List Lexeme} {two : Bool} → SpellsVersion t two → SpellsHeader (w (codes "system") a ∷ (t ++ s (codes ";") c ∷ [])) two
head_text a c (digits b two) = head a b c two

pub header_reader : IsReader header SpellsHeader
unfolding header
header_reader = exactly_then Word (codes "system") _ SpellsHeader (λ a.
    bind version _ SpellsVersion (λ u x. SpellsHeader (w (codes "system") a ∷ u) x) version_reader (λ two t dv. semicolon two (λ c. head_text a c dv)))

decls_reader : (two : Bool) (end : ℕ) → IsReader (decls two (no_decls two end)) (Rowed (SpellsDecl two) (decls_of two end))
unfolding decls
decls_reader two end = wider (RowFrom add_decl (SpellsRow (SpellsDecl two)) (no_decls two end)) (Rowed (SpellsDecl two) (decls_of two end))
    (row_reader is_none (decl two) add_decl (SpellsDecl two) (SpellsRow (SpellsDecl two)) row_ends (λ t ts x xs dx ds. row_goes_on dx ds) (some_of_decl two) (decl_reader two) (no_decls two end))
    (λ t z r. record { added = r.added; is = r.is ∙ all_decls two end r.added; spells = r.spells })

file_text : (end : ℕ) {t u : List Lexeme} {two : Bool} {z : Parts} → SpellsHeader t two → Rowed (SpellsDecl two) (decls_of two end) u z → SpellsFile end (t ++ u) z
file_text end (head a b c two) r = rw r.is (g.file a b c two r.spells)

pub file_reader : (end : ℕ) → IsReader (file end) (SpellsFile end)
unfolding file
file_reader end = bind header _ SpellsHeader (SpellsFile end) header_reader (λ two t dh.
    wider (Rowed (SpellsDecl two) (decls_of two end)) (λ u z. SpellsFile end (t ++ u) z) (decls_reader two end) (λ u z r. file_text end dh r))
