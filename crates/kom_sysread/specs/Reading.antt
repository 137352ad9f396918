-- How files are read from left to right, a function for each method.
use Rattle.std.specs.Prelude.{ℕ, Bool, true, false, [], Option, Some, None, is_none, codes, if◌then◌else◌}
use Rattle.kom_base.specs.declared.numbers.Dir.{Dir}
use Rattle.kom_base.specs.declared.numbers.Dir.TheVariants.{Plus, Minus}
use Rattle.kom_system.specs.declared.parts.Spot.{Spot}
use Rattle.kom_system.specs.declared.parts.ComponentPart.{ComponentPart}
use Rattle.kom_system.specs.declared.parts.PortTypePart.{PortTypePart}
use Rattle.kom_system.specs.declared.parts.Parts.{Parts}
use Rattle.kom_grammar.specs.declared.items.DeclPart.{DeclPart}
use Rattle.kom_grammar.specs.declared.items.DeclPart.TheVariants as d
use Rattle.kom_grammar.specs.declared.items.ItemPart.{ItemPart}
use Rattle.kom_grammar.specs.declared.items.ItemPart.TheVariants as i
use Rattle.kom_text.specs.declared.token.TokenKind.TheVariants.{Word, Number, Sign}
use Rattle.kom_parse.specs.Lexemes.{Lexeme}
use Rattle.kom_parse.specs.Input.{Parser, ◌>>=◌, ◌>>◌, pure, by_next, loop}
use Rattle.kom_parse.specs.Rules.{is_exactly, exactly, eat, name, in_parens, onto, row_turn}
use Rattle.kom_grammar.specs.Words.{is_name}
use Rattle.kom_grammar.specs.Files.{version_number}
use Rattle.kom_stmts.specs.Reading.{direction, ends_block}
use Rattle.kom_items.specs.Reading.{child, item}

-- ---- what grows while it is read

abbrev pub no_lines : Spot → PortTypePart
no_lines n = record { name = n; plus = []; minus = [] }

abbrev pub add_line : PortTypePart → Dir × Spot → PortTypePart
add_line p (Plus, n) = record { name = p.name; plus = onto p.plus n; minus = p.minus }
add_line p (Minus, n) = record { name = p.name; plus = p.plus; minus = onto p.minus n }

abbrev pub no_items : Spot → ComponentPart
no_items n = record { name = n; ports = []; vars = []; slots = []; channels = []; handlers = [] }

abbrev pub add_item : ComponentPart → ItemPart → ComponentPart
add_item c (i.Port x) = record c { ports = onto c.ports x }
add_item c (i.Var x) = record c { vars = onto c.vars x }
add_item c (i.Slot x) = record c { slots = onto c.slots x }
add_item c (i.Channel x) = record c { channels = onto c.channels x }
add_item c (i.Handler x) = record c { handlers = onto c.handlers x }

abbrev pub no_decls : Bool → ℕ → Parts
no_decls two end = record { version = version_number two; events = []; ports = []; components = []; roots = []; end = end }

abbrev pub add_decl : Parts → DeclPart → Parts
add_decl p (d.Event x) = record p { events = onto p.events x }
add_decl p (d.Port x) = record p { ports = onto p.ports x }
add_decl p (d.Component x) = record p { components = onto p.components x }
add_decl p (d.Root x) = record p { roots = onto p.roots x }

-- ---- declarations

abbrev pub parent_by : Bool → Parser (Option Spot)
parent_by true = name is_name >>= (λ m. pure (Some m))
parent_by false = pure None

unfoldable pub parent : Parser (Option Spot)
parent = eat Sign (codes ":") >>= parent_by

unfoldable pub event : Parser DeclPart
event = do
  exactly Word (codes "event")
  n ← name is_name
  p ← parent
  ns ← in_parens (name is_name)
  exactly Sign (codes ";")
  pure (d.Event (record { name = n; parent = p; attrs = ns }))

unfoldable pub line : Parser (Dir × Spot)
line = do
  x ← direction
  n ← name is_name
  exactly Sign (codes ";")
  pure (x, n)

unfoldable pub lines : PortTypePart → Parser PortTypePart
lines p = loop (row_turn ends_block line add_line) p

unfoldable pub port_type : Parser DeclPart
port_type = do
  exactly Word (codes "port")
  n ← name is_name
  exactly Sign (codes "{")
  p ← lines (no_lines n)
  exactly Sign (codes "}")
  pure (d.Port p)

unfoldable pub items : Bool → ComponentPart → Parser ComponentPart
items two c = loop (row_turn ends_block (item two) add_item) c

unfoldable pub component : Bool → Parser DeclPart
component two = do
  exactly Word (codes "component")
  n ← name is_name
  exactly Sign (codes "{")
  c ← items two (no_items n)
  exactly Sign (codes "}")
  pure (d.Component c)

unfoldable pub root : Parser DeclPart
root = do
  a ← exactly Word (codes "root")
  x ← child
  exactly Sign (codes ";")
  pure (d.Root (record { at = a; child = x }))

abbrev pub decl_by : Bool → Option Lexeme → Parser DeclPart
decl_by two o =
    if is_exactly Word (codes "event") o then event
    else (if is_exactly Word (codes "port") o then port_type
    else (if is_exactly Word (codes "component") o then component two else root))

unfoldable pub decl : Bool → Parser DeclPart
decl two = by_next (decl_by two)

-- ---- files

abbrev pub version_by : Bool → Parser Bool
version_by true = pure false
version_by false = exactly Number (codes "2") >> pure true

-- whether the version is 2
unfoldable pub version : Parser Bool
version = eat Number (codes "1") >>= version_by

unfoldable pub header : Parser Bool
header = do
  exactly Word (codes "system")
  two ← version
  exactly Sign (codes ";")
  pure two

unfoldable pub decls : Bool → Parts → Parser Parts
decls two p = loop (row_turn is_none (decl two) add_decl) p

unfoldable pub file : ℕ → Parser Parts
file end = header >>= (λ two. decls two (no_decls two end))
