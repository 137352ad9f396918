-- Which tokens spell which system file. `two` says that the file is of version 2.
use Rattle.std.specs.Prelude.{◌≡◌, ℤ, pos, ℕ, suc, Bool, true, false, List, [], ◌∷◌, ◌++◌, Option, Some, None, codes}
use Rattle.std.specs.List.{filter_map}
use Rattle.kom_base.specs.declared.numbers.Dir.{Dir}
use Rattle.kom_base.specs.declared.numbers.Dir.TheVariants.{Plus, Minus}
use Rattle.kom_events.specs.declared.selector.Op.{Op}
use Rattle.kom_system.specs.declared.parts.Spot.{Spot}
use Rattle.kom_system.specs.declared.parts.StmtPart.{StmtPart}
use Rattle.kom_system.specs.declared.parts.OnPart.{OnPart}
use Rattle.kom_system.specs.declared.parts.OnPart.TheVariants as on
use Rattle.kom_system.specs.declared.parts.HandlerPart.{HandlerPart}
use Rattle.kom_system.specs.declared.parts.ChildPart.{ChildPart}
use Rattle.kom_system.specs.declared.parts.PortPart.{PortPart}
use Rattle.kom_system.specs.declared.parts.VarPart.{VarPart}
use Rattle.kom_system.specs.declared.parts.SlotPart.{SlotPart}
use Rattle.kom_system.specs.declared.parts.EndPart.{EndPart}
use Rattle.kom_system.specs.declared.parts.EndPart.TheVariants as end
use Rattle.kom_system.specs.declared.parts.TestPart.{TestPart}
use Rattle.kom_system.specs.declared.parts.ChannelPart.{ChannelPart}
use Rattle.kom_system.specs.declared.parts.ComponentPart.{ComponentPart}
use Rattle.kom_system.specs.declared.parts.EventPart.{EventPart}
use Rattle.kom_system.specs.declared.parts.PortTypePart.{PortTypePart}
use Rattle.kom_system.specs.declared.parts.RootPart.{RootPart}
use Rattle.kom_system.specs.declared.parts.Parts.{Parts}
use Rattle.kom_grammar.specs.declared.items.DeclPart.{DeclPart}
use Rattle.kom_grammar.specs.declared.items.DeclPart.TheVariants as decl
use Rattle.kom_grammar.specs.declared.items.ItemPart.{ItemPart}
use Rattle.kom_grammar.specs.declared.items.ItemPart.TheVariants as item
use Rattle.kom_parse.specs.Lexemes.{Lexeme, number_lexeme}
use Rattle.kom_parse.specs.Spelled.{SpellsList, SpellsRow}
use Rattle.kom_grammar.specs.Words.{w, s, SpellsName, relation_of}
use Rattle.kom_grammar.specs.Expressions.{SpellsInt}
use Rattle.kom_grammar.specs.Statements.{SpellsBlock, max_blocks}

-- a component type with arguments
pub data SpellsChild : List Lexeme → ChildPart → Type 0 where
  child : (a b : ℕ) {t u : List Lexeme} {n : Spot} {vs : List ℤ} → SpellsName t n → SpellsList SpellsInt u vs
      → SpellsChild (t ++ (s (codes "(") a ∷ (u ++ s (codes ")") b ∷ []))) (record { kind = n; args = vs })

-- ---- channels

pub data SpellsEnd : List Lexeme → EndPart → Type 0 where
  free : (a : ℕ) → SpellsEnd (w (codes "free") a ∷ []) end.Free
  own : (a b : ℕ) {t : List Lexeme} {q : Spot} → SpellsName t q → SpellsEnd (w (codes "self") a ∷ s (codes ".") b ∷ t) (end.Own q)
  child_end : (a : ℕ) {t u : List Lexeme} {n q : Spot} → SpellsName t n → SpellsName u q → SpellsEnd (t ++ s (codes ".") a ∷ u) (end.Child n q)

pub data SpellsTest : List Lexeme → TestPart → Type 0 where
  test : (a b : ℕ) {t u v : List Lexeme} {n m : Spot} {i : ℤ} (op : Op) → SpellsName t n → SpellsName u m → SpellsInt v i
      → SpellsTest (t ++ (s (codes ".") a ∷ (u ++ s (relation_of op) b ∷ v))) (record { kind = n; attr = m; op = op; number = i })

-- one test; by version 2 several, with `&&` between them
pub data SpellsTests (two : Bool) : List Lexeme → List TestPart → Type 0 where
  one_test : {t : List Lexeme} {x : TestPart} → SpellsTest t x → SpellsTests two t (x ∷ [])
  more_tests : (a : ℕ) {t ts : List Lexeme} {x : TestPart} {xs : List TestPart} → two ≡ true → SpellsTest t x → SpellsTests two ts xs
      → SpellsTests two (t ++ s (codes "&&") a ∷ ts) (x ∷ xs)

-- the selector of a direction, which may be left out
pub data SpellsWhen (two : Bool) (direction : List ℕ) : List Lexeme → List TestPart → Type 0 where
  no_tests : SpellsWhen two direction [] []
  tests : (a b : ℕ) {t : List Lexeme} {xs : List TestPart} → SpellsTests two t xs → SpellsWhen two direction (w direction a ∷ w (codes "when") b ∷ t) xs

-- ---- handlers

-- `off` behind the name of a handler, which may be left out
pub data SpellsOff : List Lexeme → Bool → Type 0 where
  subscribed : SpellsOff [] false
  off : (a : ℕ) → SpellsOff (w (codes "off") a ∷ []) true

-- what is handled: the tokens before `as`
pub data SpellsOn : List Lexeme → OnPart → Type 0 where
  event : (a : ℕ) {t u : List Lexeme} {n q : Spot} → SpellsName t n → SpellsName u q → SpellsOn (t ++ w (codes "at") a ∷ u) (on.Event n q)
  start : (a : ℕ) → SpellsOn (w (codes "start") a ∷ []) on.Start
  stop : (a : ℕ) → SpellsOn (w (codes "stop") a ∷ []) on.Stop
  fault : (a b c d : ℕ) {t u : List Lexeme} {n m : Spot} → SpellsName t n → SpellsName u m
      → SpellsOn (w (codes "fault") a ∷ s (codes "(") b ∷ (t ++ s (codes ",") c ∷ (u ++ s (codes ")") d ∷ []))) (on.Fault n m)
  dumped : (a b c : ℕ) {t : List Lexeme} {n : Spot} → SpellsName t n → SpellsOn (w (codes "dumped") a ∷ s (codes "(") b ∷ (t ++ s (codes ")") c ∷ [])) (on.Dumped n)

-- a handler; that of init is never off
pub data SpellsHandler (two : Bool) : List Lexeme → HandlerPart → Type 0 where
  init : (a b c d e : ℕ) {t u v : List Lexeme} {ns : List Spot} {n : Spot} {xs : List StmtPart}
      → SpellsList SpellsName t ns → SpellsName u n → SpellsBlock two max_blocks v xs
      → SpellsHandler two (w (codes "on") a ∷ w (codes "init") b ∷ s (codes "(") c ∷ (t ++ (s (codes ")") d ∷ w (codes "as") e ∷ (u ++ v))))
      (record { name = n; on = on.Init ns; off = false; block = xs })
  other : (a b : ℕ) {t u v x : List Lexeme} {o : OnPart} {n : Spot} {is_off : Bool} {xs : List StmtPart}
      → SpellsOn t o → SpellsName u n → SpellsOff x is_off → SpellsBlock two max_blocks v xs
      → SpellsHandler two (w (codes "on") a ∷ (t ++ w (codes "as") b ∷ (u ++ (x ++ v)))) (record { name = n; on = o; off = is_off; block = xs })

-- ---- items of a component type

pub data SpellsItem (two : Bool) : List Lexeme → ItemPart → Type 0 where
  provides : (a b c : ℕ) {t u : List Lexeme} {n m : Spot} → SpellsName t n → SpellsName u m
      → SpellsItem two (w (codes "provides") a ∷ (t ++ s (codes ":") b ∷ (u ++ s (codes ";") c ∷ []))) (item.Port (record { name = n; port = m; provided = true }))
  requires_port : (a b c : ℕ) {t u : List Lexeme} {n m : Spot} → SpellsName t n → SpellsName u m
      → SpellsItem two (w (codes "requires") a ∷ (t ++ s (codes ":") b ∷ (u ++ s (codes ";") c ∷ []))) (item.Port (record { name = n; port = m; provided = false }))
  var : (a b : ℕ) {t : List Lexeme} {n : Spot} → SpellsName t n
      → SpellsItem two (w (codes "var") a ∷ (t ++ s (codes ";") b ∷ [])) (item.Var (record { name = n; first = pos 0 }))
  var_with : (a b c : ℕ) {t u : List Lexeme} {n : Spot} {i : ℤ} → SpellsName t n → SpellsInt u i
      → SpellsItem two (w (codes "var") a ∷ (t ++ s (codes "=") b ∷ (u ++ s (codes ";") c ∷ []))) (item.Var (record { name = n; first = i }))
  slot : (a b : ℕ) {t : List Lexeme} {n : Spot} → SpellsName t n
      → SpellsItem two (w (codes "slot") a ∷ (t ++ s (codes ";") b ∷ [])) (item.Slot (record { name = n; child = None }))
  slot_with : (a b c : ℕ) {t u : List Lexeme} {n : Spot} {x : ChildPart} → SpellsName t n → SpellsChild u x
      → SpellsItem two (w (codes "slot") a ∷ (t ++ s (codes ":") b ∷ (u ++ s (codes ";") c ∷ []))) (item.Slot (record { name = n; child = Some x }))
  channel : (a b c d e : ℕ) {t u v x y z : List Lexeme} {n m : Spot} {p q : EndPart} {ps qs : List TestPart}
      → SpellsName t n → SpellsName u m → SpellsEnd v p → SpellsEnd x q → SpellsWhen two (codes "plus") y ps → SpellsWhen two (codes "minus") z qs
      → SpellsItem two
      (w (codes "channel") a ∷ (t ++ s (codes ":") b ∷ (u ++ w (codes "from") c ∷ (v ++ w (codes "to") d ∷ (x ++ (y ++ (z ++ s (codes ";") e ∷ [])))))))
      (item.Channel (record { name = n; port = m; plus = p; minus = q; plus_when = ps; minus_when = qs }))
  handler : {t : List Lexeme} {x : HandlerPart} → SpellsHandler two t x → SpellsItem two t (item.Handler x)

-- those of each kind among the items of a component type, in order
abbrev pub port_in : ItemPart → Option PortPart
port_in (item.Port x) = Some x
port_in _ = None

abbrev pub var_in : ItemPart → Option VarPart
var_in (item.Var x) = Some x
var_in _ = None

abbrev pub slot_in : ItemPart → Option SlotPart
slot_in (item.Slot x) = Some x
slot_in _ = None

abbrev pub channel_in : ItemPart → Option ChannelPart
channel_in (item.Channel x) = Some x
channel_in _ = None

abbrev pub handler_in : ItemPart → Option HandlerPart
handler_in (item.Handler x) = Some x
handler_in _ = None

abbrev pub component_of : Spot → List ItemPart → ComponentPart
component_of n xs = record {
  name = n;
  ports = filter_map port_in xs;
  vars = filter_map var_in xs;
  slots = filter_map slot_in xs;
  channels = filter_map channel_in xs;
  handlers = filter_map handler_in xs;
}

-- ---- declarations

-- one line of a port type: a direction and an event type
pub data SpellsListed : List Lexeme → Dir × Spot → Type 0 where
  indication : (a b : ℕ) {t : List Lexeme} {n : Spot} → SpellsName t n → SpellsListed (w (codes "plus") a ∷ (t ++ s (codes ";") b ∷ [])) (Plus, n)
  request : (a b : ℕ) {t : List Lexeme} {n : Spot} → SpellsName t n → SpellsListed (w (codes "minus") a ∷ (t ++ s (codes ";") b ∷ [])) (Minus, n)

abbrev pub indication_in : Dir × Spot → Option Spot
indication_in (Plus, n) = Some n
indication_in (Minus, n) = None

abbrev pub request_in : Dir × Spot → Option Spot
request_in (Plus, n) = None
request_in (Minus, n) = Some n

pub data SpellsDecl (two : Bool) : List Lexeme → DeclPart → Type 0 where
  event_type : (a b c d : ℕ) {t u : List Lexeme} {n : Spot} {ns : List Spot} → SpellsName t n → SpellsList SpellsName u ns
      → SpellsDecl two (w (codes "event") a ∷ (t ++ s (codes "(") b ∷ (u ++ s (codes ")") c ∷ s (codes ";") d ∷ []))) (decl.Event (record { name = n; parent = None; attrs = ns }))
  event_subtype : (a b c d e : ℕ) {t u v : List Lexeme} {n m : Spot} {ns : List Spot} → SpellsName t n → SpellsName u m → SpellsList SpellsName v ns
      → SpellsDecl two (w (codes "event") a ∷ (t ++ s (codes ":") b ∷ (u ++ s (codes "(") c ∷ (v ++ s (codes ")") d ∷ s (codes ";") e ∷ []))))
      (decl.Event (record { name = n; parent = Some m; attrs = ns }))
  port_type : (a b c : ℕ) {t u : List Lexeme} {n : Spot} {xs : List (Dir × Spot)} → SpellsName t n → SpellsRow SpellsListed u xs
      → SpellsDecl two (w (codes "port") a ∷ (t ++ s (codes "{") b ∷ (u ++ s (codes "}") c ∷ [])))
      (decl.Port (record { name = n; plus = filter_map indication_in xs; minus = filter_map request_in xs }))
  component : (a b c : ℕ) {t u : List Lexeme} {n : Spot} {xs : List ItemPart} → SpellsName t n → SpellsRow (SpellsItem two) u xs
      → SpellsDecl two (w (codes "component") a ∷ (t ++ s (codes "{") b ∷ (u ++ s (codes "}") c ∷ []))) (decl.Component (component_of n xs))
  root : (a b : ℕ) {t : List Lexeme} {x : ChildPart} → SpellsChild t x → SpellsDecl two (w (codes "root") a ∷ (t ++ s (codes ";") b ∷ [])) (decl.Root (record { at = a; child = x }))

abbrev pub event_in : DeclPart → Option EventPart
event_in (decl.Event x) = Some x
event_in _ = None

abbrev pub port_type_in : DeclPart → Option PortTypePart
port_type_in (decl.Port x) = Some x
port_type_in _ = None

abbrev pub component_in : DeclPart → Option ComponentPart
component_in (decl.Component x) = Some x
component_in _ = None

abbrev pub root_in : DeclPart → Option RootPart
root_in (decl.Root x) = Some x
root_in _ = None

-- ---- files

-- the digits of a version
abbrev pub version_digits : Bool → List ℕ
version_digits false = codes "1"
version_digits true = codes "2"

abbrev pub version_number : Bool → ℕ
version_number false = 1
version_number true = 2

-- the tokens of a text that ends at a place are a file with these parts
pub data SpellsFile (end : ℕ) : List Lexeme → Parts → Type 0 where
  file : (a b c : ℕ) {t : List Lexeme} {xs : List DeclPart} (two : Bool) → SpellsRow (SpellsDecl two) t xs
      → SpellsFile end (w (codes "system") a ∷ number_lexeme (version_digits two) b ∷ s (codes ";") c ∷ t)
      (record {
        version = version_number two;
        events = filter_map event_in xs;
        ports = filter_map port_type_in xs;
        components = filter_map component_in xs;
        roots = filter_map root_in xs;
        end = end;
      })
