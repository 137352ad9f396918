-- The tokens with which declarations and files are written: all event types first, then port types,
-- component types and roots; in a component type ports, variables, slots, channels and handlers.
use Rattle.std.specs.Prelude.{ℕ, Bool, true, false, List, [], ◌∷◌, ◌++◌, Option, Some, None, codes}
use Rattle.std.specs.List.{flat_map}
use Rattle.kom_system.specs.declared.parts.Spot.{Spot}
use Rattle.kom_system.specs.declared.parts.EndPart.{EndPart}
use Rattle.kom_system.specs.declared.parts.EndPart.TheVariants as end
use Rattle.kom_system.specs.declared.parts.OnPart.{OnPart}
use Rattle.kom_system.specs.declared.parts.OnPart.TheVariants as on
use Rattle.kom_system.specs.declared.parts.ChildPart.{ChildPart}
use Rattle.kom_system.specs.declared.parts.PortPart.{PortPart}
use Rattle.kom_system.specs.declared.parts.VarPart.{VarPart}
use Rattle.kom_system.specs.declared.parts.SlotPart.{SlotPart}
use Rattle.kom_system.specs.declared.parts.TestPart.{TestPart}
use Rattle.kom_system.specs.declared.parts.ChannelPart.{ChannelPart}
use Rattle.kom_system.specs.declared.parts.HandlerPart.{HandlerPart}
use Rattle.kom_system.specs.declared.parts.ComponentPart.{ComponentPart}
use Rattle.kom_system.specs.declared.parts.EventPart.{EventPart}
use Rattle.kom_system.specs.declared.parts.PortTypePart.{PortTypePart}
use Rattle.kom_system.specs.declared.parts.RootPart.{RootPart}
use Rattle.kom_system.specs.declared.parts.Parts.{Parts}
use Rattle.kom_grammar.specs.Words.{relation_of}
use Rattle.kom_rules.specs.Walks.{max_levels}
use Rattle.kom_spaced.specs.Spaced.{Written}
use Rattle.kom_written.specs.Tokens.{word, sign, number, semicolon, called, integer, with_commas, separated, block_tokens, stmts_tokens, command}

-- names with commas between them, in parentheses, and what stands behind
abbrev pub names_tokens : List Spot → List Written
names_tokens names = with_commas (λ s. called s ∷ []) names

-- ---- component types

abbrev pub child_tokens : ChildPart → List Written
child_tokens c = called c.kind ∷ sign (codes "(") ∷ (with_commas integer c.args ++ sign (codes ")") ∷ [])

abbrev pub side_word : Bool → List ℕ
side_word true = codes "provides"
side_word false = codes "requires"

abbrev pub port_tokens : PortPart → List Written
port_tokens p = word (side_word p.provided) ∷ called p.name ∷ sign (codes ":") ∷ called p.port ∷ semicolon ∷ []

-- a variable is written with its first value
abbrev pub var_tokens : VarPart → List Written
var_tokens v = word (codes "var") ∷ called v.name ∷ sign (codes "=") ∷ (integer v.first ++ semicolon ∷ [])

abbrev pub typed_tokens : Option ChildPart → List Written
typed_tokens None = []
typed_tokens (Some child) = sign (codes ":") ∷ child_tokens child

abbrev pub slot_tokens : SlotPart → List Written
slot_tokens s = word (codes "slot") ∷ called s.name ∷ (typed_tokens s.child ++ semicolon ∷ [])

abbrev pub end_tokens : EndPart → List Written
end_tokens end.Free = word (codes "free") ∷ []
end_tokens (end.Own port) = word (codes "self") ∷ sign (codes ".") ∷ called port ∷ []
end_tokens (end.Child slot port) = called slot ∷ sign (codes ".") ∷ called port ∷ []

abbrev pub test_tokens : TestPart → List Written
test_tokens t = called t.kind ∷ sign (codes ".") ∷ called t.attr ∷ sign (relation_of t.op) ∷ integer t.number

-- a selector, where there is one
abbrev pub selector_tokens : List ℕ → List TestPart → List Written
selector_tokens direction [] = []
selector_tokens direction (t ∷ ts) = word direction ∷ word (codes "when") ∷ separated (sign (codes "&&")) test_tokens (t ∷ ts)

abbrev pub channel_tokens : ChannelPart → List Written
channel_tokens k =
    word (codes "channel") ∷ called k.name ∷ sign (codes ":") ∷ called k.port ∷ word (codes "from")
    ∷ (end_tokens k.plus ++ word (codes "to")
    ∷ (end_tokens k.minus ++ (selector_tokens (codes "plus") k.plus_when ++ (selector_tokens (codes "minus") k.minus_when ++ semicolon ∷ []))))

abbrev pub on_tokens : OnPart → List Written
on_tokens (on.Event kind port) = called kind ∷ word (codes "at") ∷ called port ∷ []
on_tokens (on.Init names) = word (codes "init") ∷ sign (codes "(") ∷ (names_tokens names ++ sign (codes ")") ∷ [])
on_tokens on.Start = word (codes "start") ∷ []
on_tokens on.Stop = word (codes "stop") ∷ []
on_tokens (on.Fault slot n) = word (codes "fault") ∷ sign (codes "(") ∷ called slot ∷ sign (codes ",") ∷ called n ∷ sign (codes ")") ∷ []
on_tokens (on.Dumped slot) = word (codes "dumped") ∷ sign (codes "(") ∷ called slot ∷ sign (codes ")") ∷ []

abbrev pub off_tokens : Bool → List Written
off_tokens true = word (codes "off") ∷ []
off_tokens false = []

abbrev pub handler_tokens : HandlerPart → List Written
handler_tokens h =
    word (codes "on") ∷ (on_tokens h.on ++ word (codes "as") ∷ called h.name ∷ (off_tokens h.off ++ block_tokens (stmts_tokens max_levels h.block)))

abbrev pub items_tokens : ComponentPart → List Written
items_tokens c =
    flat_map port_tokens c.ports ++ (flat_map var_tokens c.vars ++ (flat_map slot_tokens c.slots ++ (flat_map channel_tokens c.channels ++ flat_map handler_tokens c.handlers)))

abbrev pub component_tokens : ComponentPart → List Written
component_tokens c = word (codes "component") ∷ called c.name ∷ block_tokens (items_tokens c)

-- ---- files

abbrev pub parent_tokens : Option Spot → List Written
parent_tokens None = []
parent_tokens (Some p) = sign (codes ":") ∷ called p ∷ []

abbrev pub event_tokens : EventPart → List Written
event_tokens e = word (codes "event") ∷ called e.name ∷ (parent_tokens e.parent ++ sign (codes "(") ∷ (names_tokens e.attrs ++ sign (codes ")") ∷ semicolon ∷ []))

abbrev pub port_type_tokens : PortTypePart → List Written
port_type_tokens t =
    word (codes "port") ∷ called t.name ∷ block_tokens (flat_map (command (codes "plus")) t.plus ++ flat_map (command (codes "minus")) t.minus)

abbrev pub root_tokens : RootPart → List Written
root_tokens r = word (codes "root") ∷ (child_tokens r.child ++ semicolon ∷ [])

abbrev pub file_tokens : Parts → List Written
file_tokens P =
    word (codes "system") ∷ number P.version ∷ semicolon
    ∷ (flat_map event_tokens P.events ++ (flat_map port_type_tokens P.ports ++ (flat_map component_tokens P.components ++ flat_map root_tokens P.roots)))
