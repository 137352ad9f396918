-- A system of one component in another.
use Rattle.std.specs.Prelude.{◌≡◌, ℕ, false, List, [], ◌∷◌, length, map, Some, None}
use Rattle.kom_events.specs.declared.event_types.EventRow.{EventRow}
use Rattle.kom_events.specs.declared.port_types.PortRow.{PortRow}
use Rattle.kom_lang.specs.declared.kind.ChannelDecl.{ChannelDecl}
use Rattle.kom_lang.specs.declared.kind.Kind.{Kind}
use Rattle.kom_lang.specs.declared.kind.PortDecl.{PortDecl}
use Rattle.kom_lang.specs.declared.kind.SlotDecl.{SlotDecl}
use Rattle.kom_system.specs.declared.declared.Declared.{Declared}
use Rattle.kom_system.specs.Contents.{Contents, contents_of}

abbrev pub row : ℕ → EventRow
row own = record { parent = None; own = own }

-- after the built-in types: a number
abbrev pub events : List EventRow
events = row 2 ∷ row 1 ∷ row 1 ∷ row 2 ∷ row 1 ∷ []

abbrev pub ports : List PortRow
ports = record { plus = 2 ∷ []; minus = 0 ∷ 1 ∷ [] } ∷ record { plus = 3 ∷ []; minus = 3 ∷ [] } ∷ record { plus = 4 ∷ []; minus = [] } ∷ []

-- how many attributes the event types have
abbrev pub counts : List ℕ
counts = 2 ∷ 1 ∷ 1 ∷ 2 ∷ 1 ∷ []

abbrev pub port_of : List ℕ → List PortDecl
port_of name = record { name = name; port = 2; provided = false } ∷ []

pub record IsOnePort (ports : List PortDecl) : Type 0 where
  pub name : List ℕ
  pub is : ports ≡ port_of name

abbrev pub leaf_of : List ℕ → List ℕ → Kind
leaf_of name port = record { name = name; ports = port_of port; vars = []; slots = []; channels = []; handlers = [] }

pub record IsLeaf (kind : Kind) : Type 0 where
  pub name : List ℕ
  pub port : List ℕ
  pub is : kind ≡ leaf_of name port

abbrev pub slot_of : List ℕ → SlotDecl
slot_of name = record { name = name; child = Some (record { kind = 0; args = [] }) }

pub record IsSlot (slot : SlotDecl) : Type 0 where
  pub name : List ℕ
  pub is : slot ≡ slot_of name

abbrev pub channel_of : List ℕ → ChannelDecl
channel_of name = record {
  name = name;
  port = 2;
  plus = Some (record { slot = None; port = 0 });
  minus = Some (record { slot = Some 0; port = 0 });
  plus_when = [];
  minus_when = [];
}

pub record IsChannel (channel : ChannelDecl) : Type 0 where
  pub name : List ℕ
  pub is : channel ≡ channel_of name

abbrev pub main_of : List ℕ → List ℕ → List ℕ → List ℕ → Kind
main_of name port slot channel = record { name = name; ports = port_of port; vars = []; slots = slot_of slot ∷ []; channels = channel_of channel ∷ []; handlers = [] }

pub record IsMain (kind : Kind) : Type 0 where
  pub name : List ℕ
  pub port : List ℕ
  pub slot : List ℕ
  pub channel : List ℕ
  pub is : kind ≡ main_of name port slot channel

pub record IsNestContents (c : Contents) : Type 0 where
  pub leaf : Kind
  pub leaf_is : IsLeaf leaf
  pub main : Kind
  pub main_is : IsMain main
  pub declarations : c.declarations ≡ record { events = events; ports = ports; kinds = leaf ∷ main ∷ []; root = record { kind = 1; args = [] } }
  pub event_names : length c.event_names ≡ 5
  pub attr_names : map length c.attr_names ≡ counts
  pub port_names : length c.port_names ≡ 3
  pub version : c.version ≡ 1

abbrev pub IsNest : Declared → Type 0
IsNest d = IsNestContents (contents_of d)

abbrev pub IsNestSystem : Contents → Type 0
IsNestSystem c = IsNestContents c
