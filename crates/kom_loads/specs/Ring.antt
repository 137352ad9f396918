-- A system whose root has the ports of the generated systems.
use Rattle.std.specs.Prelude.{◌≡◌, ℕ, true, false, List, [], ◌∷◌, length, map, None}
use Rattle.kom_events.specs.declared.event_types.EventRow.{EventRow}
use Rattle.kom_events.specs.declared.port_types.PortRow.{PortRow}
use Rattle.kom_lang.specs.declared.kind.Kind.{Kind}
use Rattle.kom_system.specs.declared.declared.Declared.{Declared}
use Rattle.kom_system.specs.Contents.{Contents, contents_of}

abbrev pub row : ℕ → EventRow
row own = record { parent = None; own = own }

-- after the built-in types: a token with its hops, and the command to swap
abbrev pub events : List EventRow
events = row 2 ∷ row 1 ∷ row 1 ∷ row 2 ∷ row 1 ∷ row 0 ∷ []

abbrev pub ports : List PortRow
ports =
    record { plus = 2 ∷ []; minus = 0 ∷ 1 ∷ [] } ∷ record { plus = 3 ∷ []; minus = 3 ∷ [] }
    ∷ record { plus = 4 ∷ []; minus = [] } ∷ record { plus = []; minus = 5 ∷ [] } ∷ []

-- how many attributes the event types have
abbrev pub counts : List ℕ
counts = 2 ∷ 1 ∷ 1 ∷ 2 ∷ 1 ∷ 0 ∷ []

abbrev pub main_of : List ℕ → List ℕ → List ℕ → Kind
main_of name feed cmd = record {
  name = name;
  ports = record { name = feed; port = 2; provided = false } ∷ record { name = cmd; port = 3; provided = true } ∷ [];
  vars = [];
  slots = [];
  channels = [];
  handlers = [];
}

pub record IsMain (kind : Kind) : Type 0 where
  pub name : List ℕ
  pub feed : List ℕ
  pub cmd : List ℕ
  pub is : kind ≡ main_of name feed cmd

pub record IsRingContents (c : Contents) : Type 0 where
  pub main : Kind
  pub main_is : IsMain main
  pub declarations : c.declarations ≡ record { events = events; ports = ports; kinds = main ∷ []; root = record { kind = 0; args = [] } }
  pub event_names : length c.event_names ≡ 6
  pub attr_names : map length c.attr_names ≡ counts
  pub port_names : length c.port_names ≡ 4
  pub version : c.version ≡ 1

abbrev pub IsRing : Declared → Type 0
IsRing d = IsRingContents (contents_of d)

abbrev pub IsRingSystem : Contents → Type 0
IsRingSystem c = IsRingContents c
