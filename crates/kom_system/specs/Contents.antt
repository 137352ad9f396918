-- What contracts see of a system.
use Rattle.std.specs.Prelude.{ℕ, List}
use Rattle.kom_lang.specs.Declarations.{Declarations}
use Rattle.kom_system.specs.declared.declared.Declared.{Declared}

-- the declarations by number, the names of event types, of their attributes (inherited ones first)
-- and of port types, and the version of the file
pub record Contents : Type 0 where
  pub declarations : Declarations
  pub event_names : List (List ℕ)
  pub attr_names : List (List (List ℕ))
  pub port_names : List (List ℕ)
  pub version : ℕ

abbrev pub contents_of : Declared → Contents
contents_of d = record {
  declarations = record { events = d.event_types; ports = d.port_types; kinds = d.kinds; root = d.root };
  event_names = d.event_names;
  attr_names = d.attr_names;
  port_names = d.port_names;
  version = d.version;
}

-- the same system, by the second version of the file
abbrev pub upgraded : Contents → Contents
upgraded c = record { declarations = c.declarations; event_names = c.event_names; attr_names = c.attr_names; port_names = c.port_names; version = 2 }
