-- The systems whose numbers all name what they should.
use Rattle.std.specs.Prelude.{◌≡◌, ℕ, zero, suc, ◌<◌, ◌≤◌, true, nat_lt, [], ◌+◌, length, take, Contains, sum_by, slice_index_or}
use Rattle.std.specs.List.{list_all}
use Rattle.std.specs.Option.{option_map_or}
use Rattle.kom_events.specs.Kin.{attributes}
use Rattle.kom_lang.specs.declared.kind.Kind.{Kind}
use Rattle.kom_lang.specs.declared.stmt.Handler.{Handler}
use Rattle.kom_lang.specs.declared.stmt.Stmt.{Stmt}
use Rattle.kom_lang.specs.Declarations.{Declarations, kind_of, height_of}
use Rattle.kom_system.specs.Contents.{Contents}
use Rattle.kom_system.specs.Fitting.{built_in_events, built_in_ports, event_fits, port_type_fits, kind_fits, child_fits}
use Rattle.kom_system.specs.Statements.{Within, StatementFits}

-- how many instances, or channels, the tree of a component type has: what each of its types adds,
-- with at most n levels
abbrev pub tree_count : (Kind → ℕ) → ℕ → Declarations → ℕ → ℕ
tree_count adds zero S k = 0
tree_count adds (suc n) S k = adds (kind_of S k) + sum_by (λ s. option_map_or (λ child. tree_count adds n S child.kind) s.child 0) (kind_of S k).slots

-- a component type whose tree is of finite height, at most 16, and has at most 1,000 instances and channels
pub record TreeFits (S : Declarations) (k : ℕ) : Type 0 where
  pub children : list_all (λ s. option_map_or (λ child. nat_lt (height_of S child.kind) (height_of S k)) s.child true) (kind_of S k).slots ≡ true
  pub height : height_of S k ≤ 16
  pub instances : tree_count (λ kind. 1) 16 S k ≤ 1000
  pub channels : tree_count (λ kind. length kind.channels) 16 S k ≤ 1000

pub record KindFits (S : Declarations) (k : ℕ) : Type 0 where
  pub parts : kind_fits S (kind_of S k) ≡ true
  pub tree : TreeFits S k
  pub statements : (h : Handler) (s : Stmt) → Contains (kind_of S k).handlers h → Within s h.block → StatementFits S (kind_of S k) h.on s

-- the declarations of a system: the built-in types come first
pub record IsDeclared (S : Declarations) : Type 0 where
  pub built_in_events_first : take 4 S.events ≡ built_in_events
  pub built_in_ports_first : take 2 S.ports ≡ built_in_ports
  pub event_count : length S.events ≤ 260
  pub port_count : length S.ports ≤ 130
  pub kind_count : length S.kinds ≤ 128
  pub events : (k : ℕ) → k < length S.events → event_fits S.events k ≡ true
  pub ports : list_all (port_type_fits S.events) S.ports ≡ true
  pub kinds : (k : ℕ) → k < length S.kinds → KindFits S k
  pub root : child_fits S S.root ≡ true

-- a name for each event type, each of its attributes and each port type, and a version that exists
pub record IsWellFormed (c : Contents) : Type 0 where
  pub declared : IsDeclared c.declarations
  pub event_names : length c.event_names ≡ length c.declarations.events
  pub attr_names : length c.attr_names ≡ length c.declarations.events
  pub attr_counts : (k : ℕ) → k < length c.declarations.events → length (slice_index_or c.attr_names k []) ≡ attributes c.declarations.events k
  pub port_names : length c.port_names ≡ length c.declarations.ports
  pub version_low : 1 ≤ c.version
  pub version_high : c.version ≤ 2
