-- The port types of channels.
use Rattle.std.specs.Prelude.{◌≡◌, ℕ, true, List, Option, Some, slice_get}
use Rattle.std.specs.Option.{option_map, option_map_or}
use Rattle.kom_base.specs.declared.numbers.Dir.{Dir}
use Rattle.kom_events.specs.Ports.{passes}
use Rattle.kom_lang.specs.Declarations.{Declarations, kind_of}
use Rattle.kom_record.specs.Entries.{Act}
use Rattle.kom_record.specs.Channels.{Channel, Environment, Own, channels, decl_of}

-- that of the root's port, or the one with which the channel is declared
abbrev pub port_type : Declarations → List Act → Channel → ℕ
port_type S done (Environment q) = option_map_or (λ p. p.port) (slice_get (kind_of S S.root.kind).ports q) 0
port_type S done (Own c k) = option_map_or (λ d. d.port) (decl_of S done c k) 0

-- the port type of channel x; none where there is no such channel
abbrev pub port_type_of : Declarations → List Act → ℕ → Option ℕ
port_type_of S done x = option_map (port_type S done) (slice_get (channels S done) x)

-- events of the type pass the port type of channel x in that direction
abbrev pub PassesChannel : Declarations → List Act → ℕ → Dir → ℕ → Type 0
PassesChannel S done x d kind = (t : ℕ) × (port_type_of S done x ≡ Some t) × (passes S.events S.ports t d kind ≡ true)
