-- Scenarios whose events come in at the ports that they name.
use Rattle.std.specs.Prelude.{Bool, false, ◌&&◌, ◌==◌, nat_lt, length, slice_get}
use Rattle.std.specs.Option.{option_map_or}
use Rattle.kom_events.specs.Kin.{attributes}
use Rattle.kom_events.specs.Ports.{passes}
use Rattle.kom_lang.specs.Declarations.{Declarations, kind_of}
use Rattle.kom_record.specs.Plans.{inward}
use Rattle.kom_scenario.specs.declared.tree.Raising.{Raising}
use Rattle.kom_scenario.specs.declared.tree.Source.{Source}
use Rattle.kom_scenario.specs.declared.tree.Source.TheVariants as source

abbrev pub raising_of : Source → Raising
raising_of (source.At t r) = r
raising_of (source.Process p) = p.raising

-- the type comes in at the port, and has as many attributes as there are arguments
abbrev pub raising_fits : Declarations → Raising → Bool
raising_fits S r =
    option_map_or (λ p. passes S.events S.ports p.port (inward p) r.kind) (slice_get (kind_of S S.root.kind).ports r.port) false
    && (nat_lt r.kind (length S.events) && length r.args == attributes S.events r.kind)
