-- The numbers that the state keeps are those of the definitions of a run.
use Rattle.std.specs.Prelude.{◌≡◌, ℕ, List, length, map, slice_get, Some}
use Rattle.kom_base.specs.declared.numbers.Dir.{Dir}
use Rattle.kom_lang.specs.Declarations.{Declarations, kind_of}
use Rattle.kom_record.specs.Entries.{Act}
use Rattle.kom_record.specs.Instances.{Instance, born}
use Rattle.kom_record.specs.Channels.{channels, goes_out}
use Rattle.kom_numbers.specs.Numbering.{channel_at, count_of, is_wire, leads_out, total}
use Rattle.kom_refine.specs.Points.{node_of}
use Rattle.kom_refine.specs.Steps.{names, dies}
use Rattle.kom_state.specs.Parts.{Parts, state_of, IsOf}
use Rattle.kom_state.specs.Removals.{dies_with}

-- Where a state has the instances that were born by some acts, and its channels are numbered as those
-- of the system, each number is that of the same channel, the same channels end with a component, the
-- same directions lead out, and there are as many channels.
pub record AreNumbered (S : Declarations) (done : List Act) (v : Parts) : Type 0 where
  pub channel : (x : ℕ) → slice_get (channels S done) x ≡ channel_at v.numbers x
  pub named : (c k x : ℕ) → names S done c k x ≡ is_wire v.numbers c k x
  pub dying : (c slot x : ℕ) → dies S done c slot x ≡ dies_with v c slot x
  pub outer : (x : ℕ) (d : Dir) → goes_out S x d ≡ leads_out v.numbers x d
  pub widths : (c : ℕ) (i : Instance) → slice_get (born S done) c ≡ Some i → count_of v.numbers c ≡ length (kind_of S i.kind).channels
  pub counted : length (channels S done) ≡ total v.numbers

abbrev pub ChannelsAreNumbered : Type 0
ChannelsAreNumbered = (S : Declarations) (done : List Act) (v : Parts) → IsOf S v → (state_of v).nodes ≡ map node_of (born S done) → AreNumbered S done v

-- the numbers stay those of the system as long as they and the types of the instances are the same
abbrev pub NumbersStay : Type 0
NumbersStay = (S : Declarations) (v w : Parts) → IsOf S v → (state_of w).nodes ≡ (state_of v).nodes → w.numbers.outs ≡ v.numbers.outs → w.numbers.counts ≡ v.numbers.counts → IsOf S w
