-- What releases bring into the channels of the root's ports.
use Rattle.std.specs.Prelude.{◌≤◌, ℕ, ◌&&◌, ◌==◌, if◌then◌else◌, List, Option, Some, None, IsSome, slice_get, false}
use Rattle.std.specs.List.{All, enumerate_from, filter_map}
use Rattle.std.specs.Option.{option_map_or}
use Rattle.kom_base.specs.declared.numbers.Dir.{Dir}
use Rattle.kom_base.specs.declared.numbers.Dir.TheVariants.{Plus, Minus}
use Rattle.kom_base.specs.declared.numbers.EntryNo.{EntryNo}
use Rattle.kom_base.specs.Numbers.{same_dir}
use Rattle.kom_record.specs.declared.entry.Release.{Release}
use Rattle.kom_state.specs.Parts.{Parts, queue_spare, state_of}

-- the direction in which events come in by a channel, where these lead out
abbrev pub way_in : List Dir → ℕ → Dir
way_in outs x = if option_map_or (λ e. same_dir e Plus) (slice_get outs x) false then Minus else Plus

-- the number with which a release, at its place, is brought into a direction
abbrev pub number_by : List Dir → ℕ → ℕ → Dir → ℕ × Release → Option EntryNo
number_by outs position x d q = if x == q.1.chan && same_dir (way_in outs q.1.chan) d then Some (record { position = position; place = q.0 }) else None

abbrev pub brought : List Dir → ℕ → List Release → ℕ → Dir → List EntryNo
brought outs position released x d = filter_map (number_by outs position x d) (enumerate_from 0 released)

-- each release has a queue to come into
abbrev pub AreThere : Parts → List Release → Type 0
AreThere v released = All (λ r. IsSome ((state_of v).queues r.chan (way_in v.numbers.outs r.chan))) released

-- and there is room for so many numbers in it
abbrev pub HaveRoom : ℕ → Parts → List Release → Type 0
HaveRoom n v released = All (λ r. n ≤ queue_spare v r.chan (way_in v.numbers.outs r.chan)) released
