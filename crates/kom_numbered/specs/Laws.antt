-- The laws of the numbers of channels, and of the halves that places name.
use Rattle.std.specs.Prelude.{◌≡◌, ◌≤◌, ◌<◌, ℕ, ◌+◌, ◌==◌, true, List, ◌++◌, length, take, slice_get, Option, Some, None}
use Rattle.std.specs.List.{sum_by}
use Rattle.std.specs.Option.{option_map}
use Rattle.kom_base.specs.declared.numbers.Half.{Half}
use Rattle.kom_base.specs.declared.numbers.Side.TheVariants.{Outside, Inside}
use Rattle.kom_lang.specs.Declarations.{Declarations, kind_of}
use Rattle.kom_lang.specs.declared.kind.Place.{Place}
use Rattle.kom_record.specs.Entries.{Act}
use Rattle.kom_record.specs.Instances.{Instance, alive, born}
use Rattle.kom_record.specs.Channels.{Own, channels, half_of}
use Rattle.kom_refine.specs.Points.{Point, StandsAt, acts_at}
use Rattle.kom_refine.specs.States.{State}
use Rattle.kom_refine.specs.Steps.{names}

-- how many channels these instances have
abbrev pub channel_count : Declarations → List Instance → ℕ
channel_count S is = sum_by (λ i. length (kind_of S i.kind).channels) is

-- the number of the first channel of the instance c: after those of the root's ports and of all earlier instances
abbrev pub first_channel : Declarations → List Act → ℕ → ℕ
first_channel S done c = length (kind_of S S.root.kind).ports + channel_count S (take c (born S done))

-- channel k of c has the number k places after its first, and no other
abbrev pub ChannelsAreNumbered : Type 0
ChannelsAreNumbered = (S : Declarations) (done : List Act) (c k : ℕ) (i : Instance)
    → slice_get (born S done) c ≡ Some i → k < length (kind_of S i.kind).channels
    → (slice_get (channels S done) (first_channel S done c + k) ≡ Some (Own c k)) × ((x : ℕ) → names S done c k x ≡ (x == first_channel S done c + k))

-- there are as many channels as the next instance's first would have as its number
abbrev pub ChannelsAreCounted : Type 0
ChannelsAreCounted = (S : Declarations) (done : List Act) → length (channels S done) ≡ first_channel S done (length (born S done))

-- more effects leave the numbers
abbrev pub NumbersStay : Type 0
NumbersStay = (S : Declarations) (mine done : List Act) (c : ℕ) → c ≤ length (born S done) → first_channel S (mine ++ done) c ≡ first_channel S done c

-- the half that a place of c names, by the state
abbrev pub half_by : State → ℕ → Place → Option Half
half_by m c p =
    elim p.slot [
      | None ↦ Some (record { comp = c; port = p.port; side = Inside })
      | Some s ↦ option_map (λ q. record { comp = q; port = p.port; side = Outside }) (m.child c s)
    ]

abbrev pub HalvesByState : Type 0
HalvesByState = (S : Declarations) (p : Point) (m : State) (c : ℕ) (place : Place) → StandsAt S p m → alive S (acts_at p) c ≡ true → half_of S (acts_at p) c place ≡ half_by m c place
