-- Channels: their numbers, the halves at their ends, holds and life. Each is asked for after a
-- list of acts, the latest first.
use Rattle.std.specs.Prelude.{ℕ, Bool, true, false, not, ◌&&◌, ◌||◌, nat_lt, if◌then◌else◌, List, [], ◌∷◌, ◌++◌, length, map, slice_get, Option, Some, None, is_none}
use Rattle.std.specs.List.{enumerate_from, flat_map}
use Rattle.std.specs.Option.{option_and_then, option_map, option_map_or}
use Rattle.kom_base.specs.declared.numbers.Dir.{Dir}
use Rattle.kom_base.specs.declared.numbers.Dir.TheVariants.{Plus, Minus}
use Rattle.kom_base.specs.declared.numbers.Side.TheVariants.{Outside, Inside}
use Rattle.kom_base.specs.declared.numbers.Half.{Half}
use Rattle.kom_base.specs.Numbers.{is_plus, same_dir, opposite, agree}
use Rattle.kom_events.specs.declared.selector.Test.{Test}
use Rattle.kom_lang.specs.Declarations.{Declarations, kind_of}
use Rattle.kom_lang.specs.declared.kind.ChannelDecl.{ChannelDecl}
use Rattle.kom_lang.specs.declared.kind.Place.{Place}
use Rattle.kom_lang.specs.declared.body.Effect.{Effect}
use Rattle.kom_lang.specs.declared.body.Effect.TheVariants as effect
use Rattle.kom_record.specs.Entries.{Act}
use Rattle.kom_record.specs.Instances.{Instance, is_own, born, alive, occupant}

-- what a channel is: the environment channel of a port of the root, or one of the channels that
-- the type of an instance declares, by its place there
pub data Channel : Type 0 where
  Environment : (port : ℕ) → Channel
  Own : (c wire : ℕ) → Channel

abbrev pub declared_place : ChannelDecl → Dir → Option Place
declared_place d Plus = d.plus
declared_place d Minus = d.minus

abbrev pub declared_selector : ChannelDecl → Dir → List Test
declared_selector d Plus = d.plus_when
declared_selector d Minus = d.minus_when

module _ (S : Declarations) where
  abbrev pub channels_of : ℕ × Instance → List Channel
  channels_of i = map (λ k. Own i.0 k.0) (enumerate_from 0 (kind_of S i.1.kind).channels)

  -- all channels in order of number: those of the root's ports, then those of each instance
  unfoldable pub channels : List Act → List Channel
  channels done =
      map (λ q. Environment q.0) (enumerate_from 0 (kind_of S S.root.kind).ports)
      ++ flat_map channels_of (enumerate_from 0 (born S done))

  -- the declaration of the channel k of the instance c
  unfoldable pub decl_of : List Act → ℕ → ℕ → Option ChannelDecl
  decl_of done c k = option_and_then (λ i. slice_get (kind_of S i.kind).channels k) (slice_get (born S done) c)

  -- ---- ends

  -- the half that a place of c names: the inside of a port of c itself, or the outside of a port
  -- of the component that is then in a slot of c
  unfoldable pub half_of : List Act → ℕ → Place → Option Half
  half_of done c p =
      elim p.slot [
        | None ↦ Some (record { comp = c; port = p.port; side = Inside })
        | Some s ↦ option_map (λ q. record { comp = q; port = p.port; side = Outside }) (occupant S done c s)
      ]

  unfoldable pub declared_end : List Act → ℕ → ℕ → Dir → Option Half
  declared_end done c k e = option_and_then (λ d. option_and_then (half_of done c) (declared_place d e)) (decl_of done c k)

  abbrev pub end_after : List Act → Act → ℕ → ℕ → Dir → Effect → Option Half → Option Half
  end_after done a c k e (effect.Plug j f p) old = if is_own a j c k && same_dir f e then half_of done c p else old
  end_after done a c k e (effect.Unplug j f) old = if is_own a j c k && same_dir f e then None else old
  end_after done a c k e (effect.Create slot kind birth) old = if nat_lt c (length (born S done)) then old else declared_end (a ∷ done) c k e
  end_after done a c k e x old = old

  -- the half at the end e of channel k of c: by the last effect that names it, or else by the
  -- declaration, as it was when c was created
  unfoldable pub wire_end : List Act → ℕ → ℕ → Dir → Option Half
  wire_end [] c k e = declared_end [] c k e
  wire_end (a ∷ done) c k e = end_after done a c k e a.effect (wire_end done c k e)

  -- The root's half at the end e of an environment channel; none at the end that is the
  -- environment's. The outside of a provided port is positive, so a plus end is plugged there.
  unfoldable pub root_end : ℕ → Dir → Option Half
  root_end q e = option_and_then
      (λ d. if agree d.provided (is_plus e) then Some (record { comp = 0; port = q; side = Outside }) else None)
      (slice_get (kind_of S S.root.kind).ports q)

  abbrev pub channel_end : List Act → Dir → Channel → Option Half
  channel_end done e (Environment q) = root_end q e
  channel_end done e (Own c k) = wire_end done c k e

  -- the half at which the end e of channel x is plugged, none where it is free
  unfoldable pub place : List Act → ℕ → Dir → Option Half
  place done x e = option_and_then (channel_end done e) (slice_get (channels done) x)

  -- direction d of a channel goes from the end d to the other one
  unfoldable pub source : List Act → ℕ → Dir → Option Half
  source done x d = place done x d

  unfoldable pub destination : List Act → ℕ → Dir → Option Half
  destination done x d = place done x (opposite d)

  -- ---- holds

  -- a channel that is declared with a free end starts held
  unfoldable pub declared_held : List Act → ℕ → ℕ → Bool
  declared_held done c k = option_map_or (λ d. is_none d.plus || is_none d.minus) (decl_of done c k) false

  abbrev pub held_after : List Act → Act → ℕ → ℕ → Effect → Bool → Bool
  held_after done a c k (effect.Hold j) old = if is_own a j c k then true else old
  held_after done a c k (effect.Resume j) old = if is_own a j c k then false else old
  held_after done a c k (effect.Create slot kind birth) old = if nat_lt c (length (born S done)) then old else declared_held (a ∷ done) c k
  held_after done a c k x old = old

  -- whether channel k of c is held: by its last Hold or Resume, or else by the declaration
  unfoldable pub wire_held : List Act → ℕ → ℕ → Bool
  wire_held [] c k = declared_held [] c k
  wire_held (a ∷ done) c k = held_after done a c k a.effect (wire_held done c k)

  abbrev pub channel_held : List Act → Channel → Bool
  channel_held done (Environment q) = false
  channel_held done (Own c k) = wire_held done c k

  -- whether channel x is held; an environment channel never is
  unfoldable pub held : List Act → ℕ → Bool
  held done x = option_map_or (channel_held done) (slice_get (channels done) x) false

  -- ---- life and selectors

  abbrev pub channel_alive : List Act → Channel → Bool
  channel_alive done (Environment q) = true
  channel_alive done (Own c k) = alive S done c

  -- channel x is alive while its instance is; an environment channel always is
  unfoldable pub is_living : List Act → ℕ → Bool
  is_living done x = option_map_or (channel_alive done) (slice_get (channels done) x) false

  abbrev pub channel_selector : List Act → Dir → Channel → List Test
  channel_selector done d (Environment q) = []
  channel_selector done d (Own c k) = option_map_or (λ decl. declared_selector decl d) (decl_of done c k) []

  -- what channel x lets pass in direction d; an environment channel has no tests
  unfoldable pub selector : List Act → ℕ → Dir → List Test
  selector done x d = option_map_or (channel_selector done d) (slice_get (channels done) x) []

  -- ---- the environment

  -- the end e of channel x is the environment's own
  unfoldable pub is_outer : ℕ → Dir → Bool
  is_outer x e = option_map_or (λ p. not (agree p.provided (is_plus e))) (slice_get (kind_of S S.root.kind).ports x) false

  -- direction d of channel x comes from the environment
  unfoldable pub comes_in : ℕ → Dir → Bool
  comes_in x d = is_outer x d

  -- direction d of channel x goes to the environment
  unfoldable pub goes_out : ℕ → Dir → Bool
  goes_out x d = is_outer x (opposite d)
