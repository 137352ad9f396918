-- What holds of a component, its slot or its channel where an effect of it comes.
use Rattle.std.specs.Prelude.{◌≡◌, ◌≤◌, ◌<◌, ℕ, ◌+◌, true, false, Bool, List, [], ◌∷◌, length, slice_get, None, is_some}
use Rattle.std.specs.Option.{option_map_or}
use Rattle.kom_base.specs.declared.numbers.Dir.{Dir}
use Rattle.kom_base.specs.declared.numbers.Dir.TheVariants.{Plus, Minus}
use Rattle.kom_base.specs.declared.numbers.Side.TheVariants.{Outside, Inside}
use Rattle.kom_base.specs.declared.values.Event.{Event}
use Rattle.kom_lang.specs.Declarations.{Declarations, kind_of, height_of}
use Rattle.kom_lang.specs.declared.kind.Place.{Place}
use Rattle.kom_lang.specs.declared.body.Birth.{Birth}
use Rattle.kom_lang.specs.declared.body.Effect.{Effect}
use Rattle.kom_lang.specs.declared.body.Effect.TheVariants as effect
use Rattle.kom_system.specs.Statements.{event_leaves}
use Rattle.kom_record.specs.declared.item.Item.{Item}
use Rattle.kom_record.specs.declared.item.Item.TheVariants.{Control, Arrival}
use Rattle.kom_record.specs.Entries.{Act}
use Rattle.kom_record.specs.Instances.{born, occupant, ancestry_of}
use Rattle.kom_record.specs.Channels.{half_of, wire_end, wire_held}
use Rattle.kom_agree.specs.Bodies.{birth_fits}

-- the event is of a type that may leave by the port, with as many values as the type has attributes
abbrev pub may_leave : Declarations → (kind port : ℕ) → Event → Bool
may_leave S kind port event = option_map_or (event_leaves S event.kind (length event.values)) (slice_get (kind_of S kind).ports port) false

module _ (S : Declarations) where
  -- The slot is empty, and the tree of the type that is created fits below c.
  pub record MayCreate (done : List Act) (c kind slot k : ℕ) (birth : Birth) : Type 0 where
    pub slot_is : slot < length (kind_of S kind).slots
    pub empty : occupant S done c slot ≡ None
    pub kind_is : k < length S.kinds
    pub birth_is : birth_fits S k birth ≡ true
    pub depth : 1 + length (ancestry_of S (born S done) c) + height_of S k ≤ 16

  -- somebody is in the slot
  pub record IsFilled (done : List Act) (c kind slot : ℕ) : Type 0 where
    pub slot_is : slot < length (kind_of S kind).slots
    pub filled : is_some (occupant S done c slot) ≡ true

  pub record MayResume (done : List Act) (c kind k : ℕ) : Type 0 where
    pub channel_is : k < length (kind_of S kind).channels
    pub plus : is_some (wire_end S done c k Plus) ≡ true
    pub minus : is_some (wire_end S done c k Minus) ≡ true

  -- the channel is held, and the end is plugged
  pub record MayUnplug (done : List Act) (c kind k : ℕ) (e : Dir) : Type 0 where
    pub channel_is : k < length (kind_of S kind).channels
    pub held : wire_held S done c k ≡ true
    pub plugged : is_some (wire_end S done c k e) ≡ true

  -- the channel is held, the end is free, and the place names a half
  pub record MayPlug (done : List Act) (c kind k : ℕ) (e : Dir) (p : Place) : Type 0 where
    pub channel_is : k < length (kind_of S kind).channels
    pub held : wire_held S done c k ≡ true
    pub free : wire_end S done c k e ≡ None
    pub half : is_some (half_of S done c p) ≡ true

  -- an answer leaves by the port at which the event arrived
  abbrev pub MayAnswer : ℕ → Event → Item → Type 0
  MayAnswer kind event (Control k) = ⊥
  MayAnswer kind event (Arrival x d n port Outside arrived back) = may_leave S kind port event ≡ true
  MayAnswer kind event (Arrival x d n port Inside arrived back) = ⊥

  -- an effect of c, whose type is `kind`, in its handling of the item, after the acts `done`
  abbrev pub IsMet : List Act → ℕ → ℕ → Item → Effect → Type 0
  IsMet done c kind item (effect.Trigger port event) = may_leave S kind port event ≡ true
  IsMet done c kind item (effect.Answer event) = MayAnswer kind event item
  IsMet done c kind item (effect.Create slot k birth) = MayCreate done c kind slot k birth
  IsMet done c kind item (effect.Start slot) = IsFilled done c kind slot
  IsMet done c kind item (effect.Stop slot) = IsFilled done c kind slot
  IsMet done c kind item (effect.Dump slot) = IsFilled done c kind slot
  IsMet done c kind item (effect.Destroy slot) = IsFilled done c kind slot
  IsMet done c kind item (effect.Hold k) = k < length (kind_of S kind).channels
  IsMet done c kind item (effect.Resume k) = MayResume done c kind k
  IsMet done c kind item (effect.Unplug k e) = MayUnplug done c kind k e
  IsMet done c kind item (effect.Plug k e p) = MayPlug done c kind k e p
  IsMet done c kind item effect.Escalate = Unit {0}

  -- each effect of a handling, at its place
  abbrev pub AreMet : List Act → ℕ → ℕ → Item → List Effect → Type 0
  AreMet done c kind item [] = Unit {0}
  AreMet done c kind item (e ∷ es) = IsMet done c kind item e × AreMet (record { by = c; item = item; effect = e } ∷ done) c kind item es
