-- What entries offer: which events, where, and where an answer goes.
use Rattle.std.specs.Prelude.{ℕ, zero, suc, Bool, true, false, if◌then◌else◌, List, [], ◌∷◌, ◌++◌, map, slice_get, Option, Some, None}
use Rattle.std.specs.List.{filter_map}
use Rattle.std.specs.Option.{option_and_then, option_map_or}
use Rattle.kom_base.specs.declared.numbers.Side.TheVariants.{Outside}
use Rattle.kom_base.specs.declared.numbers.Half.{Half}
use Rattle.kom_base.specs.declared.numbers.EntryNo.{EntryNo}
use Rattle.kom_base.specs.declared.values.Event.{Event}
use Rattle.kom_base.specs.Numbers.{other_side}
use Rattle.kom_lang.specs.declared.body.Effect.{Effect}
use Rattle.kom_lang.specs.declared.body.Effect.TheVariants as effect
use Rattle.kom_record.specs.declared.item.Back.{Back}
use Rattle.kom_record.specs.declared.item.Back.TheVariants.{Plain, To, Home}
use Rattle.kom_record.specs.declared.item.Item.{Item}
use Rattle.kom_record.specs.declared.item.Item.TheVariants.{Control, Arrival}
use Rattle.kom_record.specs.declared.entry.Outcome.TheVariants as outcome
use Rattle.kom_record.specs.declared.entry.Entry.{Entry}
use Rattle.kom_record.specs.declared.entry.Entry.TheVariants.{Did, Moved}
use Rattle.kom_record.specs.Entries.{History, item_at, entry_at, before}

-- where an event is offered: at a half, or, where the environment releases it, at its channel
pub data Origin : Type 0 where
  AtHalf : (h : Half) → Origin
  FromOutside : (x : ℕ) → Origin

-- an offered event, with how it goes on: a plain one to all who listen, an answer to where the
-- event of a Took came from
pub record Offer : Type 0 where
  pub origin : Origin
  pub event : Event
  pub back : Back

abbrev pub is_arrival : Item → Bool
is_arrival (Control k) = false
is_arrival (Arrival x d n port side event back) = true

-- ---- an arrived event is passed on

abbrev pub took_of_relay : History → Entry → Option ℕ
took_of_relay P (Did w c took outcome to unreached) = if option_map_or is_arrival (item_at P took) false then Some took else None
took_of_relay P e = None

-- If the event of this number was passed on by a component that had received it, the Took by
-- which that component had received it: the event is the first offer of a Did whose item is an
-- arrival.
unfoldable pub relayed_from : History → EntryNo → Option ℕ
relayed_from P n = elim n.place [ zero ↦ option_and_then (took_of_relay P) (entry_at P n.position) | suc q ↦ None ]

abbrev pub number_of : Item → Option EntryNo
number_of (Control k) = None
number_of (Arrival x d n port side event back) = Some n

-- How an arrived event goes on when it is passed on. An answer to Took s that arrived where the
-- event of Took s had been passed on goes back one step further: to the Took of the component
-- that had passed it on. Where there is no such step the answer has come home.
unfoldable pub relayed_back : History → Back → Back
relayed_back P Plain = Plain
relayed_back P Home = Home
relayed_back P (To s) = option_map_or To (option_and_then (relayed_from P) (option_and_then number_of (item_at P s))) Home

-- the arrived event, offered at the other half of its port
abbrev pub relayed : History → ℕ → Item → List Offer
relayed P c (Control k) = []
relayed P c (Arrival x d n port side event back) =
    record { origin = AtHalf (record { comp = c; port = port; side = other_side side }); event = event; back = relayed_back P back } ∷ []

-- ---- triggers and answers

-- an answer, offered at the half at which the item arrived
abbrev pub answer_to : ℕ → ℕ → Item → Event → Option Offer
answer_to c took (Control k) event = None
answer_to c took (Arrival x d n port side arrived back) event = Some (record { origin = AtHalf (record { comp = c; port = port; side = side }); event = event; back = To took })

-- what an effect offers: a trigger its event at the outside of its port, an answer to the Took
abbrev pub offer_of : ℕ → ℕ → Item → Effect → Option Offer
offer_of c took item (effect.Trigger port event) = Some (record { origin = AtHalf (record { comp = c; port = port; side = Outside }); event = event; back = Plain })
offer_of c took item (effect.Answer event) = answer_to c took item event
offer_of c took item e = None

abbrev pub offers_for : History → ℕ → ℕ → List Effect → Option Item → List Offer
offers_for P c took effects None = []
offers_for P c took effects (Some item) = relayed P c item ++ filter_map (offer_of c took item) effects

-- ---- the offers of effects, by parts

-- the effect offers an event: a trigger does, and an answer where the item is an arrival
abbrev pub offers_event : Bool → Effect → Bool
offers_event to_arrival (effect.Trigger port event) = true
offers_event to_arrival (effect.Answer event) = to_arrival
offers_event to_arrival e = false

abbrev pub event_of : Effect → Option Event
event_of (effect.Trigger port event) = Some event
event_of (effect.Answer event) = Some event
event_of e = None

abbrev pub back_by : ℕ → Effect → Option Back
back_by took (effect.Trigger port event) = Some Plain
back_by took (effect.Answer event) = Some (To took)
back_by took e = None

-- The offers of an entry, in order of place, P the record before it. A Did first passes an arrived
-- event on, and then offers its triggers and answers; a Void and a fault offer nothing. A Moved
-- offers what it releases.
unfoldable pub offers : History → Entry → List Offer
offers P (Did w c took (outcome.Done body effects) to unreached) = offers_for P c took effects (item_at P took)
offers P (Moved w t released) = map (λ r. record { origin = FromOutside r.chan; event = r.event; back = Plain }) released
offers P e = []

-- the offer of a number: of the entry at its position, the one at its place
unfoldable pub offer_at : History → EntryNo → Option Offer
offer_at R n = option_and_then (λ e. slice_get (offers (before R n.position) e) n.place) (entry_at R n.position)
