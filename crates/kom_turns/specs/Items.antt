-- Where an item waits, and what it is.
use Rattle.std.specs.Prelude.{◌≡◌, ℕ, Option, Some}
use Rattle.std.specs.Option.{option_and_then, option_map}
use Rattle.kom_base.specs.declared.numbers.Dir.{Dir}
use Rattle.kom_base.specs.declared.numbers.EntryNo.{EntryNo}
use Rattle.kom_base.specs.declared.numbers.Half.{Half}
use Rattle.kom_base.specs.declared.values.Event.{Event}
use Rattle.kom_base.specs.Numbers.{opposite}
use Rattle.kom_record.specs.declared.item.Back.{Back}
use Rattle.kom_record.specs.declared.item.Item.{Item}
use Rattle.kom_record.specs.declared.item.Item.TheVariants.{Control, Arrival}
use Rattle.kom_record.specs.Entries.{History}
use Rattle.kom_record.specs.Offers.{offer_at}
use Rattle.kom_refine.specs.States.{State, end_of}
use Rattle.kom_record.specs.declared.job.Job.{Job}
use Rattle.kom_state.specs.Parts.{state_of}
use Rattle.kom_turns.specs.declared.run.Run.{Run}
use Rattle.std.specs.Arc.{arc_value}
use Rattle.kom_state.specs.Readings.{first_item, first_number}

-- the item is the first that waits where it came from
abbrev pub WaitsFirst : State → ℕ → Item → Type 0
WaitsFirst m c (Control k) = first_item m c ≡ Some k
WaitsFirst m c (Arrival x d n port side event back) = first_number m x d ≡ Some n

-- how many events it takes out of a channel
abbrev pub events_in : Item → ℕ
events_in (Control k) = 0
events_in (Arrival x d n port side event back) = 1

-- the half at which a direction of a channel ends
abbrev pub half_at : State → ℕ → Dir → Option Half
half_at m x d = option_and_then (λ l. end_of l (opposite d)) (m.links x)

abbrev pub event_at : History → EntryNo → Option Event
event_at R n = option_map (λ o. o.event) (offer_at R n)

abbrev pub back_at : History → EntryNo → Option Back
back_at R n = option_map (λ o. o.back) (offer_at R n)

-- the arrival of the offer of a number by a direction of a channel
pub record IsArrival (m : State) (R : History) (x : ℕ) (d : Dir) (n : EntryNo) (item : Item) : Type 0 where
  pub half : Half
  pub event : Event
  pub back : Back
  pub at : half_at m x d ≡ Some half
  pub event_is : event_at R n ≡ Some event
  pub back_is : back_at R n ≡ Some back
  pub item_is : item ≡ Arrival x d n half.port half.side event back

-- the job of w for c with the item, the body of c and the system
pub record IsJobOf (v : Run) (w c : ℕ) (item : Item) (job : Job) : Type 0 where
  pub worker : job.w ≡ w
  pub component : job.c ≡ c
  pub item_is : job.item ≡ item
  pub body : (state_of v.state).bodies c ≡ Some job.body
  pub system : arc_value job.system ≡ arc_value v.system
