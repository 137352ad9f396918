-- The laws of which channels an offer enters.
use Rattle.std.specs.Prelude.{◌≡◌, ℕ, Bool, false, ◌&&◌, ◌==◌, Option, Some, None, ◌<◌, length, true, List, map, nat_lt, if◌then◌else◌}
use Rattle.std.specs.List.{Contains, enumerate_from, filter_map, list_all}
use Rattle.std.specs.Option.{option_map, option_map_or}
use Rattle.kom_base.specs.declared.numbers.Dir.{Dir}
use Rattle.kom_base.specs.declared.numbers.EntryNo.{EntryNo}
use Rattle.kom_base.specs.declared.numbers.Half.{Half}
use Rattle.kom_base.specs.declared.numbers.Side.{Side}
use Rattle.kom_base.specs.declared.values.Event.{Event}
use Rattle.kom_base.specs.Numbers.{opposite, same_half}
use Rattle.kom_events.specs.Selectors.{matches}
use Rattle.kom_lang.specs.Declarations.{Declarations, kind_of}
use Rattle.kom_record.specs.declared.item.Back.{Back}
use Rattle.kom_record.specs.declared.item.Back.TheVariants.{Plain, To, Home}
use Rattle.kom_record.specs.declared.item.Control.{Control as ControlItem}
use Rattle.kom_record.specs.declared.item.Item.TheVariants.{Control, Arrival}
use Rattle.kom_record.specs.declared.entry.Release.{Release}
use Rattle.kom_record.specs.declared.entry.Entry.TheVariants.{Moved}
use Rattle.kom_record.specs.Entries.{History, acts, item_at}
use Rattle.kom_record.specs.Channels.{comes_in, selector}
use Rattle.kom_record.specs.Offers.{Offer, AtHalf, FromOutside, offer_at}
use Rattle.kom_record.specs.Queues.{Envelope, came_against, entering, enters, reaches_a_channel, waiting}
use Rattle.kom_refine.specs.Points.{StandsAt, start_of}
use Rattle.kom_refine.specs.States.{Link, State, end_of}

-- the living channel begins at the half in that direction
abbrev pub begins_at : Half → Dir → Option Link → Bool
begins_at h d link = option_map_or (λ l. option_map_or (same_half h) (end_of l d) false) link false

-- A plain offer enters the living channels that begin at its half and let it pass, an answer the one by which
-- the event of its Took came, against its way, and an answer that has come home none.
pub record EntersByState (S : Declarations) (P : History) (m : State) (x : ℕ) (d : Dir) (h : Half) (event : Event) : Type 0 where
  pub plain : enters S P x d (record { origin = AtHalf h; event = event; back = Plain }) ≡ (begins_at h d (m.links x) && matches S.events (selector S (acts P) x d) event)
  pub answer : (s : ℕ) → enters S P x d (record { origin = AtHalf h; event = event; back = To s }) ≡ (begins_at h d (m.links x) && option_map_or (came_against S x d) (item_at P s) false)
  pub home : enters S P x d (record { origin = AtHalf h; event = event; back = Home }) ≡ false

abbrev pub OffersEnterByState : Type 0
OffersEnterByState = (S : Declarations) (P : History) (m : State) (x : ℕ) (d : Dir) (h : Half) (event : Event) → StandsAt S (start_of P) m → EntersByState S P m x d h event

-- what is released at a channel of the root enters it from the environment, and nothing else
abbrev pub ReleasesEnterTheirChannel : Type 0
ReleasesEnterTheirChannel = (S : Declarations) (P : History) (x y : ℕ) (d : Dir) (event : Event)
    → y < length (kind_of S S.root.kind).ports → enters S P x d (record { origin = FromOutside y; event = event; back = Plain }) ≡ (y == x && comes_in S x d)

-- an answer to a Took can reach that one channel alone, and none where what was taken is no arrival
pub record GoesOneWay (S : Declarations) (P : History) (o : Offer) (s : ℕ) : Type 0 where
  pub arrival : (x : ℕ) (d : Dir) (n : EntryNo) (port : ℕ) (side : Side) (event : Event) (back : Back)
      → item_at P s ≡ Some (Arrival x d n port side event back) → reaches_a_channel S P o ≡ enters S P x (opposite d) o
  pub control : (k : ControlItem) → item_at P s ≡ Some (Control k) → reaches_a_channel S P o ≡ false
  pub nothing : item_at P s ≡ None → reaches_a_channel S P o ≡ false

abbrev pub AnswersGoOneWay : Type 0
AnswersGoOneWay = (S : Declarations) (P : History) (o : Offer) (s : ℕ) → o.back ≡ To s → GoesOneWay S P o s

-- what has come home reaches nothing
abbrev pub HomeReachesNothing : Type 0
HomeReachesNothing = (S : Declarations) (P : History) (o : Offer) → o.back ≡ Home → reaches_a_channel S P o ≡ false

-- the event is that of the offer with its number, and goes on as that does
pub record IsOfItsOffer (P : History) (q : Envelope) : Type 0 where
  pub event : option_map (λ o. o.event) (offer_at P q.no) ≡ Some q.event
  pub back : option_map (λ o. o.back) (offer_at P q.no) ≡ Some q.back

-- what waits in a channel is read from the record by its number
abbrev pub WaitingIsRead : Type 0
WaitingIsRead = (S : Declarations) (P : History) (x : ℕ) (d : Dir) (q : Envelope) → Contains (waiting S P x d) q → IsOfItsOffer P q

-- each release is at a port of the root
abbrev pub are_at_ports : Declarations → List Release → Bool
are_at_ports S released = list_all (λ r. nat_lt r.chan (length (kind_of S S.root.kind).ports)) released

-- the number with which a release, at its place, enters direction d of channel x
abbrev pub number_into : Declarations → ℕ → ℕ → Dir → ℕ × Release → Option EntryNo
number_into S position x d q = if q.1.chan == x && comes_in S x d then Some (record { position = position; place = q.0 }) else None

-- what a Moved brings into a direction are the numbers of the releases of its channel, in their order,
-- where that direction comes in
abbrev pub ReleasesComeIn : Type 0
ReleasesComeIn = (S : Declarations) (P : History) (w t : ℕ) (released : List Release) (x : ℕ) (d : Dir)
    → are_at_ports S released ≡ true → map (λ q. q.no) (entering S P (Moved w t released) x d) ≡ filter_map (number_into S (length P) x d) (enumerate_from 0 released)
