-- What enters a channel, what is received from it, and what waits in it.
use Rattle.std.specs.Prelude.{ℕ, Bool, true, false, not, ◌&&◌, ◌||◌, ◌==◌, if◌then◌else◌, List, [], ◌∷◌, ◌++◌, length, filter, Some, None}
use Rattle.std.specs.List.{list_any, filter_map, enumerate_from}
use Rattle.std.specs.Option.{option_map_or}
use Rattle.kom_base.specs.declared.numbers.Dir.{Dir}
use Rattle.kom_base.specs.declared.numbers.Dir.TheVariants.{Plus, Minus}
use Rattle.kom_base.specs.declared.numbers.EntryNo.{EntryNo}
use Rattle.kom_base.specs.declared.values.Event.{Event}
use Rattle.kom_base.specs.Numbers.{same_dir, opposite, same_half, same_no}
use Rattle.kom_events.specs.Selectors.{matches}
use Rattle.kom_lang.specs.Declarations.{Declarations}
use Rattle.kom_record.specs.declared.item.Back.{Back}
use Rattle.kom_record.specs.declared.item.Back.TheVariants.{Plain, To, Home}
use Rattle.kom_record.specs.declared.item.Item.{Item}
use Rattle.kom_record.specs.declared.item.Item.TheVariants.{Control, Arrival}
use Rattle.kom_record.specs.declared.entry.Entry.{Entry}
use Rattle.kom_record.specs.declared.entry.Entry.TheVariants.{Took, Moved}
use Rattle.kom_record.specs.Entries.{History, acts, item_at}
use Rattle.kom_record.specs.Channels.{channels, source, is_living, selector, comes_in, goes_out}
use Rattle.kom_record.specs.Offers.{Origin, AtHalf, FromOutside, Offer, offers}

-- an event in a channel, with the number of its offer and how it goes on
pub record Envelope : Type 0 where
  pub no : EntryNo
  pub event : Event
  pub back : Back

module _ (S : Declarations) where
  -- ---- what enters

  -- the item came by channel x, in the direction other than d
  abbrev pub came_against : ℕ → Dir → Item → Bool
  came_against x d (Control k) = false
  came_against x d (Arrival y e n port side event back) = y == x && same_dir e (opposite d)

  abbrev pub fits_by : History → ℕ → Dir → Event → Back → Bool
  fits_by P x d event Plain = matches S.events (selector S (acts P) x d) event
  fits_by P x d event (To s) = option_map_or (came_against x d) (item_at P s) false
  fits_by P x d event Home = false

  -- The channel takes the offer in this direction. A plain one must pass the selector; an answer
  -- to Took s goes only back along the channel by which that item came, and no selector is asked;
  -- an answer that has come home goes nowhere.
  unfoldable pub fits : History → ℕ → Dir → Offer → Bool
  fits P x d o = fits_by P x d o.event o.back

  -- the offer is made where direction d of channel x begins
  unfoldable pub starts_at : History → ℕ → Dir → Origin → Bool
  starts_at P x d (AtHalf h) = option_map_or (same_half h) (source S (acts P) x d) false
  starts_at P x d (FromOutside y) = y == x && comes_in S x d

  -- the offer enters direction d of channel x, by the wiring of the record P before its entry
  unfoldable pub enters : History → ℕ → Dir → Offer → Bool
  enters P x d o = starts_at P x d o.origin && is_living S (acts P) x && fits P x d o

  -- what an entry puts into a direction, P the record before it
  unfoldable pub entering : History → Entry → ℕ → Dir → List Envelope
  entering P e x d = filter_map
      (λ q. if enters P x d q.1 then Some (record { no = record { position = length P; place = q.0 }; event = q.1.event; back = q.1.back }) else None)
      (enumerate_from 0 (offers P e))

  -- all that ever entered a direction, by rising number
  unfoldable pub entered : History → ℕ → Dir → List Envelope
  entered [] x d = []
  entered (Took w c item ∷ P) x d = entered P x d
  entered (e ∷ P) x d = entered P x d ++ entering P e x d

  abbrev pub is_answer : Back → Bool
  is_answer (To s) = true
  is_answer b = false

  unfoldable pub reaches_a_channel : History → Offer → Bool
  reaches_a_channel P o = list_any (λ x. enters P x.0 Plus o || enters P x.0 Minus o) (enumerate_from 0 (channels S (acts P)))

  -- the places of the answers of an entry that enter no channel, rising
  unfoldable pub unreached : History → Entry → List ℕ
  unreached P e = filter_map (λ q. if is_answer q.1.back && not (reaches_a_channel P q.1) then Some q.0 else None) (enumerate_from 0 (offers P e))

  -- ---- what is received, and what waits

  -- what an entry takes from a direction
  unfoldable pub taken : Entry → ℕ → Dir → List Envelope
  taken (Took w c (Arrival y e n port side event back)) x d = if y == x && same_dir e d then record { no = n; event = event; back = back } ∷ [] else []
  taken e x d = []

  -- what components took from a direction, in order
  unfoldable pub taken_from : History → ℕ → Dir → List Envelope
  taken_from [] x d = []
  taken_from (e ∷ P) x d = taken_from P x d ++ taken e x d

  -- the record before its latest Moved, empty where it has none
  unfoldable pub before_moved : History → History
  before_moved [] = []
  before_moved (Moved w t released ∷ P) = P
  before_moved (e ∷ P) = before_moved P

  -- what was received from a direction. The environment has received what had entered before time
  -- last moved.
  unfoldable pub received : History → ℕ → Dir → List Envelope
  received P x d = if goes_out S x d then entered (before_moved P) x d else taken_from P x d

  unfoldable pub is_among : List Envelope → Envelope → Bool
  is_among ps p = list_any (λ q. same_no q.no p.no) ps

  -- what entered a direction and was not received, in order
  unfoldable pub waiting : History → ℕ → Dir → List Envelope
  waiting P x d = filter (λ p. not (is_among (received P x d) p)) (entered P x d)
