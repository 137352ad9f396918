-- Who is runnable and what a component takes next; when a record is closed and finished.
use Rattle.std.specs.Prelude.{ℕ, Bool, true, false, not, ◌&&◌, ◌||◌, ◌==◌, nat_le, if◌then◌else◌, List, [], ◌∷◌, length, map, filter, Option, None, is_some, is_none}
use Rattle.std.specs.List.{list_any, filter_map, flat_map, enumerate_from, count_by, sum_by}
use Rattle.std.specs.Option.{option_and_then, option_map, option_map_or}
use Rattle.kom_base.specs.declared.numbers.Dir.{Dir}
use Rattle.kom_base.specs.declared.numbers.Dir.TheVariants.{Plus, Minus}
use Rattle.kom_base.specs.declared.numbers.Half.{Half}
use Rattle.kom_base.specs.declared.numbers.EntryNo.{EntryNo}
use Rattle.kom_base.specs.Numbers.{is_earlier}
use Rattle.kom_base.specs.Lists.{either, first, least}
use Rattle.kom_lang.specs.Declarations.{Declarations}
use Rattle.kom_record.specs.declared.plan.Plan.{Plan}
use Rattle.kom_record.specs.declared.item.Item.{Item}
use Rattle.kom_record.specs.declared.item.Item.TheVariants.{Control, Arrival}
use Rattle.kom_record.specs.declared.entry.Entry.{Entry}
use Rattle.kom_record.specs.declared.entry.Entry.TheVariants.{Took, Did, Moved}
use Rattle.kom_record.specs.Entries.{History, acts, in_hand}
use Rattle.kom_record.specs.Instances.{born, alive}
use Rattle.kom_record.specs.Channels.{channels, destination, held, is_living, goes_out}
use Rattle.kom_record.specs.Bodies.{body_at, nearest}
use Rattle.kom_record.specs.Queues.{Envelope, entered, waiting}
use Rattle.kom_record.specs.Controls.{control_waiting, raised}
use Rattle.kom_record.specs.Time.{pending}

-- an event that a component may take next, as the item that it would be
pub record Candidate : Type 0 where
  pub no : EntryNo
  pub item : Item

abbrev pub is_took : Entry → Bool
is_took (Took w c item) = true
is_took e = false

abbrev pub is_moved : Entry → Bool
is_moved (Moved w t released) = true
is_moved e = false

module _ (S : Declarations) where
  -- ---- the next item

  -- both directions of each channel, in order of number
  unfoldable pub directions : History → List (ℕ × Dir)
  directions P = flat_map (λ x. (x.0, Plus) ∷ (x.0, Minus) ∷ []) (enumerate_from 0 (channels S (acts P)))

  abbrev pub arriving : ℕ → Dir → Half → Envelope → Candidate
  arriving x d h p = record { no = p.no; item = Arrival x d p.no h.port h.side p.event p.back }

  -- the first that waits in a direction, where it can be received by c: the channel is alive and
  -- not held, and its destination end is plugged at a half of c
  unfoldable pub candidate : History → ℕ → ℕ × Dir → Option Candidate
  candidate P c x = option_and_then
      (λ h. if h.comp == c && is_living S (acts P) x.0 && not (held S (acts P) x.0) then option_map (arriving x.0 x.1 h) (first (waiting S P x.0 x.1)) else None)
      (destination S (acts P) x.0 x.1)

  unfoldable pub candidates : History → ℕ → List Candidate
  candidates P c = filter_map (candidate P c) (directions P)

  -- the item that c takes next: the first control item that waits for it, else the event with the
  -- least number that it may receive; of one event in several channels the one in the first channel
  unfoldable pub next : History → ℕ → Option Item
  next P c = either
      (option_map Control (first (control_waiting S P c)))
      (option_map (λ a. a.item) (least (λ a b. is_earlier a.no b.no) (candidates P c)))

  -- ---- who is runnable and ready

  unfoldable pub is_active : History → ℕ → Bool
  is_active P c = option_map_or (λ b. b.active) (body_at S P c) false

  unfoldable pub is_busy : History → ℕ → Bool
  is_busy P c = list_any (λ job. job.c == c) (in_hand P)

  -- c is alive, no job of it is in hand, and a control item waits for it, or it is active and there
  -- is an event that it may receive
  unfoldable pub runnable : History → ℕ → Bool
  runnable P c =
      alive S (acts P) c && not (is_busy P c)
      && (is_some (first (control_waiting S P c)) || (is_active P c && is_some (first (candidates P c))))

  -- ---- the end of a record

  -- the entry raises a fault of which no ancestor is told
  unfoldable pub is_unhandled : History → Entry → Bool
  is_unhandled P (Did w c took outcome to unreached) = is_some (raised P (Did w c took outcome to unreached)) && is_none (nearest S P c)
  is_unhandled P e = false

  unfoldable pub has_unhandled : History → Bool
  has_unhandled [] = false
  has_unhandled (e ∷ P) = has_unhandled P || is_unhandled P e

  -- the record takes no more items: a fault was not handled, or the plan's steps or instants are used up
  unfoldable pub is_closed : Plan → History → Bool
  is_closed Z P = has_unhandled P || nat_le Z.steps (count_by is_took P) || nat_le Z.instants (count_by is_moved P)

  -- c may take its next item
  unfoldable pub ready : Plan → History → ℕ → Bool
  ready Z P c = runnable P c && not (is_closed Z P)

  -- the numbers of all instances that were created
  unfoldable pub instance_numbers : History → List ℕ
  instance_numbers P = map (λ i. i.0) (enumerate_from 0 (born S (acts P)))

  -- those that are ready, in order of number
  unfoldable pub ready_list : Plan → History → List ℕ
  ready_list Z P = filter (ready Z P) (instance_numbers P)

  -- no component is runnable and nothing is pending
  unfoldable pub is_idle : Plan → History → Bool
  is_idle Z P = is_none (first (filter (runnable P) (instance_numbers P))) && is_none (first (pending S Z P))

  -- no job is in hand, and the record is closed or there is nothing to do
  unfoldable pub is_finished : Plan → History → Bool
  is_finished Z P = is_none (first (in_hand P)) && (is_closed Z P || is_idle Z P)

  -- ---- the tally

  -- how many events wait in living channels, those that go to the environment left out
  unfoldable pub queued : History → ℕ
  queued P = sum_by (λ x. if is_living S (acts P) x.0 && not (goes_out S x.0 x.1) then length (waiting S P x.0 x.1) else 0) (directions P)

  -- how many events went out to the environment
  unfoldable pub out : History → ℕ
  out P = sum_by (λ x. if goes_out S x.0 x.1 then length (entered S P x.0 x.1) else 0) (directions P)

  -- some component is runnable, or something is pending
  unfoldable pub has_more : Plan → History → Bool
  has_more Z P = not (is_idle Z P)
