-- The clock, what went out to the environment, and what the environment still has to release.
use Rattle.std.specs.Prelude.{ℕ, zero, suc, ◌+◌, ◌-◌, ◌%◌, ℤ, pos, negsuc, min, Bool, false, not, ◌&&◌, ◌==◌, nat_lt, if◌then◌else◌, List, [], ◌∷◌, ◌++◌, length, map, filter, slice_get, slice_index_or, Option, Some, None, unwrap_or}
use Rattle.std.specs.List.{list_any, list_all, filter_map, flat_map, enumerate_from}
use Rattle.std.specs.Option.{option_map_or}
use Rattle.rand_pcg.specs.Lcg.{Lcg, started, increment_of}
use Rattle.rand_pcg.specs.Pcg.{multiplier_64, pcg32}
use Rattle.kom_base.specs.declared.numbers.Dir.{Dir}
use Rattle.kom_base.specs.declared.numbers.Dir.TheVariants.{Plus, Minus}
use Rattle.kom_base.specs.declared.numbers.EntryNo.{EntryNo}
use Rattle.kom_base.specs.declared.values.Event.{Event}
use Rattle.kom_base.specs.Numbers.{same_int, is_earlier}
use Rattle.kom_base.specs.Lists.{find_map, if_so, least}
use Rattle.kom_lang.specs.Declarations.{Declarations, kind_of}
use Rattle.kom_lang.specs.declared.kind.PortDecl.{PortDecl}
use Rattle.kom_record.specs.declared.plan.Plan.{Plan}
use Rattle.kom_record.specs.declared.plan.Raise.{Raise}
use Rattle.kom_record.specs.declared.entry.Release.{Release}
use Rattle.kom_record.specs.declared.entry.Entry.{Entry}
use Rattle.kom_record.specs.declared.entry.Entry.TheVariants.{Took, Moved}
use Rattle.kom_record.specs.Entries.{History}
use Rattle.kom_record.specs.Offers.{Offer, offers}
use Rattle.kom_record.specs.Queues.{enters}

abbrev pub time_of : Entry → Option ℕ
time_of (Moved w t released) = Some t
time_of e = None

-- the times to which the record moved, the latest first
unfoldable pub times : History → List ℕ
times P = filter_map time_of P

-- the time of the latest Moved, or 0
unfoldable pub clock : History → ℕ
clock P = unwrap_or (find_map time_of P) 0

-- the times of the Moved entries after a position
unfoldable pub times_after : History → ℕ → List ℕ
times_after [] i = []
times_after (Moved w t released ∷ P) i = if nat_lt i (length P) then t ∷ times_after P i else times_after P i
times_after (e ∷ P) i = times_after P i

-- ---- draws

-- word k, counted from 0, of a generator
unfoldable pub nth_word : ℕ → Lcg → ℕ
nth_word zero g = (pcg32 g).0
nth_word (suc k) g = nth_word k (pcg32 g).1

-- the delay of message k: a number from lo to hi by the word of the same number, of stream 2 of the
-- plan's seed
unfoldable pub draw : Plan → ℕ → ℕ
draw Z k = Z.lo + nth_word k (started 64 multiplier_64 Z.seed (increment_of 64 2)) % (Z.hi - Z.lo + 1)

-- ---- what went out to the environment

-- an event that entered an environment channel towards the environment, with the number of its
-- offer and the clock before its entry
pub record Outgoing : Type 0 where
  pub no : EntryNo
  pub chan : ℕ
  pub event : Event
  pub at : ℕ

abbrev pub longest_delay : ℕ
longest_delay = 1_000_000_000

-- a delay, kept within 0 and the longest delay
abbrev pub clamped : ℤ → ℕ
clamped (pos n) = min n longest_delay
clamped (negsuc n) = 0

abbrev pub first_value : Event → ℤ
first_value event = slice_index_or event.values 0 (pos 0)

-- The environment serves the root's required ports of the built-in port types: Timer, which has
-- the number 0, and Network, which has the number 1.
abbrev pub is_timer : PortDecl → Bool
is_timer p = not p.provided && p.port == 0

abbrev pub is_network : PortDecl → Bool
is_network p = not p.provided && p.port == 1

-- the direction of a root port's channel that goes to the environment
abbrev pub outward : PortDecl → Dir
outward p = if p.provided then Plus else Minus

-- a release that the environment is to make when it is due, with the number of the event that
-- asked for it
pub record Scheduled : Type 0 where
  pub due : ℕ
  pub no : EntryNo
  pub release : Release

-- two events of one channel with the same id
abbrev pub same_timer : Outgoing → Outgoing → Bool
same_timer a b = a.chan == b.chan && same_int (first_value a.event) (first_value b.event)

module _ (S : Declarations) where
  abbrev pub root_ports : List (ℕ × PortDecl)
  root_ports = enumerate_from 0 (kind_of S S.root.kind).ports

  -- what goes out by one offer, by at most one channel
  abbrev pub outgoing_by : History → ℕ × Offer → List Outgoing
  outgoing_by P q = filter_map
      (λ x. if enters S P x.0 (outward x.1) q.1
      then Some (record { no = record { position = length P; place = q.0 }; chan = x.0; event = q.1.event; at = clock P })
      else None)
      root_ports

  -- the events of an entry that go out, P the record before it
  unfoldable pub outgoing_of : History → Entry → List Outgoing
  outgoing_of P e = flat_map (outgoing_by P) (enumerate_from 0 (offers P e))

  -- all that went out, by rising number
  unfoldable pub outgoing : History → List Outgoing
  outgoing [] = []
  outgoing (Took w c item ∷ P) = outgoing P
  outgoing (e ∷ P) = outgoing P ++ outgoing_of P e

  abbrev pub went_by : (PortDecl → Bool) → Outgoing → Bool
  went_by test o = option_map_or test (slice_get (kind_of S S.root.kind).ports o.chan) false

  -- an event that went out by a served Network port
  unfoldable pub is_message : Outgoing → Bool
  is_message o = went_by is_network o

  -- a SetTimer, whose type has the number 0, by a served Timer port
  unfoldable pub is_set_timer : Outgoing → Bool
  is_set_timer o = went_by is_timer o && o.event.kind == 0

  -- a CancelTimer, whose type has the number 1, by a served Timer port
  unfoldable pub is_cancel_timer : Outgoing → Bool
  is_cancel_timer o = went_by is_timer o && o.event.kind == 1

  -- what a SetTimer schedules: the Timeout, whose type has the number 2, with the same id
  unfoldable pub timer : Outgoing → Scheduled
  timer o = record {
    due = o.at + clamped (slice_index_or o.event.values 1 (pos 0));
    no = o.no;
    release = record { chan = o.chan; event = record { kind = 2; values = first_value o.event ∷ [] } };
  }

  -- what message k schedules: itself, after a delay
  unfoldable pub message : Plan → ℕ → Outgoing → Scheduled
  message Z k o = record { due = o.at + draw Z k; no = o.no; release = record { chan = o.chan; event = o.event } }

  -- a later CancelTimer names the timer
  unfoldable pub is_cancelled : List Outgoing → Outgoing → Bool
  is_cancelled all o = list_any (λ c. is_cancel_timer c && same_timer o c && is_earlier o.no c.no) all

  -- the timers among these that none of `all` cancels, and the messages among them, by rising
  -- number; the first message among them is message k of the record
  unfoldable pub scheduled : Plan → List Outgoing → ℕ → List Outgoing → List Scheduled
  scheduled Z all k [] = []
  scheduled Z all k (o ∷ os) =
      if_so (is_set_timer o && not (is_cancelled all o)) (timer o ∷ [])
      ++ (if_so (is_message o) (message Z k o ∷ []) ++ scheduled Z all (if is_message o then suc k else k) os)

  -- ---- what is pending

  -- it is not yet released: since it was scheduled the time has not reached its due time
  unfoldable pub is_still_due : History → Scheduled → Bool
  is_still_due P s = list_all (λ t. nat_lt t s.due) (times_after P s.no.position)

  -- the time has not reached that of the raise
  unfoldable pub is_unraised : History → Raise → Bool
  is_unraised P r = list_all (λ t. nat_lt t r.time) (times P)

  -- All that the environment is still to release, each with its due time: first the plan's raises
  -- in their order, then timers and messages by the number of the event that asked for them.
  unfoldable pub pending : Plan → History → List (ℕ × Release)
  pending Z P =
      let all = outgoing P in
      filter_map (λ r. if is_unraised P r then Some (r.time, record { chan = r.chan; event = r.event }) else None) Z.raises
      ++ map (λ s. (s.due, s.release)) (filter (is_still_due P) (scheduled Z all 0 all))

  -- the least due time, none where nothing is pending
  unfoldable pub due : Plan → History → Option ℕ
  due Z P = least nat_lt (map (λ p. p.0) (pending Z P))

  -- what is released at a time: all that is due then
  unfoldable pub batch : Plan → History → ℕ → List Release
  batch Z P t = filter_map (λ p. if p.0 == t then Some p.1 else None) (pending Z P)
