-- What the environment is seen as: what was absorbed and not yet released, and when it is due.
use Rattle.std.specs.Prelude.{ℕ, ◌+◌, ◌-◌, ◌*◌, ◌%◌, ℤ, pos, min, Bool, true, false, not, ◌&&◌, ◌==◌, nat_lt, if◌then◌else◌, List, [], ◌∷◌, ◌++◌, map, filter, slice_get, slice_index_or, Option, Some, None, unwrap_or}
use Rattle.std.specs.List.{filter_map}
use Rattle.std.specs.Option.{option_map_or}
use Rattle.rand_pcg.specs.Lcg.{Lcg, started, increment_of}
use Rattle.rand_pcg.specs.Pcg.{multiplier_64, pcg32}
use Rattle.kom_base.specs.declared.numbers.EntryNo.{EntryNo}
use Rattle.kom_base.specs.declared.values.Event.{Event}
use Rattle.kom_base.specs.Numbers.{same_int, is_earlier}
use Rattle.kom_base.specs.Lists.{least, lesser}
use Rattle.kom_lang.specs.declared.kind.PortDecl.{PortDecl}
use Rattle.kom_record.specs.declared.plan.Plan.{Plan}
use Rattle.kom_record.specs.declared.plan.Raise.{Raise}
use Rattle.kom_record.specs.declared.entry.Release.{Release}
use Rattle.kom_record.specs.Time.{Outgoing, Scheduled, clamped, first_value, is_timer, is_network}
use Rattle.kom_env.specs.Raised.{is_unraised, admitted, released}
use Rattle.kom_env.specs.declared.service.Service.{Service}
use Rattle.kom_env.specs.declared.service.Service.TheVariants.{Timer, Network, Nothing}

-- what the environment does for a port of the root
abbrev pub service_of : PortDecl → Service
service_of p = if is_timer p then Timer else if is_network p then Network else Nothing

-- the services of the root's ports; the plan with all that was admitted; the time of the last
-- release; the timers and messages to come, by rising number; the number of the last event that was
-- absorbed; the generator of the delays; how often there was a release; and for how many more
-- events, or raises, there is room
pub record Outside : Type 0 where
  pub services : List Service
  pub plan : Plan
  pub last : Option ℕ
  pub waits : List Scheduled
  pub latest : Option EntryNo
  pub generator : Lcg
  pub releases : ℕ
  pub spare : ℕ

-- the environment of a run that begins
abbrev pub opened : List PortDecl → Plan → ℕ → Outside
opened ports Z spare = record {
  services = map service_of ports;
  plan = Z;
  last = None;
  waits = [];
  latest = None;
  generator = started 64 multiplier_64 Z.seed (increment_of 64 2);
  releases = 0;
  spare = spare;
}

-- the time of the last release, or 0
abbrev pub clock_of : Outside → ℕ
clock_of v = unwrap_or v.last 0

abbrev pub service_at : Outside → ℕ → Service
service_at v x = unwrap_or (slice_get v.services x) Nothing

-- ---- an event that goes out

-- a SetTimer schedules a Timeout with its id
abbrev pub timer_of : Outgoing → Scheduled
timer_of o = record {
  due = o.at + clamped (slice_index_or o.event.values 1 (pos 0));
  no = o.no;
  release = record { chan = o.chan; event = record { kind = 2; values = first_value o.event ∷ [] } };
}

-- a delay between the plan's bounds, by a word
abbrev pub delay_by : Plan → ℕ → ℕ
delay_by Z word = Z.lo + word % (Z.hi - Z.lo + 1)

-- a message schedules itself, after a delay by the generator's next word
abbrev pub message_of : Outside → Outgoing → Scheduled
message_of v o = record { due = o.at + delay_by v.plan (pcg32 v.generator).0; no = o.no; release = record { chan = o.chan; event = o.event } }

-- what is released into a channel with this first value
abbrev pub is_named : ℕ → ℤ → Scheduled → Bool
is_named x id s = s.release.chan == x && same_int (first_value s.release.event) id

abbrev pub serve : Service → Outside → Outgoing → Outside
serve Timer v o =
    if o.event.kind == 0 then record v { waits = v.waits ++ timer_of o ∷ [] }
    else if o.event.kind == 1 then record v { waits = filter (λ s. not (is_named o.chan (first_value o.event) s)) v.waits }
    else v
serve Network v o = record v { waits = v.waits ++ message_of v o ∷ []; generator = (pcg32 v.generator).1 }
serve Nothing v o = v

-- one event more went out by a channel
abbrev pub absorbed : Outside → ℕ → EntryNo → Event → Outside
absorbed v x n event = record (serve (service_at v x) v (record { no = n; chan = x; event = event; at = clock_of v })) { latest = Some n }

-- ---- what is pending

abbrev pub of_raise : Raise → ℕ × Release
of_raise r = (r.time, released r)

abbrev pub of_wait : Scheduled → ℕ × Release
of_wait s = (s.due, s.release)

-- all that is still to be released, each with its due time: the raises in their order, then timers
-- and messages by number
abbrev pub pending_of : Outside → List (ℕ × Release)
pending_of v = map of_raise (filter (is_unraised v.last) v.plan.raises) ++ map of_wait v.waits

-- the least due time, none where nothing is pending
abbrev pub due_of : Outside → Option ℕ
due_of v = least nat_lt (map (λ p. p.0) (pending_of v))

-- the earlier of two times, where there is one at all
abbrev pub earlier_of : Option ℕ → Option ℕ → Option ℕ
earlier_of None q = q
earlier_of (Some a) q = Some (lesser nat_lt a q)

-- what is released at a time: all that is due then
abbrev pub batch_of : Outside → ℕ → List Release
batch_of v t = filter_map (λ p. if p.0 == t then Some p.1 else None) (pending_of v)

-- the time of the next release
abbrev pub next_time : Outside → ℕ
next_time v = unwrap_or (due_of v) 0

-- after the next release
abbrev pub moved_on : Outside → Outside
moved_on v = record v {
  last = Some (next_time v);
  waits = filter (λ s. nat_lt (next_time v) s.due) v.waits;
  releases = min (v.releases + 1) 18446744073709551615;
}

-- with a raise that is admitted
abbrev pub with_raise : Raise → Plan → Plan
with_raise r Z = record Z { raises = admitted r Z.raises }

-- the number is after that of the last event
abbrev pub is_later : Option EntryNo → EntryNo → Bool
is_later latest n = option_map_or (λ m. is_earlier m n) latest true
