-- The releases that are still to come.
use Rattle.std.specs.Prelude.{◌≡◌, ℕ, ◌+◌, Bool, true, false, not, ◌&&◌, ◌==◌, if◌then◌else◌, ℤ, pos, List, [], ◌∷◌, filter, slice_index_or, Option, Some, None}
use Rattle.kom_base.specs.declared.numbers.EntryNo.{EntryNo}
use Rattle.kom_base.specs.Numbers.{same_int}
use Rattle.kom_base.specs.declared.values.Event.{Event}
use Rattle.kom_index.specs.Entries.{value_of, inserted}
use Rattle.kom_record.specs.declared.entry.Release.{Release}
use Rattle.kom_record.specs.Time.{Scheduled, clamped, first_value}
use Rattle.kom_env.specs.declared.agenda.Wait.{Wait}
use Rattle.kom_env.specs.declared.keys.Due.{Due}
use Rattle.kom_env.specs.declared.keys.Tag.{Tag}
use Rattle.kom_env.specs.Firsts.{first_of}
use Rattle.kom_env.specs.Keys.{number_cmp}

-- the release is due at a time
abbrev pub is_due : ℕ → EntryNo × Wait → Bool
is_due t e = e.1.due == t

-- the release is into a channel, and its event has this first value
abbrev pub is_tagged : ℕ → ℤ → EntryNo × Wait → Bool
is_tagged x id e = e.1.chan == x && same_int (first_of e.1.values) id

-- the channel and the event of a release
abbrev pub release_of : EntryNo × Wait → Release
release_of e = record { chan = e.1.chan; event = record { kind = e.1.kind; values = e.1.values } }

-- what stands in the model for a release to come
abbrev pub scheduled : EntryNo × Wait → Scheduled
scheduled e = record { due = e.1.due; no = e.0; release = release_of e }

-- what a SetTimer asks for, and what a message does
abbrev pub timer_wait : ℕ → ℕ → Event → Wait
timer_wait clock x event = record { due = clock + clamped (slice_index_or event.values 1 (pos 0)); chan = x; kind = 2; values = first_value event ∷ [] }

abbrev pub message_wait : ℕ → ℕ → Event → Wait
message_wait due x event = record { due = due; chan = x; kind = event.kind; values = event.values }

-- the releases after an event at a served Timer port
abbrev pub after_timer : ℕ → ℕ → EntryNo → Event → List (EntryNo × Wait) → List (EntryNo × Wait)
after_timer clock x n event es =
    if event.kind == 0 then inserted number_cmp n (timer_wait clock x event) es
    else if event.kind == 1 then filter (λ e. not (is_tagged x (first_value event) e)) es
    else es

abbrev pub due_key : EntryNo → Wait → Due
due_key n w = record { time = w.due; no = n }

abbrev pub tag_key : EntryNo → Wait → Tag
tag_key n w = record { chan = w.chan; id = first_of w.values; no = n }

-- the number of a release that passes the test; none where no release does
abbrev pub IsOneOf : (EntryNo × Wait → Bool) → List (EntryNo × Wait) → Option EntryNo → Type 0
IsOneOf p es None = (n : EntryNo) (w : Wait) → value_of number_cmp n es ≡ Some w → p (n, w) ≡ false
IsOneOf p es (Some n) = (w : Wait) × (value_of number_cmp n es ≡ Some w) × (p (n, w) ≡ true)
